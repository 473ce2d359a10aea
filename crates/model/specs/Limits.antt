-- The limits of a pool, the choices of create, and the codes that a call answers.
use Rattle.std.specs.Prelude.{ℕ, ◌+◌, ◌-◌, ℤ, pos, negsuc}

-- ---- limits

-- tasks are numbered 1 to this, and the queue and the woken list have as many places
abbrev pub most_tasks : ℕ
most_tasks = 32

-- the greatest length of a pool, in bytes
abbrev pub longest_pool : ℕ
longest_pool = 65536

-- the greatest time limit of a get, in ticks
abbrev pub longest_limit : ℕ
longest_limit = 2147483647

-- the greatest time left of a limited wait, in ticks: a limit ends in the tick after as many have passed
abbrev pub longest_left : ℕ
longest_left = longest_limit + 1

-- priorities are numbered 1, the best, to this
abbrev pub lowest_priority : ℕ
lowest_priority = 16

-- the time left of a wait without a limit
abbrev pub forever : ℕ
forever = 4294967295

-- ---- choices of create

-- sizes asked are rounded up to a multiple of 4
abbrev pub without_kinds : ℕ
without_kinds = 0

-- or to the size kinds of the pool
abbrev pub with_kinds : ℕ
with_kinds = 1

-- who asked first is served first
abbrev pub fifo_order : ℕ
fifo_order = 0

-- or the best priority is, and among equals who asked first
abbrev pub priority_order : ℕ
priority_order = 1

-- ---- codes, by their names in the µITRON 4.0 specification

abbrev pub minus : ℕ → ℤ
minus n = negsuc (n - 1)

-- granted, or done
abbrev pub e_ok : ℤ
e_ok = pos 0

-- told to wait
abbrev pub waiting : ℤ
waiting = pos 1

abbrev pub e_sys : ℤ
e_sys = minus 5

abbrev pub e_par : ℤ
e_par = minus 17

abbrev pub e_id : ℤ
e_id = minus 18

abbrev pub e_ctx : ℤ
e_ctx = minus 25

-- the log writer's: the buffer is too short
abbrev pub e_nomem : ℤ
e_nomem = minus 33

abbrev pub e_obj : ℤ
e_obj = minus 41

abbrev pub e_rlwai : ℤ
e_rlwai = minus 49

abbrev pub e_tmout : ℤ
e_tmout = minus 50

-- ---- reasons of a refused release

-- below 8, or at or past the pool's end
abbrev pub out_of_range : ℕ
out_of_range = 1

-- not a multiple of 4
abbrev pub misaligned : ℕ
misaligned = 2

-- the offset of a free block
abbrev pub already_free : ℕ
already_free = 3

-- any other spot
abbrev pub inside_block : ℕ
inside_block = 4
