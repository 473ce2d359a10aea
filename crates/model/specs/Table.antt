-- Document 01's examples marked *, the reasons of a refused release, the greatest time limit, size kinds, and priorities, as one table: in each row a pool is created and called, and all that is expected is written down.
use Rattle.std.specs.Prelude.{ℕ, ◌+◌, ◌-◌, List, [], ◌∷◌, ◌++◌, replicate, ℤ, pos}
use Rattle.model.specs.Limits.{lowest_priority, with_kinds, fifo_order, priority_order, forever, minus, e_ok, waiting, e_par, e_id, e_ctx, e_obj, e_rlwai, e_tmout, out_of_range, misaligned, already_free, inside_block}
use Rattle.model.specs.Blocks.{Block, block}
use Rattle.model.specs.Waiting.{Entry}
use Rattle.model.specs.Rules.{Attributes, rules}
use Rattle.model.specs.Calls.{Woken, Call, get, poll, release, cancel, tick, inquire, Said, Reply, says}
use Rattle.model.specs.Pool.{Stored, view, defaults, perform, create}

-- a call, what it is told, and the block list and queue that it leaves
pub record Line : Type 0 where
  pub call : Call
  pub said : Said
  pub blocks : List Block
  pub queue : List Entry

-- a pool with the attributes `made`, of `long` bytes, each 170 before it is created; the code of its creation, the calls, and the bytes at the end
pub record Row : Type 0 where
  pub made : Attributes
  pub long : ℕ
  pub code : ℤ
  pub lines : List Line
  pub bytes : List ℕ

-- ---- a row's calls, carried out

abbrev pub line_of : Call → Reply Stored → Line
line_of c r = record { call = c; said = r.said; blocks = (view r.state).pool; queue = (view r.state).queue }

unfoldable pub lines_from : Stored → List Line → List Line
lines_from p [] = []
lines_from p (x ∷ xs) = line_of x.call (perform rules x.call p) ∷ lines_from (perform rules x.call p).state xs

unfoldable pub state_from : Stored → List Line → Stored
state_from p [] = p
state_from p (x ∷ xs) = state_from (perform rules x.call p).state xs

abbrev pub fresh : Attributes → ℕ → Reply Stored
fresh a n = create rules a (replicate n 170)

abbrev pub played : Row → Row
played r =
    let begun = fresh r.made r.long in
    record {
      made = r.made;
      long = r.long;
      code = begun.said.code;
      lines = lines_from begun.state r.lines;
      bytes = (state_from begun.state r.lines).bytes;
    }

unfoldable pub played_all : List Row → List Row
played_all [] = []
played_all (r ∷ rs) = played r ∷ played_all rs

-- ---- the rows

-- a get has no limit and the lowest priority where none is given
abbrev pub wants_by : ℕ → ℕ → ℕ → Call
wants_by priority t n = get (record { task = t; size = n; limit = minus 1; priority = priority })

abbrev pub wants : ℕ → ℕ → Call
wants t n = wants_by lowest_priority t n

abbrev pub wants_for : ℕ → ℕ → ℕ → Call
wants_for t n limit = get (record { task = t; size = n; limit = pos limit; priority = lowest_priority })

abbrev pub polls : ℕ → ℕ → Call
polls t n = poll t n lowest_priority

abbrev pub at : ℕ → Call
at o = release (record { 0 = o })

abbrev told : ℤ → ℕ → List Woken → Said
told c o ws = says c (record { 0 = o }) ws

abbrev told_why : ℕ → ℕ → Said
told_why r p = record { code = e_par; offset = record { 0 = 0 }; reason = r; place = record { 0 = p }; woken = []; sum = 0; greatest = 0; head = 0 }

abbrev woke : ℕ → ℤ → ℕ → Woken
woke t c o = record { task = t; code = c; offset = record { 0 = o } }

abbrev pub waits_for : ℕ → ℕ → ℕ → Entry
waits_for t n left = record { task = t; size = n; left = left; priority = lowest_priority }

abbrev pub waits_by : ℕ → ℕ → ℕ → Entry
waits_by priority t n = record { task = t; size = n; left = forever; priority = priority }

abbrev line : Call → Said → List Block → List Entry → Line
line c a bs q = record { call = c; said = a; blocks = bs; queue = q }

abbrev pub blocks_b : List Block
blocks_b = block 20 1 ∷ block 44 0 ∷ []

abbrev pub blocks_c : List Block
blocks_c = block 20 1 ∷ block 28 2 ∷ block 16 0 ∷ []

abbrev pub queue_e : List Entry
queue_e = waits_for 3 12 forever ∷ waits_for 4 4 forever ∷ []

abbrev pub to_c : List Line
to_c = line (wants 1 10) (told e_ok 8 []) blocks_b [] ∷ line (wants 2 20) (told e_ok 28 []) blocks_c [] ∷ []

abbrev pub to_e : List Line
to_e =
    to_c ++ (line (wants 3 12) (told waiting 0 []) blocks_c (waits_for 3 12 forever ∷ [])
    ∷ line (wants 4 4) (told waiting 0 []) blocks_c queue_e
    ∷ [])

-- the 8 bytes of a header whose size is below 256
abbrev head : ℕ → ℕ → List ℕ
head n t = n ∷ 0 ∷ 0 ∷ 0 ∷ t ∷ 0 ∷ 0 ∷ 0 ∷ []

abbrev body : ℕ → List ℕ
body n = replicate n 170

abbrev bytes_c : List ℕ
bytes_c = head 20 1 ++ body 12 ++ head 28 2 ++ body 20 ++ head 16 0 ++ body 8

abbrev pub row_a : Row
row_a = record { made = defaults; long = 64; code = e_ok; lines = []; bytes = head 64 0 ++ body 56 }

abbrev pub row_b : Row
row_b = record { made = defaults; long = 64; code = e_ok; lines = line (wants 1 10) (told e_ok 8 []) blocks_b [] ∷ []; bytes = head 20 1 ++ body 12 ++ head 44 0 ++ body 36 }

abbrev pub row_c : Row
row_c = record { made = defaults; long = 64; code = e_ok; lines = to_c; bytes = bytes_c }

abbrev pub row_e : Row
row_e = record { made = defaults; long = 64; code = e_ok; lines = to_e; bytes = bytes_c }

-- after e also what inquire tells
abbrev pub row_f : Row
row_f =
    record {
      made = defaults;
      long = 64;
      code = e_ok;
      lines = to_e ++ (line (polls 5 4) (told e_tmout 0 []) blocks_c queue_e
          ∷ line inquire (record { code = e_ok; offset = record { 0 = 0 }; reason = 0; place = record { 0 = 0 }; woken = []; sum = 8; greatest = 8; head = 3 }) blocks_c queue_e
          ∷ []);
      bytes = bytes_c;
    }

abbrev pub row_g : Row
row_g =
    record {
      made = defaults;
      long = 64;
      code = e_ok;
      lines = to_e ++ (line (cancel 3) (told e_ok 0 (woke 3 e_rlwai 0 ∷ woke 4 e_ok 56 ∷ [])) (block 20 1 ∷ block 28 2 ∷ block 16 4 ∷ []) [] ∷ []);
      bytes = head 20 1 ++ body 12 ++ head 28 2 ++ body 20 ++ head 16 4 ++ body 8;
    }

abbrev pub row_h : Row
row_h =
    record {
      made = defaults;
      long = 64;
      code = e_ok;
      lines = to_e ++ (line (at 8) (told e_ok 0 (woke 3 e_ok 8 ∷ woke 4 e_ok 56 ∷ [])) (block 20 3 ∷ block 28 2 ∷ block 16 4 ∷ []) [] ∷ []);
      bytes = head 20 3 ++ body 12 ++ head 28 2 ++ body 20 ++ head 16 4 ++ body 8;
    }

-- bytes 48 to 55 are zero
abbrev pub row_i : Row
row_i =
    record {
      made = defaults;
      long = 64;
      code = e_ok;
      lines = to_c ++ (line (at 28) (told e_ok 0 []) blocks_b [] ∷ []);
      bytes = head 20 1 ++ body 12 ++ head 44 0 ++ body 20 ++ replicate 8 0 ++ body 8;
    }

abbrev pub row_j : Row
row_j =
    let blocks-j = block 20 0 ∷ block 28 2 ∷ block 16 0 ∷ [] in
    record {
      made = defaults;
      long = 64;
      code = e_ok;
      lines = to_c ++ (line (at 12) (told_why inside_block 0) blocks_c []
          ∷ line (at 8) (told e_ok 0 []) blocks-j []
          ∷ line (at 8) (told_why already_free 0) blocks-j []
          ∷ []);
      bytes = head 20 0 ++ body 12 ++ head 28 2 ++ body 20 ++ head 16 0 ++ body 8;
    }

-- k: the greatest request and one more, of a length n
abbrev pub row_k : ℕ → ℕ → Row
row_k n most =
    record {
      made = defaults;
      long = n;
      code = e_ok;
      lines = line (wants 1 (most + 1)) (told e_par 0 []) (block n 0 ∷ []) [] ∷ line (wants 1 most) (told e_ok 8 []) (block n 1 ∷ []) [] ∷ [];
      bytes = head n 1 ++ body (n - 8);
    }

-- l: the first tick wakes nobody, the second ends the wait
abbrev pub row_l : Row
row_l =
    record {
      made = defaults;
      long = 64;
      code = e_ok;
      lines = to_c ++ (line (wants_for 3 12 1) (told waiting 0 []) blocks_c (waits_for 3 12 2 ∷ [])
          ∷ line (wants 4 4) (told waiting 0 []) blocks_c (waits_for 3 12 2 ∷ waits_for 4 4 forever ∷ [])
          ∷ line tick (told e_ok 0 []) blocks_c (waits_for 3 12 1 ∷ waits_for 4 4 forever ∷ [])
          ∷ line tick (told e_ok 0 (woke 3 e_tmout 0 ∷ woke 4 e_ok 56 ∷ [])) (block 20 1 ∷ block 28 2 ∷ block 16 4 ∷ []) []
          ∷ []);
      bytes = head 20 1 ++ body 12 ++ head 28 2 ++ body 20 ++ head 16 4 ++ body 8;
    }

-- one more than the greatest limit is refused; the greatest has one tick more than itself left
abbrev pub row_longest : Row
row_longest =
    record {
      made = defaults;
      long = 64;
      code = e_ok;
      lines = to_c ++ (line (wants_for 3 12 2147483648) (told e_par 0 []) blocks_c []
          ∷ line (wants_for 3 12 2147483647) (told waiting 0 []) blocks_c (waits_for 3 12 2147483648 ∷ [])
          ∷ line tick (told e_ok 0 []) blocks_c (waits_for 3 12 2147483647 ∷ [])
          ∷ []);
      bytes = bytes_c;
    }

-- beside the examples: a rest of 12 bytes is split off, a rest of 8 is not
abbrev pub row_split : Row
row_split =
    record {
      made = defaults;
      long = 64;
      code = e_ok;
      lines = line (wants 1 44) (told e_ok 8 []) (block 52 1 ∷ block 12 0 ∷ []) [] ∷ [];
      bytes = head 52 1 ++ body 44 ++ head 12 0 ++ body 4;
    }

abbrev pub row_whole : Row
row_whole = record { made = defaults; long = 64; code = e_ok; lines = line (wants 1 45) (told e_ok 8 []) (block 64 1 ∷ []) [] ∷ []; bytes = head 64 1 ++ body 56 }

-- a release joins the free blocks before and behind it; bytes 20 to 27 and 48 to 55 are zero
abbrev pub row_join : Row
row_join =
    record {
      made = defaults;
      long = 64;
      code = e_ok;
      lines = to_c ++ (line (at 8) (told e_ok 0 []) (block 20 0 ∷ block 28 2 ∷ block 16 0 ∷ []) []
          ∷ line (at 28) (told e_ok 0 []) (block 64 0 ∷ []) []
          ∷ []);
      bytes = head 64 0 ++ body 12 ++ replicate 8 0 ++ body 20 ++ replicate 8 0 ++ body 8;
    }

-- after e task 5 waits and is cancelled: task 3 still does not fit, and task 4, which would, stays behind it
abbrev pub row_stuck : Row
row_stuck =
    record {
      made = defaults;
      long = 64;
      code = e_ok;
      lines = to_e ++ (line (wants 5 4) (told waiting 0 []) blocks_c (queue_e ++ (waits_for 5 4 forever ∷ []))
          ∷ line (cancel 5) (told e_ok 0 (woke 5 e_rlwai 0 ∷ [])) blocks_c queue_e
          ∷ []);
      bytes = bytes_c;
    }

-- after e: each code, and which of two that both apply is answered
abbrev pub row_refused : Row
row_refused =
    record {
      made = defaults;
      long = 64;
      code = e_ok;
      lines = to_e ++ (line (wants 33 4) (told e_id 0 []) blocks_c queue_e
          ∷ line (wants 0 57) (told e_id 0 []) blocks_c queue_e
          ∷ line (polls 3 0) (told e_par 0 []) blocks_c queue_e
          ∷ line (polls 3 4) (told e_ctx 0 []) blocks_c queue_e
          ∷ line (polls 5 4) (told e_tmout 0 []) blocks_c queue_e
          ∷ line (cancel 33) (told e_id 0 []) blocks_c queue_e
          ∷ line (cancel 5) (told e_obj 0 []) blocks_c queue_e
          ∷ []);
      bytes = bytes_c;
    }

-- after c: the offsets at which a reason begins or ends to apply, and those in each block
abbrev wrong : ℕ → ℕ → ℕ → Line
wrong o r p = line (at o) (told_why r p) blocks_c []

abbrev pub row_reasons : Row
row_reasons =
    record {
      made = defaults;
      long = 64;
      code = e_ok;
      lines = to_c ++ (wrong 0 out_of_range 0 ∷ wrong 7 out_of_range 0 ∷ wrong 64 out_of_range 0 ∷ wrong 18446744073709551615 out_of_range 0
          ∷ wrong 9 misaligned 0 ∷ wrong 63 misaligned 0
          ∷ wrong 56 already_free 48
          ∷ wrong 12 inside_block 0 ∷ wrong 16 inside_block 0
          ∷ wrong 20 inside_block 20 ∷ wrong 24 inside_block 20 ∷ wrong 32 inside_block 20 ∷ wrong 44 inside_block 20
          ∷ wrong 48 inside_block 48 ∷ wrong 52 inside_block 48 ∷ wrong 60 inside_block 48
          ∷ []);
      bytes = bytes_c;
    }

-- in the smallest pool, free and then live
abbrev pub row_reasons_least : Row
row_reasons_least =
    let whole = block 12 1 ∷ [] in
    record {
      made = defaults;
      long = 12;
      code = e_ok;
      lines = line (at 8) (told_why already_free 0) (block 12 0 ∷ []) []
          ∷ line (wants 1 4) (told e_ok 8 []) whole []
          ∷ line (at 4) (told_why out_of_range 0) whole []
          ∷ line (at 11) (told_why misaligned 0) whole []
          ∷ line (at 12) (told_why out_of_range 0) whole []
          ∷ line (at 8) (told e_ok 0 []) (block 12 0 ∷ []) []
          ∷ [];
      bytes = head 12 0 ++ body 4;
    }

-- with size kinds

abbrev pub kinds : ℕ → Attributes
kinds m = record { kinds = with_kinds; greatest = m; order = fifo_order }

-- the greatest request is 20, so the kinds are 12 and 36: 1 is rounded to 12, 13 and 20 to 36, and 21 is refused
abbrev pub row_kinds : Row
row_kinds =
    let two = block 20 1 ∷ block 44 2 ∷ [] in
    let queue = waits_for 3 20 forever ∷ waits_for 4 12 forever ∷ [] in
    record {
      made = kinds 20;
      long = 64;
      code = e_ok;
      lines = line (wants 1 21) (told e_par 0 []) (block 64 0 ∷ []) []
          ∷ line (wants 1 1) (told e_ok 8 []) blocks_b []
          ∷ line (wants 2 13) (told e_ok 28 []) two []
          ∷ line (wants 3 20) (told waiting 0 []) two (waits_for 3 20 forever ∷ [])
          ∷ line (wants 4 12) (told waiting 0 []) two queue
          ∷ line (at 8) (told e_ok 0 []) (block 20 0 ∷ block 44 2 ∷ []) queue
          ∷ line (cancel 3) (told e_ok 0 (woke 3 e_rlwai 0 ∷ woke 4 e_ok 8 ∷ [])) (block 20 4 ∷ block 44 2 ∷ []) []
          ∷ [];
      bytes = head 20 4 ++ body 12 ++ head 44 2 ++ body 36;
    }

-- by priority

abbrev pub by_priority : Attributes
by_priority = record { kinds = 0; greatest = 0; order = priority_order }

-- after c, in either order: priorities 0 and 17 are refused, after the test of the task and before that for one that waits
abbrev out_of_priorities : List Block → List Entry → List Line
out_of_priorities bs q =
    line (wants_by 0 5 4) (told e_par 0 []) bs q
    ∷ line (poll 5 4 17) (told e_par 0 []) bs q
    ∷ line (wants_by 0 33 4) (told e_id 0 []) bs q
    ∷ line (wants_by 17 3 4) (told e_par 0 []) bs q
    ∷ []

-- task 3 waits with priority 9. A poll of priority 9 is refused and one of priority 1 granted; its release wakes nobody. Then tasks 4, 5 and 6 wait with
-- priorities 9, 1 and 16. A release does not serve task 5, so nobody behind it; when it leaves, tasks 3 and 4 are served, and task 6 is not.
abbrev pub row_priority : Row
row_priority =
    let three = waits_by 9 3 12 ∷ [] in
    let four = waits_by 9 3 12 ∷ waits_by 9 4 4 ∷ [] in
    let six = waits_by 1 5 20 ∷ waits_by 9 3 12 ∷ waits_by 9 4 4 ∷ waits_by 16 6 4 ∷ [] in
    record {
      made = by_priority;
      long = 64;
      code = e_ok;
      lines = to_c ++ (line (wants_by 9 3 12) (told waiting 0 []) blocks_c three ∷ []) ++ out_of_priorities blocks_c three
          ++ (line (poll 5 4 9) (told e_tmout 0 []) blocks_c three
          ∷ line (poll 5 4 1) (told e_ok 56 []) (block 20 1 ∷ block 28 2 ∷ block 16 5 ∷ []) three
          ∷ line (at 56) (told e_ok 0 []) blocks_c three
          ∷ line (wants_by 9 4 4) (told waiting 0 []) blocks_c four
          ∷ line (wants_by 1 5 20) (told waiting 0 []) blocks_c (waits_by 1 5 20 ∷ four)
          ∷ line (wants_by 16 6 4) (told waiting 0 []) blocks_c six
          ∷ line (at 8) (told e_ok 0 []) (block 20 0 ∷ block 28 2 ∷ block 16 0 ∷ []) six
          ∷ line (cancel 5) (told e_ok 0 (woke 5 e_rlwai 0 ∷ woke 3 e_ok 8 ∷ woke 4 e_ok 56 ∷ [])) (block 20 3 ∷ block 28 2 ∷ block 16 4 ∷ []) (waits_by 16 6 4 ∷ [])
          ∷ []);
      bytes = head 20 3 ++ body 12 ++ head 28 2 ++ body 20 ++ head 16 4 ++ body 8;
    }

-- who asked first is served first, whatever the priorities
abbrev pub row_fifo : Row
row_fifo =
    let three = waits_by 9 3 12 ∷ [] in
    let four = waits_by 9 3 12 ∷ waits_by 1 4 4 ∷ [] in
    record {
      made = defaults;
      long = 64;
      code = e_ok;
      lines = to_c ++ (line (wants_by 9 3 12) (told waiting 0 []) blocks_c three ∷ []) ++ out_of_priorities blocks_c three
          ++ (line (poll 5 4 1) (told e_tmout 0 []) blocks_c three
          ∷ line (wants_by 1 4 4) (told waiting 0 []) blocks_c four
          ∷ line (at 8) (told e_ok 0 (woke 3 e_ok 8 ∷ woke 4 e_ok 56 ∷ [])) (block 20 3 ∷ block 28 2 ∷ block 16 4 ∷ []) []
          ∷ []);
      bytes = head 20 3 ++ body 12 ++ head 28 2 ++ body 20 ++ head 16 4 ++ body 8;
    }

-- what create refuses: the pool keeps its bytes
abbrev row_refused_of : Attributes → Row
row_refused_of a = record { made = a; long = 40; code = e_par; lines = []; bytes = body 40 }

-- the top kind of 37 is 84; a greatest request without kinds; an unknown choice of kinds, and of the order
abbrev pub rows_refused : List Row
rows_refused =
    row_refused_of (kinds 0)
    ∷ row_refused_of (kinds 37)
    ∷ row_refused_of (record { kinds = 0; greatest = 1; order = 0 })
    ∷ row_refused_of (record { kinds = 2; greatest = 1; order = 0 })
    ∷ row_refused_of (record { kinds = 0; greatest = 0; order = 2 })
    ∷ []

abbrev pub table : List Row
table = row_a ∷ row_b ∷ row_c ∷ row_e ∷ row_f ∷ row_g ∷ row_h ∷ row_i ∷ row_j ∷ row_k 64 56 ∷ row_k 12 4 ∷ row_l ∷ row_longest ∷ row_split ∷ row_whole ∷ row_join ∷ row_stuck ∷ row_refused ∷ row_reasons ∷ row_reasons_least ∷ row_kinds ∷ row_priority ∷ row_fifo ∷ rows_refused
