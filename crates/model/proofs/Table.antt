-- The definitions give the examples of blocks and queue, of size kinds and of priorities, and states that meet the theorems' hypotheses, by computation. Stands on no lemma.
use Prim.Native.Nat.{ℕ}
use mathlib.Core.Path.{◌≡◌, refl}
use mathlib.Core.Bool.{Bool, true, false, ◌&&◌}
use mathlib.Core.List.{List, [], ◌∷◌, ◌++◌, map}
use mathlib.Core.Option.{Option, none, some}
use lib.ListN.{length, replicate}
use lib.Dec.{ltb}
use lib.IntN.{ℤ, pos}
use Rattle.model.specs.Limits.{lowest_priority, with_kinds, fifo_order, priority_order, forever, minus, e_ok, waiting, e_sys, e_rlwai, inside_block}
use Rattle.model.specs.Blocks.{Block, block, total, tiled, fits, first_fit, carve, granted, starts_at, holder, join, freed, live_count, sum_free, greatest_free}
use Rattle.model.specs.Bytes.{blocks_of, blocks_from, le32, header, overlay, written, mask, render, erase}
use Rattle.model.specs.Sizes.{kind_for, smallest, kinds_from, kinds_in_use}
use Rattle.model.specs.Waiting.{Entry, waits, entry_in, place_in, remove, head_task, insert, blocked, leads, expired, remaining}
use Rattle.model.specs.Rules.{Attributes, queued, rules}
use Rattle.model.specs.Calls.{Request, Call, get, cancel, tick, inquire, no_offset, says, plain, because, leaves, leave, blocks, serve, head_stuck, sound, tests, act}
use Rattle.model.specs.Runs.{after, run, refuses, refused_by, wake_code, end_code, ticks, releases, winners}
use Rattle.model.specs.Places.{no_entry, pad, used, all_unused, tidy, queue_of}
use Rattle.model.specs.Pool.{Stored, stored, Fifo, view, waiters, wait_bound, sound_by, perform_by, defaults, is_sound, perform, create}
use Rattle.model.specs.Table.{lines_from, state_from, played_all, fresh, wants, wants_by, polls, waits_for, waits_by, at, to_c, to_e, blocks_b, blocks_c, queue_e, kinds, table}

-- ---- the table of examples

pub table-holds : played_all table ≡ table
unfolding total tiled fits first_fit carve granted starts_at holder join freed sum_free greatest_free blocks_from le32 header overlay written mask render erase waits remove head_task insert blocked leads expired remaining queued smallest rules leave serve head_stuck sound tests act pad used all_unused tidy view sound_by perform_by create lines_from state_from played_all
table-holds = refl

-- ---- bytes, by a test

unfoldable pub below : List ℕ → Bool
below [] = true
below (x ∷ l) = ltb x 256 && below l

-- ---- the states after c and after e, and others, sound or not

abbrev pub state_c : Stored
state_c = state_from (fresh defaults 64).state to_c

abbrev pub state_e : Stored
state_e = state_from (fresh defaults 64).state to_e

abbrev pub spoiled : Stored
spoiled = stored (replicate 64 170) state_e.queue

abbrev made : List Block → List Entry → Stored
made bs q = stored (render bs (replicate 64 170)) (queue_of defaults q)

abbrev free_neighbours : Stored
free_neighbours = made (block 20 0 ∷ block 44 0 ∷ []) []

-- task 3 waits for 8 bytes, which lie free
abbrev head-fits : Stored
head-fits = made blocks_c (waits_for 3 8 forever ∷ [])

-- task 3 waits for 12 bytes, with a time left
abbrev stored_with_left : ℕ → Stored
stored_with_left l = made blocks_c (waits_for 3 12 l ∷ [])

abbrev pub asks : ℕ → ℕ → ℕ → Request
asks priority t n = record { task = t; size = n; limit = minus 1; priority = priority }

abbrev pub ask : ℕ → ℕ → Request
ask t n = asks lowest_priority t n

abbrev pub ask_for : ℕ → ℕ → ℕ → Request
ask_for t n limit = record { task = t; size = n; limit = pos limit; priority = lowest_priority }

-- task 3 waits with a limit of 2; then two ticks, and calls that do not serve it
abbrev pub state-limited : Stored
state-limited = (perform rules (get (ask_for 3 12 2)) state_c).state

abbrev pub two_ticks : List Call
two_ticks = get (ask 4 4) ∷ tick ∷ polls 5 4 ∷ inquire ∷ at 12 ∷ tick ∷ cancel 4 ∷ []

pub record Met : Type 0 where
  pub valid : (rules defaults 64).valid ≡ true
  pub sound_c : is_sound rules state_c ≡ true
  pub sound_e : is_sound rules state_e ≡ true
  pub fifo_c : Fifo state_c
  pub fifo_e : Fifo state_e
  pub spoiled_not : is_sound rules spoiled ≡ false
  pub free_neighbours_not : is_sound rules free_neighbours ≡ false
  pub head_fits_not : is_sound rules head-fits ≡ false
  pub left_none_not : is_sound rules (stored_with_left 0) ≡ false
  pub left_least : is_sound rules (stored_with_left 1) ≡ true
  pub left_most : is_sound rules (stored_with_left 2147483648) ≡ true
  pub left_above_not : is_sound rules (stored_with_left 2147483649) ≡ false
  pub left_forever : is_sound rules (stored_with_left forever) ≡ true
  pub bytes_c : below state_c.bytes ≡ true
  pub places_c : length state_c.queue.entries ≡ 32
  pub list_c : (blocks (rules defaults 64)).sound blocks_c ≡ true
  pub list_e : queued (rules defaults 64) queue_e ≡ true
  pub waits_e : waits 4 (waiters state_e) ≡ true
  pub bound_e : wait_bound state_e 4 ≡ 3
  pub told : (perform rules (get (ask 3 12)) state_c).said.code ≡ waiting
  pub told-limited : (perform rules (get (ask_for 3 12 2)) state_c).said.code ≡ waiting
  pub told-longest : (perform rules (get (ask_for 3 12 2147483647)) state_c).said.code ≡ waiting
  pub spared : end_code 3 (run (perform rules) state-limited two_ticks) ≡ none
  pub ticked : ticks two_ticks ≡ 2
  pub granted : (perform rules (get (ask 3 4)) state_c).said.code ≡ e_ok
  pub refused : refused_by (perform rules (at 12) state_c).said ≡ some (because inside_block (record { 0 = 0 }))
  pub refused_spoiled : refused_by (perform rules tick spoiled).said ≡ some (plain e_sys)

pub met : Met
unfolding total tiled fits first_fit carve granted starts_at holder join freed live_count sum_free greatest_free blocks_from le32 header overlay written mask render erase waits place_in remove head_task insert blocked leads expired remaining queued smallest rules leave serve head_stuck sound tests act pad used all_unused tidy view sound_by perform_by create state_from run wake_code end_code ticks refuses below
met =
    record {
      valid = refl;
      sound_c = refl;
      sound_e = refl;
      fifo_c = refl;
      fifo_e = refl;
      spoiled_not = refl;
      free_neighbours_not = refl;
      head_fits_not = refl;
      left_none_not = refl;
      left_least = refl;
      left_most = refl;
      left_above_not = refl;
      left_forever = refl;
      bytes_c = refl;
      places_c = refl;
      list_c = refl;
      list_e = refl;
      waits_e = refl;
      bound_e = refl;
      told = refl;
      told-limited = refl;
      told-longest = refl;
      spared = refl;
      ticked = refl;
      granted = refl;
      refused = refl;
      refused_spoiled = refl;
    }

-- ---- the wait bound: waits that last as long as it allows, and some that do not

-- of a task that waits in a state, and of calls from there: whether the state is sound, the live blocks, the task's place and bound, the successful
-- releases among the calls, and the code with which the first call that wakes the task does so
record Wait : Type 0 where
  good : Bool
  live : ℕ
  place : ℕ
  bound : ℕ
  done : ℕ
  code : Option ℤ

abbrev wait_of : Stored → ℕ → List Call → Wait
wait_of p t cs =
    record {
      good = is_sound rules p;
      live = live_count (blocks_of p.bytes);
      place = place_in t (waiters p);
      bound = wait_bound p t;
      done = releases (run (perform rules) p cs);
      code = end_code t (run (perform rules) p cs);
    }

-- in a sound state
abbrev wait : ℕ → ℕ → ℕ → ℕ → Option ℤ → Wait
wait live place bound done code = record { good = true; live = live; place = place; bound = bound; done = done; code = code }

-- tasks 3 and 4 each wait for the whole pool, of which tasks 1 and 2 have a block each
abbrev state-whole : Stored
state-whole = after (perform rules) state_c (wants 3 56 ∷ wants 4 56 ∷ [])

-- calls with one successful release, and with two
abbrev one_release : List Call
one_release = at 8 ∷ at 8 ∷ polls 5 4 ∷ []

abbrev two_releases : List Call
two_releases = one_release ++ (at 28 ∷ wants 5 4 ∷ at 12 ∷ tick ∷ inquire ∷ cancel 5 ∷ [])

pub record Waits : Type 0 where
  pub head_e : wait_of state_e 3 (at 28 ∷ []) ≡ wait 2 1 2 1 (some e_ok)
  pub second_e : wait_of state_e 4 (at 28 ∷ []) ≡ wait 2 2 3 1 (some e_ok)
  pub head_not : wait_of state-whole 3 one_release ≡ wait 2 1 2 1 none
  pub head : wait_of state-whole 3 (one_release ++ (at 28 ∷ [])) ≡ wait 2 1 2 2 (some e_ok)
  pub second_not : wait_of state-whole 4 two_releases ≡ wait 2 2 3 2 none
  pub second : wait_of state-whole 4 (two_releases ++ (at 8 ∷ [])) ≡ wait 2 2 3 3 (some e_ok)

pub waits_hold : Waits
unfolding total tiled fits first_fit carve granted starts_at holder join freed live_count sum_free greatest_free blocks_from le32 header overlay written mask render erase waits place_in remove head_task insert blocked leads expired remaining queued smallest rules leave serve head_stuck sound tests act pad used all_unused tidy view sound_by perform_by create state_from after run wake_code end_code releases
waits_hold = record { head_e = refl; second_e = refl; head_not = refl; head = refl; second_not = refl; second = refl }

-- ---- size kinds

-- whether create takes the attributes for n bytes
abbrev takes : ℕ → ℕ → ℕ → Bool
takes n choice m = (rules (record { kinds = choice; greatest = m; order = fifo_order }) n).valid

-- a pool of 64 bytes whose kinds are 12 and 36, with blocks of both sizes, and what its queue keeps
abbrev with_queue : Attributes → List Entry → Stored
with_queue a q = stored (render (block 20 1 ∷ block 44 2 ∷ []) (replicate 64 170)) (queue_of a q)

abbrev pub state-kinds : Stored
state-kinds = with_queue (kinds 20) []

-- task 3 waits for a size
abbrev pub with_size : ℕ → Stored
with_size n = with_queue (kinds 20) (waits_for 3 n forever ∷ [])

pub record Kinds : Type 0 where
  -- the 24 sizes of source 000
  pub sizes : kinds_from 0 24
      ≡ 12 ∷ 36 ∷ 84 ∷ 180 ∷ 372 ∷ 756 ∷ 1524 ∷ 3060 ∷ 6132 ∷ 12276 ∷ 24564 ∷ 49140 ∷ 98292 ∷ 196596 ∷ 393204 ∷ 786420 ∷ 1572852 ∷ 3145716 ∷ 6291444 ∷ 12582900 ∷ 25165812 ∷ 50331636 ∷ 100663284 ∷ 201326580 ∷ []
  -- its two examples: 256 and 131,072; the first stops there at 180
  pub uses_256 : kinds_in_use 256 ≡ 12 ∷ 36 ∷ 84 ∷ 180 ∷ 372 ∷ []
  pub uses_131072 : kinds_in_use 131072 ≡ 84 ∷ 180 ∷ 372 ∷ 756 ∷ 1524 ∷ 3060 ∷ 6132 ∷ 12276 ∷ 24564 ∷ 49140 ∷ 98292 ∷ 196596 ∷ []
  -- the greatest requests at which the kinds in use change
  pub uses_edges : map kinds_in_use (1 ∷ 12 ∷ 13 ∷ 36 ∷ 37 ∷ []) ≡ (12 ∷ []) ∷ (12 ∷ []) ∷ (12 ∷ 36 ∷ []) ∷ (12 ∷ 36 ∷ []) ∷ (12 ∷ 36 ∷ 84 ∷ []) ∷ []
  pub uses_372 : map length (map kinds_in_use (372 ∷ 373 ∷ 49140 ∷ 49141 ∷ 98292 ∷ 201326580 ∷ [])) ≡ 5 ∷ 6 ∷ 12 ∷ 12 ∷ 12 ∷ 12 ∷ []
  pub rounds_256 : map (kind_for 256) (1 ∷ 12 ∷ 13 ∷ 36 ∷ 37 ∷ 180 ∷ 181 ∷ 256 ∷ []) ≡ 12 ∷ 12 ∷ 36 ∷ 36 ∷ 84 ∷ 180 ∷ 372 ∷ 372 ∷ []
  pub rounds_131072 : map (kind_for 131072) (1 ∷ 84 ∷ 85 ∷ 98292 ∷ 98293 ∷ 131072 ∷ []) ≡ 84 ∷ 84 ∷ 180 ∷ 98292 ∷ 196596 ∷ 196596 ∷ []
  -- top kind and 8 just fit, or miss by 4
  pub taken : map (λ (n : ℕ). takes n with_kinds 1) (20 ∷ 16 ∷ []) ≡ true ∷ false ∷ []
  pub taken_372 : map (λ (n : ℕ). takes n with_kinds 372) (380 ∷ 376 ∷ []) ≡ true ∷ false ∷ []
  pub taken_373 : map (λ (n : ℕ). takes n with_kinds 373) (764 ∷ 760 ∷ []) ≡ true ∷ false ∷ []
  pub taken_most : map (takes 65536 with_kinds) (0 ∷ 1 ∷ 49140 ∷ 49141 ∷ 201326580 ∷ 201326581 ∷ []) ≡ false ∷ true ∷ true ∷ false ∷ false ∷ false ∷ []
  pub choices : map (λ (c : ℕ). takes 64 c 0) (0 ∷ 1 ∷ 2 ∷ []) ≡ true ∷ false ∷ false ∷ []
  pub choices_12 : map (λ (c : ℕ). takes 64 c 12) (0 ∷ 1 ∷ 2 ∷ []) ≡ false ∷ true ∷ false ∷ []
  -- a queue whose sizes are 1 to the greatest request, and that keeps what create takes
  pub queue_sizes : map (λ (n : ℕ). is_sound rules (with_size n)) (0 ∷ 1 ∷ 20 ∷ 21 ∷ []) ≡ false ∷ true ∷ true ∷ false ∷ []
  pub queue_keeps : map (λ (a : Attributes). is_sound rules (with_queue a [])) (kinds 20 ∷ kinds 36 ∷ kinds 37 ∷ kinds 0 ∷ defaults ∷ record { kinds = 0; greatest = 20; order = 0 } ∷ record { kinds = 2; greatest = 20; order = 0 } ∷ [])
      ≡ true ∷ true ∷ false ∷ false ∷ true ∷ false ∷ false ∷ []
  -- what the theorems ask of a state
  pub bytes : below state-kinds.bytes ≡ true
  pub places : length state-kinds.queue.entries ≡ 32
  pub good : is_sound rules state-kinds ≡ true
  pub good_20 : is_sound rules (with_size 20) ≡ true
  pub told : (perform rules (get (ask 3 20)) state-kinds).said.code ≡ waiting
  pub bound : wait_bound (with_size 20) 3 ≡ 2
  pub waits_3 : waits 3 (waiters (with_size 20)) ≡ true
  -- the wait lasts as long as the bound allows
  pub wait_3 : wait_of (with_size 20) 3 (at 8 ∷ at 8 ∷ at 28 ∷ []) ≡ wait 2 1 2 2 (some e_ok)

pub kinds_hold : Kinds
unfolding total tiled fits first_fit carve granted starts_at holder join freed live_count sum_free greatest_free blocks_from le32 header overlay written mask render erase waits place_in remove head_task insert blocked leads expired remaining queued smallest kinds_from rules leave serve head_stuck sound tests act pad used all_unused tidy view sound_by perform_by run wake_code end_code releases below
kinds_hold =
    record {
      sizes = refl;
      uses_256 = refl;
      uses_131072 = refl;
      uses_edges = refl;
      uses_372 = refl;
      rounds_256 = refl;
      rounds_131072 = refl;
      taken = refl;
      taken_372 = refl;
      taken_373 = refl;
      taken_most = refl;
      choices = refl;
      choices_12 = refl;
      queue_sizes = refl;
      queue_keeps = refl;
      bytes = refl;
      places = refl;
      good = refl;
      good_20 = refl;
      told = refl;
      bound = refl;
      waits_3 = refl;
      wait_3 = refl;
    }

-- ---- priorities

-- a pool of 64 bytes, its order, its blocks and who waits
abbrev ordered : ℕ → List Block → List Entry → Stored
ordered o bs q = stored (render bs (replicate 64 170)) (queue_of (record { kinds = 0; greatest = 0; order = o }) q)

abbrev pub by_priority_c : List Entry → Stored
by_priority_c q = ordered priority_order blocks_c q

-- task 3 waits with priority 9; task 4 with priority 4 behind task 3 with priority 5
abbrev pub waits_3 : List Entry
waits_3 = waits_by 9 3 12 ∷ []

abbrev falling : List Entry
falling = waits_by 5 3 12 ∷ waits_by 4 4 12 ∷ []

abbrev level : List Entry
level = waits_by 5 3 12 ∷ waits_by 5 4 12 ∷ []

-- a place past the last entry that holds a priority
abbrev left_over : Stored
left_over = stored (render blocks_c (replicate 64 170)) (record { attributes = defaults; entries = record { task = 0; size = 0; left = 0; priority = 1 } ∷ pad no_entry 31 [] })

-- task 3 waits with priority 9 for the whole pool, of which task 1 has a block
abbrev for_whole : Stored
for_whole = ordered priority_order blocks_b (waits_by 9 3 56 ∷ [])

-- task 3 is told to wait with priority 9, then task 4 asks with priority 1
abbrev better_between : List Call
better_between = get (asks 1 4 4) ∷ []

abbrev after_better : Stored
after_better = after (perform rules) (perform rules (get (asks 9 3 12)) (by_priority_c [])).state better_between

pub record Priorities : Type 0 where
  pub orders : map (λ (o : ℕ). (rules (record { kinds = 0; greatest = 0; order = o }) 64).valid) (0 ∷ 1 ∷ 2 ∷ 4294967295 ∷ []) ≡ true ∷ true ∷ false ∷ false ∷ []
  -- a queue keeps an order that create takes, priorities of 1 to 16, and by priority stands best first
  pub queue_orders : map (λ (o : ℕ). is_sound rules (ordered o blocks_c [])) (0 ∷ 1 ∷ 2 ∷ []) ≡ true ∷ true ∷ false ∷ []
  pub queue-priorities : map (λ (k : ℕ). is_sound rules (by_priority_c (waits_by k 3 12 ∷ []))) (0 ∷ 1 ∷ 16 ∷ 17 ∷ []) ≡ false ∷ true ∷ true ∷ false ∷ []
  pub fifo_priorities : map (λ (k : ℕ). is_sound rules (ordered fifo_order blocks_c (waits_by k 3 12 ∷ []))) (0 ∷ 1 ∷ 16 ∷ 17 ∷ []) ≡ false ∷ true ∷ true ∷ false ∷ []
  pub best_first : map (λ (q : List Entry). is_sound rules (by_priority_c q)) (falling ∷ level ∷ []) ≡ false ∷ true ∷ []
  pub fifo_any : map (λ (q : List Entry). is_sound rules (ordered fifo_order blocks_c q)) (falling ∷ level ∷ []) ≡ true ∷ true ∷ []
  pub left_over_not : is_sound rules left_over ≡ false
  -- what the theorems ask of a state
  pub bytes : below (by_priority_c []).bytes ≡ true
  pub places : length (by_priority_c []).queue.entries ≡ 32
  pub places_3 : length (by_priority_c waits_3).queue.entries ≡ 32
  pub good : is_sound rules (by_priority_c []) ≡ true
  pub good_3 : is_sound rules (by_priority_c waits_3) ≡ true
  pub told : (perform rules (get (asks 9 3 12)) (by_priority_c [])).said.code ≡ waiting
  pub passes_3 : (perform rules (get (asks 1 4 4)) (by_priority_c waits_3)).said.code ≡ e_ok
  pub here_3 : entry_in 3 (waiters (by_priority_c waits_3)) ≡ some (waits_by 9 3 12)
  pub bound_3 : wait_bound (by_priority_c waits_3) 3 ≡ 2
  -- a better priority between breaks demand 3's first half: the get alone is granted and its task should be woken by the cancellation, but it was
  -- granted already
  pub alone : winners (run (perform rules) (by_priority_c []) better_between) ≡ record { task = 4; code = e_ok; offset = record { 0 = 56 } } ∷ []
  pub cancelled : (perform rules (cancel 3) after_better).said ≡ says e_ok no_offset (leaves e_rlwai 3 ∷ [])
  -- a better priority that asks breaks the wait bound: with one live block and the first place, one release does not end the wait; an equal one does not
  pub better_asks : wait_of for_whole 3 (wants_by 1 5 4 ∷ at 8 ∷ []) ≡ wait 1 1 1 1 none
  pub equal_asks : wait_of for_whole 3 (wants_by 9 5 4 ∷ at 8 ∷ []) ≡ wait 1 1 1 1 (some e_ok)

pub priorities_hold : Priorities
unfolding total tiled fits first_fit carve granted starts_at holder join freed live_count sum_free greatest_free blocks_from le32 header overlay written mask render erase waits entry_in place_in remove head_task insert blocked leads expired remaining queued smallest rules leave serve head_stuck sound tests act pad used all_unused tidy view sound_by perform_by after run winners wake_code end_code releases below
priorities_hold =
    record {
      orders = refl;
      queue_orders = refl;
      queue-priorities = refl;
      fifo_priorities = refl;
      best_first = refl;
      fifo_any = refl;
      left_over_not = refl;
      bytes = refl;
      places = refl;
      places_3 = refl;
      good = refl;
      good_3 = refl;
      told = refl;
      passes_3 = refl;
      here_3 = refl;
      bound_3 = refl;
      alone = refl;
      cancelled = refl;
      better_asks = refl;
      equal_asks = refl;
    }
