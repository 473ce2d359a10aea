-- The table of refusals: each code, with the reason and the place of a refused release, and exactly when it is answered, where no row above it applies.
use Rattle.std.specs.Prelude.{ℕ, ◌%◌, ◌≡◌, Bool, true, false, ◌&&◌, eqb}
use Rattle.model.specs.Limits.{e_sys, e_par, e_id, e_ctx, e_obj, e_tmout, out_of_range, misaligned, already_free, inside_block}
use Rattle.model.specs.Waiting.{waits}
use Rattle.model.specs.Rules.{Rules, ok_task}
use Rattle.model.specs.Calls.{BlockOffset, place_of, no_place, Request, Call, get, release, cancel, Refusal, plain, because, ok_limit, is_poll, entry_of, Store, State, goes, in_range}

module _ (K : Rules) {P : Type 0} (E : Store P) where
  -- a get whose task is in range and does not wait, and whose size and limit may be asked
  pub record Fair (r : Request) (s : State P) : Type 0 where
    pub task : ok_task K r.task ≡ true
    pub size_limit : K.allowed (entry_of r) && ok_limit r.limit ≡ true
    pub away : waits r.task s.queue ≡ false

  -- `ok` says whether the state is sound
  pub data Refused (ok : Bool) (s : State P) : Call → Refusal → Type 0 where
    -- any call but create, state not sound
    sys : {c : Call} → ok ≡ false → Refused ok s c (plain e_sys)
    -- task out of range
    get_id : {r : Request} → ok ≡ true → ok_task K r.task ≡ false → Refused ok s (get r) (plain e_id)
    cancel_id : {t : ℕ} → ok ≡ true → ok_task K t ≡ false → Refused ok s (cancel t) (plain e_id)
    -- size or limit that may not be asked
    get_par : {r : Request} → ok ≡ true → ok_task K r.task ≡ true → K.allowed (entry_of r) && ok_limit r.limit ≡ false → Refused ok s (get r) (plain e_par)
    -- an offset below 8 or at or past the pool's end; one that is no multiple of 4; that of a free block; any other spot
    release_range : {o : BlockOffset} → ok ≡ true → in_range K o ≡ false → Refused ok s (release o) (because out_of_range no_place)
    release_alignment : {o : BlockOffset} → ok ≡ true → in_range K o ≡ true → eqb (o.0 % 4) 0 ≡ false → Refused ok s (release o) (because misaligned no_place)
    release_free : {o : BlockOffset} → ok ≡ true → in_range K o ≡ true → eqb (o.0 % 4) 0 ≡ true → E.idle (place_of o) s.pool ≡ true
        → Refused ok s (release o) (because already_free (place_of o))
    release_inside : {o : BlockOffset} → ok ≡ true → in_range K o ≡ true → eqb (o.0 % 4) 0 ≡ true → E.idle (place_of o) s.pool ≡ false
        → E.live (place_of o) s.pool ≡ false → Refused ok s (release o) (because inside_block (E.holder o s.pool))
    -- get or poll by a task that waits
    get_ctx : {r : Request} → ok ≡ true → ok_task K r.task ≡ true → K.allowed (entry_of r) && ok_limit r.limit ≡ true → waits r.task s.queue ≡ true → Refused ok s (get r) (plain e_ctx)
    -- cancel of a task that does not wait
    cancel_obj : {t : ℕ} → ok ≡ true → ok_task K t ≡ true → waits t s.queue ≡ false → Refused ok s (cancel t) (plain e_obj)
    -- poll, or get with limit 0, that is not granted at once
    get_tmout : {r : Request} → ok ≡ true → Fair r s → is_poll r.limit ≡ true → goes K E (entry_of r) s ≡ false → Refused ok s (get r) (plain e_tmout)
