-- What the errors of the calls tell: each refusal, by its error.
use Rattle.model.specs.declared.errors.Misplaced.{Misplaced}
use Rattle.model.specs.declared.errors.Misplaced.TheVariants.{OutOfRange, Misaligned, AlreadyFree, InsideBlock}
use Rattle.model.specs.declared.errors.CallError.{CallError}
use Rattle.model.specs.declared.errors.CallError.TheVariants as error
use Rattle.model.specs.Limits.{e_sys, e_par, e_id, e_ctx, e_obj, e_tmout, out_of_range, misaligned, already_free, inside_block}
use Rattle.model.specs.Calls.{no_place, Refusal, plain, because}

-- of a release
abbrev pub misplaced_of : Misplaced → Refusal
misplaced_of OutOfRange = because out_of_range no_place
misplaced_of Misaligned = because misaligned no_place
misplaced_of (AlreadyFree p) = because already_free p
misplaced_of (InsideBlock p) = because inside_block p

-- of any call
abbrev pub refusal_of : CallError → Refusal
refusal_of error.Unsound = plain e_sys
refusal_of error.Parameter = plain e_par
refusal_of (error.Misplaced why) = misplaced_of why
refusal_of error.UnknownTask = plain e_id
refusal_of error.AlreadyWaiting = plain e_ctx
refusal_of error.NotWaiting = plain e_obj
refusal_of error.NotGranted = plain e_tmout
