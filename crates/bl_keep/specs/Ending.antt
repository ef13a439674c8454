-- What became of the trail of a run.
use Rattle.std.specs.Prelude.{◌≡◌, ℕ, List, Bool, true, false, Option, None, IsSome}
use Rattle.bl_keep.specs.declared.whole.Unkept.{Unkept}
use Rattle.bl_keep.specs.declared.ended.Finished.{Finished}
use Rattle.bl_keep.specs.Unkept.{unkept_faults, unkept_text}
use Rattle.bl_status.specs.Status.{status_after}
use Rattle.bl_wire.specs.Watch.{EndState, Puts}

-- What became of a trail of this name, where there is one to keep, and what is said of it: it is kept, or the fault is
-- told and gives the status, unless there was one before.
pub record TellsTrail (name : List ℕ) (has_one : Bool) (status : ℕ) (finished : Finished)
    (old new : EndState) : Type 0 where
  pub trail : Option Unkept
  pub unwritten : has_one ≡ false → trail ≡ None
  pub kept : has_one ≡ true → trail ≡ None → IsSome finished.kept
  pub status_is : finished.status ≡ status_after status (unkept_faults trail)
  pub puts : Puts (unkept_text name trail) old new
