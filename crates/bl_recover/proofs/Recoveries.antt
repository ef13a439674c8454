-- How a recovery that closed a trail ends.
use Rattle.std.proofs.Common.{◌≡◌, ℕ, List, inl, inr, subst, sym}
use Rattle.std.specs.Prelude.{String}
use Rattle.std.specs.Global.{Global}
use Rattle.bl_disk.specs.File.{File}
use Rattle.bl_record.specs.Recovering.{IsClosed}
use Rattle.bl_setup.specs.Setup.{Setup}
use Rattle.bl_trail_file.specs.declared.fault.KeepFault.TheVariants.{Unwritable, Memory}
use Rattle.bl_status.specs.Status.{IsEnd}
use Rattle.bl_trail.specs.TrueText.{IsTrueText}
use Rattle.bl_recover.specs.Finishing.{HasFinished}
use Rattle.bl_recover.specs.Recoveries.{HasEnded, IsOfClosed, cut_of, status_of_end}
use Rattle.bl_recover.specs.declared.recover.RecoveryEnd.{RecoveryEnd}
use Rattle.bl_recover.specs.declared.recover.RecoveryEnd.TheVariants.{Recovered, Untold, Unnamed, Refused}

-- one that is told of a closed trail is of that trail
pub has_ended : (setup : Setup) (text : List ℕ) (part : String Global) (file : File) (events cut : ℕ) (end : RecoveryEnd)
    → IsClosed setup text events cut file → IsOfClosed events cut end → HasEnded setup text part end file
has_ended setup text part file events cut (Recovered n m named) closed is =
    subst (λ k. IsClosed setup text k m file) (sym is.0) (subst (λ k. IsClosed setup text events k file) (sym is.1) closed)
has_ended setup text part file events cut (Untold n m named) closed is =
    subst (λ k. IsClosed setup text k m file) (sym is.0) (subst (λ k. IsClosed setup text events k file) (sym is.1) closed)
has_ended setup text part file events cut (Unnamed n m fault) closed is =
    subst (λ k. IsClosed setup text k m file) (sym is.0) (subst (λ k. IsClosed setup text events k file) (sym is.1) closed)
has_ended setup text part file events cut (Refused fault) closed is = absurd is

-- and so is one of which nothing was cut off
pub has_finished : (setup : Setup) (text : List ℕ) (events : ℕ) (end : RecoveryEnd) → IsTrueText setup text events → IsOfClosed events 0 end
    → HasFinished setup text end
has_finished setup text events (Recovered n m named) true_text is = (subst (IsTrueText setup text) (sym is.0) true_text, is.1)
has_finished setup text events (Untold n m named) true_text is = (subst (IsTrueText setup text) (sym is.0) true_text, is.1)
has_finished setup text events (Unnamed n m fault) true_text is = (subst (IsTrueText setup text) (sym is.0) true_text, is.1)
has_finished setup text events (Refused fault) true_text is = absurd is

-- it has so many bytes cut off
pub cut_is : (events cut : ℕ) (end : RecoveryEnd) → IsOfClosed events cut end → cut_of end ≡ cut
cut_is events cut (Recovered n m named) is = is.1
cut_is events cut (Untold n m named) is = is.1
cut_is events cut (Unnamed n m fault) is = is.1
cut_is events cut (Refused fault) is = absurd is

-- its status is that of a run
pub ends : (events cut status : ℕ) (end : RecoveryEnd) → IsOfClosed events cut end → status ≡ status_of_end end → IsEnd status
ends events cut status (Recovered n m named) is e = inl e
ends events cut status (Untold n m named) is e = inr (inl e)
ends events cut status (Unnamed n m Unwritable) is e = inr (inl e)
ends events cut status (Unnamed n m Memory) is e = inr (inr e)
ends events cut status (Refused fault) is e = absurd is
