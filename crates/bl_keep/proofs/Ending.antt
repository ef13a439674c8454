-- What is told of a trail at the end of its run, and the status by it.
use Rattle.std.proofs.Common.{◌≡◌, ◌⊎◌, ◌++◌, ◌∷◌, ◌∙◌, [], ℕ, zero, suc, Bool, true, false, List, refl, arith, inl, inr, subst, sym}
use Rattle.std.specs.Prelude.{None, Some, if◌then◌else◌, ◌==◌}
use Rattle.std.proofs.lemmas.Bool.Decides.{nat_tests}
use Rattle.bl_wire.specs.Watch.{EndState, Puts}
use Rattle.bl_wire.proofs.PutLaws.{puts-nil}
use Rattle.bl_status.specs.Status.{status_after, status_of}
use Rattle.bl_status.specs.declared.fault.ProgramFault.{ProgramFault}
use Rattle.bl_status.proofs.Statuses.{status_range}
use Rattle.bl_keep.specs.declared.ended.Finished.{Finished}
use Rattle.bl_keep.specs.declared.whole.Unkept.{Unkept}
use Rattle.bl_keep.specs.Ending.{TellsTrail}
use Rattle.bl_keep.specs.Unkept.{unkept_text}
use Rattle.bl_trail_file.specs.Telling.{unkept_fault}

-- a status stays
stays : (n : ℕ) (later : List ProgramFault) → status_after (suc n) later ≡ suc n
stays n [] = refl
stays n (fault ∷ later) = refl

told-stays : (fault : ProgramFault) (later : List ProgramFault) → status_after (status_of fault) later ≡ status_of fault
told-stays fault later = go (status_of fault) (status_range fault)
  where
    go : (status : ℕ) → (status ≡ 3) ⊎ (status ≡ 4) → status_after status later ≡ status
    go status (inl is) = subst (λ s. status_after s later ≡ s) (sym is) (stays 2 later)
    go status (inr is) = subst (λ s. status_after s later ≡ s) (sym is) (stays 3 later)

pub status-append : (s : ℕ) (a b : List ProgramFault) → status_after (status_after s a) b ≡ status_after s (a ++ b)
status-append s [] b = refl
status-append zero (fault ∷ a) b = told-stays fault b
status-append (suc n) (fault ∷ a) b = stays n b

clash : (b : Bool) → b ≡ true → b ≡ false → ⊥
clash b yes' no' = cc

some_is_some : (unkept : Unkept) → Some unkept ≡ None → ⊥
some_is_some unkept e = cc

-- where there is no trail to keep nothing is told of one
pub untold : (name : List ℕ) (has_one : Bool) (s : ℕ) (finished : Finished) (x y : EndState) → has_one ≡ false → finished.status ≡ s → y ≡ x → TellsTrail name has_one s finished x y
untold name has_one s finished x y none' is same = record {
  trail = None;
  unwritten = λ _. refl;
  kept = λ yes' _. absurd (clash has_one yes' none');
  status_is = is;
  puts = puts-nil x y same;
}

-- one fault more gives the status where there was none before
pub status-one : (s own : ℕ) (fault : ProgramFault) → own ≡ status_of fault → (if s == 0 then own else s) ≡ status_after s (fault ∷ [])
status-one zero own fault is = is
status-one (suc n) own fault is = grind (arith, nat_tests)

-- a trail that was not kept is told
pub told_trail : (name : List ℕ) (unkept : Unkept) (s own : ℕ) (finished : Finished) (x z : EndState)
    → own ≡ status_of (unkept_fault unkept.fault) → finished.status ≡ (if s == 0 then own else s) → Puts (unkept_text name (Some unkept)) x z
    → TellsTrail name true s finished x z
told_trail name unkept s own finished x z by is puts = record {
  trail = Some unkept;
  unwritten = λ off. absurd (clash true refl off);
  kept = λ _ none'. absurd (some_is_some unkept none');
  status_is = is ∙ status-one s own (unkept_fault unkept.fault) by;
  puts = puts;
}
