-- What is told of a trail that was not kept.
use Rattle.std.proofs.Common.{◌≡◌, ◌++◌, ℕ, List, Option, Some, None, true, false, is_none, subst}
use Rattle.bl_trail_file.specs.declared.fault.KeepFault.{KeepFault}
use Rattle.bl_keep.specs.declared.whole.Left.{Left}
use Rattle.bl_status.specs.Message.{fault_line}
use Rattle.bl_status.specs.Places.{trail_line}
use Rattle.bl_keep.specs.Unkept.{left_line, rest_line}
use Rattle.bl_trail_file.specs.Telling.{unkept_fault}
use Rattle.bl_status.specs.declared.fault.ProgramFault.{ProgramFault}
use Rattle.bl_wire.specs.Watch.{EndState, Puts}
use Rattle.bl_wire.proofs.PutLaws.{puts-append}

module _ (name : List ℕ) (keep : KeepFault) (fault : ProgramFault) (is : fault ≡ unkept_fault keep) where
  -- nothing is left: which file it was to be
  pub told_none : (left : Option Left) (x y : EndState) → is_none left ≡ true → Puts (fault_line fault ++ trail_line name fault) x y
      → Puts (fault_line (unkept_fault keep) ++ rest_line name (unkept_fault keep) left) x y
  told_none None x y none puts = subst (λ f. Puts (fault_line f ++ trail_line name f) x y) is puts
  told_none (Some left) x y none puts = cc

  -- where what is left is
  pub told_left : (left : Option Left) (x y z : EndState) → is_none left ≡ false → Puts (fault_line fault) x y → Puts (left_line left) y z
      → Puts (fault_line (unkept_fault keep) ++ rest_line name (unkept_fault keep) left) x z
  told_left None x y z some words line = cc
  told_left (Some left) x y z some words line = puts-append (fault_line (unkept_fault keep)) (left_line (Some left)) x y z (subst (λ f. Puts (fault_line f) x y) is words) line
