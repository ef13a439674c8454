-- What the modes fail, at the place of each set of modes: it is what the properties say.
use mir.Val.{bool_byte}
use Rattle.std.proofs.Common.{◌≡◌, ◌+◌, ◌*◌, Bool, true, false, cond, ◌&&◌, ◌||◌, refl, sym, ◌∙◌, ap, List, [], ◌∷◌, get_or}
use Rattle.bl_level.specs.Level.{SecurityLevel, dominates}
use Rattle.bl_policy.specs.declared.access.Mode.TheVariants.{Read, Append, Write}
use Rattle.bl_policy.specs.declared.policy.cell.Cell.{Cell}
use Rattle.bl_policy.specs.declared.policy.cell.Failures.{Failures}
use Rattle.bl_policy.specs.Mode.{has_mode}
use Rattle.bl_policy.specs.Policy.{Clearance}
use Rattle.bl_policy.specs.Properties.{flows}
use Rattle.bl_policy.specs.Cells.{first_failed, no_failures, cell_from, AreFailuresOf}
use Rattle.bl_policy.proofs.Properties.{star-write}

-- what the modes fail, by what the levels say and the modes that the matrix has
abbrev pub failures_by : Bool → Bool → Bool → Bool → Bool → Bool → Failures
failures_by observes reads alters read append write =
    record { read = first_failed observes reads read; append = first_failed true alters append; write = first_failed observes (reads && alters) write }

-- the same for each set of modes
abbrev pub failures : Bool → Bool → Bool → List Failures
failures o r a =
    failures_by o r a false false false ∷ failures_by o r a true false false ∷ failures_by o r a false true false ∷ failures_by o r a true true false
    ∷ failures_by o r a false false true ∷ failures_by o r a true false true ∷ failures_by o r a false true true ∷ failures_by o r a true true true ∷ []

at_place : (o r a read append write : Bool) → get_or (failures o r a) (cond read 1 0 + 2 * cond append 1 0 + 4 * cond write 1 0) no_failures ≡ failures_by o r a read append write
at_place o r a false false false = refl
at_place o r a true false false = refl
at_place o r a false true false = refl
at_place o r a true true false = refl
at_place o r a false false true = refl
at_place o r a true false true = refl
at_place o r a false true true = refl
at_place o r a true true true = refl

-- they are what the modes fail of a subject and a level of which the three tests say so
pub are_failures : (s : Clearance) (level : SecurityLevel) (o r a : Bool) (row : List Failures) → row ≡ failures o r a
    → dominates s.greatest level ≡ o → (s.trusted || dominates s.current level) ≡ r → (s.trusted || dominates level s.current) ≡ a → AreFailuresOf s level row
are_failures s level o r a row is observes reads alters modes =
    ap (λ (failures : List Failures). cell_from failures modes) is
    ∙ ap (λ (f : Failures). let c : Cell = record { modes = modes; read = f.read; append = f.append; write = f.write } in c) (at_place o r a (has_mode modes Read) (has_mode modes Append) (has_mode modes Write))
    ∙ (λ i. record {
      modes = modes;
      read = first_failed (sym observes i) (sym reads i) (has_mode modes Read);
      append = first_failed true (sym alters i) (has_mode modes Append);
      write = first_failed (sym observes i) (writes i) (has_mode modes Write);
    })
  where
    writes : (r && a) ≡ (s.trusted || flows s.current level Write)
    writes = (λ i. sym reads i && sym alters i) ∙ star-write s.trusted s.current level

-- ---- small facts

pub number_of : (b : Bool) → bool_byte b ≡ cond b 1 0
number_of true = refl
number_of false = refl
