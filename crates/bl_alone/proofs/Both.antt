-- What is told of a session and then of its trail.
use Rattle.std.proofs.Common.{◌≡◌, ◌++◌, ◌∙◌, ℕ, refl, sym, ap, append-nil, Option, Some, None}
use Rattle.std.specs.Option.{option_to_list}
use Rattle.std.specs.List.{flat_map}
use Rattle.bl_status.specs.Message.{fault_line}
use Rattle.bl_status.specs.Status.{status_after}
use Rattle.bl_status.specs.declared.fault.ProgramFault.{ProgramFault}

pub text_both : (stopped trail : Option ProgramFault) → flat_map fault_line (option_to_list stopped ++ option_to_list trail) ≡ flat_map fault_line (option_to_list stopped) ++ flat_map fault_line (option_to_list trail)
text_both None trail = refl
text_both (Some fault) trail = ap (λ l. l ++ flat_map fault_line (option_to_list trail)) (sym (append-nil (fault_line fault)))

-- the first gives the status
pub status_both : (stopped trail : Option ProgramFault) (status later first : ℕ) → status ≡ status_after 0 (option_to_list stopped) → (status ≡ 0 → stopped ≡ None)
    → later ≡ status_after 0 (option_to_list trail) → (status ≡ 0 → first ≡ later) → ((status ≡ 0 → ⊥) → first ≡ status)
    → first ≡ status_after 0 (option_to_list stopped ++ option_to_list trail)
status_both None trail status later first is fine next none some = none is ∙ next
status_both (Some fault) trail status later first is fine next none some = some (λ zero. let bad = fine zero in cc) ∙ is
