-- Codes of the matrix and of rules, by which a proof tells two of them apart.
use Rattle.std.specs.Prelude.{◌≡◌, ℕ, zero, suc, ◌==◌, if◌then◌else◌, T, List, refl}
use Rattle.std.proofs.Common.{ap}
use Rattle.std.specs.Coded.{Coded, code_by, coded×, coded_ℕ, coded_list}
use base.Stored.{coded_via, coded_unit}
use mathlib.Core.HLevel.{Σ_prop_path}
use lib.Dec.{T_prop}
use Rattle.std.specs.FinMap.Entries.{is_sorted}
use Rattle.bl_policy.specs.declared.access.Mode.{Mode}
use Rattle.bl_policy.specs.declared.access.Mode.TheVariants.{Read, Append, Write}
use Rattle.bl_policy.specs.declared.rule.Rule.{Rule}
use Rattle.bl_policy.specs.declared.rule.Rule.TheVariants.{Give, Rescind, Current, Classify, Create, Delete}
use Rattle.bl_policy.specs.Mode.{place_of}
use Rattle.bl_policy.specs.Matrix.{Triple, Matrix, triple_cmp}

-- the mode whose bit this is
abbrev pub mode_at : ℕ → Mode
mode_at zero = Read
mode_at (suc zero) = Append
mode_at (suc (suc n)) = Write

pub mode_at-place_of : (m : Mode) → mode_at (place_of m) ≡ m
mode_at-place_of Read = refl
mode_at-place_of Append = refl
mode_at-place_of Write = refl

-- a triple is stored as its three numbers
abbrev pub triple_code : Coded Triple
triple_code =
    code_by (ℕ × (ℕ × ℕ)) (coded× coded_ℕ (coded× coded_ℕ coded_ℕ)) (λ t. (t.subject, (t.document, place_of t.mode)))
    (λ n. record { subject = n.0; document = n.1.0; mode = mode_at n.1.1 })
    (λ t i. record { subject = t.subject; document = t.document; mode = mode_at-place_of t.mode i })

-- two sets with the same triples in order are one
pub same_triples : (a b : Matrix) → a.triples ≡ b.triples → a ≡ b
same_triples a b e =
    let pairs : ◌≡◌ {A = (ts : List (Triple × Unit {0})) × T (is_sorted triple_cmp ts)} (a.triples, a.in_order) (b.triples, b.in_order) = Σ_prop_path (λ ts. T_prop _) e in
    λ i. record { triples = (pairs i).0; in_order = (pairs i).1 }

-- a set is stored as the list of its triples
abbrev pub matrix_code : Coded Matrix
matrix_code = coded_via (coded_list (coded× triple_code coded_unit)) (λ m. m.triples) same_triples

-- a rule is stored as which it is, its subject, its document, its mode, and the rank and the categories of its level
abbrev StoredRule : Type 0
StoredRule = ℕ × (ℕ × (ℕ × (ℕ × (ℕ × ℕ))))

abbrev stored_rule : Rule → StoredRule
stored_rule (Give subject doc mode) = (0, (subject, (doc, (place_of mode, (0, 0)))))
stored_rule (Rescind subject doc mode) = (1, (subject, (doc, (place_of mode, (0, 0)))))
stored_rule (Current level) = (2, (0, (0, (0, (level.rank, level.categories)))))
stored_rule (Classify doc level) = (3, (0, (doc, (0, (level.rank, level.categories)))))
stored_rule (Create doc) = (4, (0, (doc, (0, (0, 0)))))
stored_rule (Delete doc) = (5, (0, (doc, (0, (0, 0)))))

abbrev rule_from : StoredRule → Rule
rule_from t =
    if t.0 == 0 then Give t.1.0 t.1.1.0 (mode_at t.1.1.1.0)
    else (if t.0 == 1 then Rescind t.1.0 t.1.1.0 (mode_at t.1.1.1.0)
    else (if t.0 == 2 then Current (record { rank = t.1.1.1.1.0; categories = t.1.1.1.1.1 })
    else (if t.0 == 3 then Classify t.1.1.0 (record { rank = t.1.1.1.1.0; categories = t.1.1.1.1.1 })
    else (if t.0 == 4 then Create t.1.1.0
    else Delete t.1.1.0))))

pub rule_again : (r : Rule) → rule_from (stored_rule r) ≡ r
rule_again (Give subject doc mode) = ap (Give subject doc) (mode_at-place_of mode)
rule_again (Rescind subject doc mode) = ap (Rescind subject doc) (mode_at-place_of mode)
rule_again (Current level) = refl
rule_again (Classify doc level) = refl
rule_again (Create doc) = refl
rule_again (Delete doc) = refl

abbrev pub rule_code : Coded Rule
rule_code =
    code_by StoredRule (coded× coded_ℕ (coded× coded_ℕ (coded× coded_ℕ (coded× coded_ℕ (coded× coded_ℕ coded_ℕ))))) stored_rule rule_from rule_again
