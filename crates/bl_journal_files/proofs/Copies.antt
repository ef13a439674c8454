-- A first part of a setup that stands beside a journal.
use Rattle.std.proofs.Common.{◌≡◌, ◌≢◌, ◌↔◌, ◌-◌, ◌∙◌, ℕ, List, [], ◌∷◌, ◌++◌, Bool, true, false, not, IsTrue, eqb, length, take, drop, refl, sym, ap, arith, true≢false}
use Rattle.std.specs.Cmp.Lexicographic.{pointwise}
use Rattle.std.proofs.lemmas.Bool.Decides.{Decides-eqb}
use Rattle.std.proofs.lemmas.Slice.Eq.{ends_is, starts_is}
use Rattle.bl_journal_files.specs.Finding.{IsTornCopy}

-- one of another length that ends within a line is torn
pub torn_copy : (setup copy : List ℕ) (starts ends : Bool) → starts ≡ pointwise eqb copy (take (length copy) setup) → ends ≡ pointwise eqb (10 ∷ []) (drop (length copy - 1) copy)
    → starts ≡ true → length copy ≢ length setup → IsTrue (not ends) ↔ IsTornCopy setup copy
torn_copy setup copy starts true s e yes' other = (
  (λ y. absurd (true≢false (sym y))),
  (λ t. absurd (t.within _ ((ends_is Decides-eqb copy (10 ∷ []) true e).0 refl))),
)
torn_copy setup copy starts false s e yes' other = (
  (λ y. record {
    begins = (drop (length copy) setup, (starts_is Decides-eqb setup copy starts s).0 yes');
    part = λ same. other (ap length same);
    within = λ lines is. absurd (true≢false (sym ((ends_is Decides-eqb copy (10 ∷ []) false e).1 lines is)));
  }),
  (λ t. refl),
)

-- what does not begin so is not
pub other_begin : (setup copy : List ℕ) (starts : Bool) → starts ≡ pointwise eqb copy (take (length copy) setup) → starts ≡ false → IsTornCopy setup copy → ⊥
other_begin setup copy starts s no' t = true≢false (sym ((starts_is Decides-eqb setup copy starts s).1 t.begins.0 t.begins.1) ∙ no')
