-- What lines that are right lead to, by how many of them are read.
use Rattle.std.proofs.Common.{◌≡◌, ℕ, zero, suc, Bool, true, false, not, if◌then◌else◌, List, [], ◌∷◌, ◌++◌, length, refl, sym, ap, subst, ◌∙◌, inl, inr, arith}
use Rattle.bl_setup.specs.Agreement.{of_scheme}
use Rattle.bl_setup.specs.FirstSetupFault.{SoFar, nothing, ranked, declared, Declares, Passes, LeadTo, IsBegun}
use Rattle.bl_setup.specs.Lines.{is_skipped, kept}
use Rattle.bl_setup.specs.Setup.{Setup}
use Rattle.bl_setup.proofs.FirstLemmas.{ReadTo, passes_one}
use Rattle.bl_spot.specs.declared.before.Before.TheVariants as source
use Rattle.bl_spot.specs.Located.{IsBefore, section_of, missing_behind}

-- lines lead to one place
pub leads_one : (before : SoFar) (lines : List (List ℕ)) (a b : SoFar) → LeadTo before lines a → LeadTo before lines b → b ≡ a
leads_one before [] a b l m = m ∙ sym l
leads_one before (line ∷ lines) a b (next, p, l) (next', p', m) =
    leads_one next lines a b l (subst (λ x. LeadTo x lines b) (passes_one before line next next' p p') m)

from_read : (before : SoFar) (line : List ℕ) (lines : List (List ℕ)) (after : SoFar) (b : Bool) → is_skipped line ≡ b → (next : SoFar) → Passes before line next → ReadTo next (kept lines) after
    → ReadTo before (if not b then line ∷ kept lines else kept lines) after
from_read before line lines after true skipped next (inl p) r = subst (λ x. ReadTo x (kept lines) after) p.1 r
from_read before line lines after true skipped next (inr p) r = let e : true ≡ false = sym skipped ∙ p.0 in absurd (cc)
from_read before line lines after false read next (inl p) r = let e : false ≡ true = sym read ∙ p.0 in absurd (cc)
from_read before line lines after false read next (inr p) r = (next, p.1, r)

-- of the lines that lead on, those that are read do
pub leads_read : (before : SoFar) (lines : List (List ℕ)) (after : SoFar) → LeadTo before lines after → ReadTo before (kept lines) after
leads_read before [] after l = l
leads_read before (line ∷ lines) after (next, p, l) = from_read before line lines after (is_skipped line) refl next p (leads_read next lines after l)

-- a setup leads to setups alone
stays : (s : Setup) (lines : List (List ℕ)) (after : SoFar) → ReadTo (declared s) lines after → (t : Setup) × (after ≡ declared t)
stays s [] after r = (s, r)
stays s (line ∷ lines) after (so_far, (next, adds, is), r) = stays next lines after (subst (λ x. ReadTo x lines after) is r)

-- no line that is read declares nothing; one declares the ranks; two or more, a setup
pub data Reads : ℕ → SoFar → Type 0 where
  none : Reads 0 nothing
  one : (names : List (List ℕ)) → Reads 1 (ranked names)
  more : (k : ℕ) (s : Setup) → Reads (suc (suc k)) (declared s)

pub read_so : (lines : List (List ℕ)) (after : SoFar) → ReadTo nothing lines after → Reads (length lines) after
read_so [] after r = subst (Reads 0) (sym r) none
read_so (first ∷ []) after (so_far, (names, ranks, is), r) = subst (Reads 1) (sym (r ∙ is)) (one names)
read_so (first ∷ second ∷ lines) after (so_far, (names, ranks, is), (so_far', d, r)) = go (subst (λ x. Declares x second so_far') is d)
  where
    go : Declares (ranked names) second so_far' → Reads (suc (suc (length lines))) after
    go (scheme, categories, is') =
        let t = stays (of_scheme scheme) lines after (subst (λ x. ReadTo x lines after) is' r) in
        subst (Reads (suc (suc (length lines)))) (sym t.1) (more (length lines) t.0)

-- the section that is missing where the file ends before its categories
pub missing_is : (read : ℕ) (after : SoFar) → Reads read after → (IsBegun after → ⊥) → missing_behind read ≡ section_of after
missing_is _ _ none early = refl
missing_is _ _ (one names) early = refl
missing_is _ _ (more k s) early = absurd (early tt)

-- by how many lines are read

pub before_nothing : (n : ℕ) (after : SoFar) → Reads n after → n ≡ 0 → IsBefore after source.Nothing
before_nothing _ _ none e = tt
before_nothing _ _ (one names) e = absurd (cc)
before_nothing _ _ (more k s) e = absurd (cc)

pub before_ranked : (n : ℕ) (after : SoFar) → Reads n after → n ≡ 1 → IsBefore after source.Ranked
before_ranked _ _ none e = absurd (cc)
before_ranked _ _ (one names) e = tt
before_ranked _ _ (more k s) e = absurd (cc)
