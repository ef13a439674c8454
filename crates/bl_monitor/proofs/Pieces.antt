-- A text has a piece exactly where a search finds the piece at some place of it.
use Rattle.std.proofs.Common.{◌≡◌, ℕ, zero, suc, ◌+◌, ◌<◌, ◌≤◌, Bool, true, false, inl, inr, List, [], ◌∷◌, ◌++◌, length, get_or, drop, refl, sym, ◌∙◌, ap, arith, length-append, zero-add}
use Rattle.std.specs.Prelude.{nat_eq}
use Rattle.std.specs.List.{starts_with}
use Rattle.std.proofs.lemmas.Bool.{or_cases, or_left, or_right}
use Rattle.std.proofs.lemmas.Bool.Decides.{Decides-eqb}
use Rattle.std.proofs.lemmas.Slice.Eq.{starts_is}
use Rattle.bstr.specs.Find.{OccursAt}
use Rattle.bstr.specs.Text.{Contains}
use Rattle.bl_work.specs.Piece.{has_piece}

get-front : (piece rest : List ℕ) (j : ℕ) → j < length piece → get_or (piece ++ rest) j 0 ≡ get_or piece j 0
get-front [] rest j lt = absurd (omega arith)
get-front (b ∷ piece) rest zero lt = refl
get-front (b ∷ piece) rest (suc j) lt = get-front piece rest j (omega arith)

front : (text piece : List ℕ) → length piece ≤ length text → ((j : ℕ) → j < length piece → get_or text j 0 ≡ get_or piece j 0)
    → text ≡ piece ++ drop (length piece) text
front text [] le reads = refl
front [] (p ∷ piece) le reads = absurd (omega arith)
front (b ∷ bytes) (p ∷ piece) le reads =
    ap (λ c. c ∷ bytes) (reads 0 (omega arith)) ∙ ap (λ l. p ∷ l) (front bytes piece (omega arith) (λ j lt. reads (suc j) (omega arith)))

-- a text that begins with the piece has it at place 0
begins : (text piece : List ℕ) → starts_with nat_eq text piece ≡ true → OccursAt text piece 0
begins text piece h =
    let split : text ≡ piece ++ drop (length piece) text = (starts_is Decides-eqb text piece (starts_with nat_eq text piece) refl).0 h in
    record {
      fits = omega (arith, ap length split, length-append piece (drop (length piece) text));
      reads = λ j lt. ap (λ m. get_or text m 0) (zero-add j) ∙ ap (λ l. get_or l j 0) split ∙ get-front piece (drop (length piece) text) j lt;
    }

-- and the other way round
begun : (text piece : List ℕ) → OccursAt text piece 0 → starts_with nat_eq text piece ≡ true
begun text piece at =
    (starts_is Decides-eqb text piece (starts_with nat_eq text piece) refl).1 (drop (length piece) text)
    (front text piece (omega (arith, at.fits)) (λ j lt. ap (λ m. get_or text m 0) (sym (zero-add j)) ∙ at.reads j lt))

-- one byte before the text moves each place
later : (b : ℕ) (bytes piece : List ℕ) (k : ℕ) → OccursAt bytes piece k → OccursAt (b ∷ bytes) piece (suc k)
later b bytes piece k at = record {
  fits = omega (arith, at.fits);
  reads = λ j lt. let e : suc k + j ≡ suc (k + j) = omega arith in ap (λ m. get_or (b ∷ bytes) m 0) e ∙ at.reads j lt;
}

sooner : (b : ℕ) (bytes piece : List ℕ) (k : ℕ) → OccursAt (b ∷ bytes) piece (suc k) → OccursAt bytes piece k
sooner b bytes piece k at = record {
  fits = omega (arith, at.fits);
  reads = λ j lt. let e : suc (k + j) ≡ suc k + j = omega arith in ap (λ m. get_or (b ∷ bytes) m 0) e ∙ at.reads j lt;
}

pub found : (text piece : List ℕ) → has_piece text piece ≡ true → Contains text piece
found [] piece h = (0, begins [] piece h)
found (b ∷ bytes) piece h =
    elim (or_cases (starts_with nat_eq (b ∷ bytes) piece) (has_piece bytes piece) h) [
      | inl here ↦ (0, begins (b ∷ bytes) piece here)
      | inr behind ↦ let at : Contains bytes piece = found bytes piece behind in (suc at.0, later b bytes piece at.0 at.1)
    ]

pub has : (text piece : List ℕ) (k : ℕ) → OccursAt text piece k → has_piece text piece ≡ true
has [] piece zero at = begun [] piece at
has [] piece (suc k) at = absurd (omega (arith, at.fits))
has (b ∷ bytes) piece zero at = or_left (starts_with nat_eq (b ∷ bytes) piece) (has_piece bytes piece) (begun (b ∷ bytes) piece at)
has (b ∷ bytes) piece (suc k) at =
    or_right (starts_with nat_eq (b ∷ bytes) piece) (has_piece bytes piece) (has bytes piece k (sooner b bytes piece k at))

-- two tests that hold of the same answer the same
pub same_tests : (a b : Bool) → (a ≡ true → b ≡ true) → (b ≡ true → a ≡ true) → a ≡ b
same_tests true b f g = sym (f refl)
same_tests false true f g = g refl
same_tests false false f g = refl
