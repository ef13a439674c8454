-- Lines that were passed, none of which is what is sought.
use Rattle.std.proofs.Common.{◌≡◌, ℕ, zero, suc, ◌+◌, ◌<◌, refl, sym, ◌∙◌, ap, subst, arith, List, [], ◌∷◌, ◌++◌, length, map, Some}
use Rattle.std.specs.Prelude.{slice_get, unwrap_or}
use Rattle.std.proofs.lemmas.List.{length_push}
use Rattle.bl_setup.specs.Lines.{file_lines, lines_of, without_cr}
use Rattle.bl_explain.specs.SetupLines.{HoldsOfNone, IsLineFirst}

some_is : {X : Type 0} (x y : X) → Some x ≡ Some y → x ≡ y
some_is x y e = ap (λ o. unwrap_or o x) e

-- some lines stand before the rest, so many, and it holds of none of them
pub record Passed (P : List ℕ → Type 0) (lines rest : List (List ℕ)) (number : ℕ) : Type 0 where
  pub front : List (List ℕ)
  pub split : lines ≡ front ++ rest
  pub counted : number ≡ length front
  pub none : HoldsOfNone P front

module _ (P : List ℕ → Type 0) where
  pub passed_none : (lines : List (List ℕ)) → Passed P lines lines 0
  passed_none lines = record { front = []; split = refl; counted = refl; none = λ k line at. absurd (cc) }

  one_more : (front : List (List ℕ)) (line : List ℕ) → HoldsOfNone P front → ¬ P line → HoldsOfNone P (front ++ line ∷ [])
  one_more [] line none not_this zero l at = λ h. not_this (subst P (sym (some_is line l at)) h)
  one_more [] line none not_this (suc k) l at = absurd (cc)
  one_more (first ∷ front) line none not_this zero l at = none 0 l at
  one_more (first ∷ front) line none not_this (suc k) l at = one_more front line (λ j m here. none (suc j) m here) not_this k l at

  moved : (front : List (List ℕ)) (line : List ℕ) (rest : List (List ℕ)) → front ++ line ∷ rest ≡ (front ++ line ∷ []) ++ rest
  moved [] line rest = refl
  moved (first ∷ front) line rest = ap (λ l. first ∷ l) (moved front line rest)

  pub passed_more : (lines rest : List (List ℕ)) (line : List ℕ) (number : ℕ) → Passed P lines (line ∷ rest) number → ¬ P line → Passed P lines rest (number + 1)
  passed_more lines rest line number p not_this = record {
    front = p.front ++ line ∷ [];
    split = p.split ∙ moved p.front line rest;
    counted = ap (λ n. n + 1) p.counted ∙ sym (length_push p.front line);
    none = one_more p.front line p.none not_this;
  }

  at_end : (front : List (List ℕ)) (line : List ℕ) (rest : List (List ℕ)) → slice_get (front ++ line ∷ rest) (length front) ≡ Some line
  at_end [] line rest = refl
  at_end (first ∷ front) line rest = at_end front line rest

  in_front : (front rest : List (List ℕ)) (k : ℕ) → k < length front → slice_get (front ++ rest) k ≡ slice_get front k
  in_front [] rest k h = absurd (omega (arith, h))
  in_front (first ∷ front) rest zero h = refl
  in_front (first ∷ front) rest (suc k) h = in_front front rest k (omega (arith, h))

  pub passed_found : (lines rest : List (List ℕ)) (line : List ℕ) (number : ℕ) → Passed P lines (line ∷ rest) number → P line → IsLineFirst P lines (number + 1)
  passed_found lines rest line number p is = record {
    place = length p.front;
    line = line;
    counted = omega (arith, p.counted);
    at = ap (λ l. slice_get l (length p.front)) p.split ∙ at_end p.front line rest;
    is = is;
    before = λ k earlier h at. p.none k earlier (sym (ap (λ l. slice_get l k) p.split ∙ in_front p.front (line ∷ rest) k h) ∙ at);
  }

  with_nothing : (front : List (List ℕ)) → front ++ [] ≡ front
  with_nothing [] = refl
  with_nothing (first ∷ front) = ap (λ l. first ∷ l) (with_nothing front)

  pub passed_all : (lines : List (List ℕ)) (number : ℕ) → Passed P lines [] number → HoldsOfNone P lines
  passed_all lines number p = subst (HoldsOfNone P) (sym (p.split ∙ with_nothing p.front)) p.none

  -- the next line of a file
  pub passed_on : (lines : List (List ℕ)) (bytes behind line : List ℕ) (number : ℕ) → Passed P lines (file_lines bytes) number → lines_of bytes ≡ line ∷ lines_of behind
      → Passed P lines (without_cr line ∷ file_lines behind) number
  passed_on lines bytes behind line number p cut = subst (λ l. Passed P lines l number) (ap (map without_cr) cut) p

-- no line stands in no bytes
pub no_lines : (bytes : List ℕ) → length bytes ≡ 0 → file_lines bytes ≡ []
no_lines [] e = refl
no_lines (b ∷ bytes) e = absurd (omega (arith, e))
