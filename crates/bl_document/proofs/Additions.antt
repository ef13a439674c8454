-- What stays of an addition that is cut at a greatest length.
use Rattle.std.proofs.Common.{◌≡◌, ℕ, zero, suc, ◌-◌, ◌≤◌, min, Bool, true, false, ◌&&◌, cond, IsTrue, List, [], ◌∷◌, ◌++◌, take, length, refl, ap, sym, ◌∙◌, subst, arith, length-append}
use native.Mathlib.Numerals.{unary_clauses}
use Rattle.std.specs.List.{list_all}
use Rattle.std.proofs.lemmas.List.{length-take}
use Rattle.std.proofs.lemmas.List.Folds.{list_all-append}
use Rattle.bl_document.specs.Content.{IsContent, is_content_byte, most_bytes, added}

take_min : (m : ℕ) (t : List ℕ) → take (min m (length t)) t ≡ take m t
take_min zero t = simp unary_clauses refl
take_min (suc m) [] = simp unary_clauses refl
take_min (suc m) (b ∷ t) = simp unary_clauses (ap (λ l. b ∷ l) (take_min m t))

-- a content stays whole, and of the text stays what there is room for
cut : (n : ℕ) (c t : List ℕ) → length c ≤ n → take n (c ++ t) ≡ c ++ take (n - length c) t
cut n [] t le = simp unary_clauses refl
cut zero (b ∷ c) t le = absurd (omega arith)
cut (suc n) (b ∷ c) t le = simp unary_clauses (ap (λ l. b ∷ l) (cut n c t (omega arith)))

fits : (n : ℕ) (c t : List ℕ) → length c ≤ n → c ++ take (min (n - length c) (length t)) t ≡ take n (c ++ t)
fits n c t le = ap (λ l. c ++ l) (take_min (n - length c) t) ∙ sym (cut n c t le)

short : (n : ℕ) (c t : List ℕ) → length c ≤ n → length (c ++ take (min (n - length c) (length t)) t) ≤ n
short n c t le = omega (arith, length-append c (take (min (n - length c) (length t)) t), length-take (min (n - length c) (length t)) t)

pub all-take : (p : ℕ → Bool) (n : ℕ) (t : List ℕ) → list_all p t ≡ true → list_all p (take n t) ≡ true
all-take p zero t h = refl
all-take p (suc n) [] h = refl
all-take p (suc n) (b ∷ t) h = go (p b) (list_all p t) (list_all p (take n t)) h (all-take p n t)
  where
    go : (x y z : Bool) → (x && y) ≡ true → (y ≡ true → z ≡ true) → (x && z) ≡ true
    go true y z h f = f h
    go false y z h f = h

-- as much of an addition as a content has room for
module _ (c t : List ℕ) (n r : ℕ) (len : n ≡ length c) (room : r ≡ min (most_bytes - n) (length t)) where
  fitting : take r t ≡ take (min (most_bytes - length c) (length t)) t
  fitting = ap (λ k. take k t) (room ∙ ap (λ m. min (most_bytes - m) (length t)) len)

  -- it is what is added
  pub added-front : length c ≤ most_bytes → c ++ take r t ≡ added c t
  unfolding added
  added-front le = ap (λ l. c ++ l) fitting ∙ fits most_bytes c t le

  -- with it a content is a content
  pub content-front : IsContent c → IsTrue (list_all is_content_byte t) → IsContent (c ++ take r t)
  content-front was plain =
      let e : c ++ take r t ≡ c ++ take (min (most_bytes - length c) (length t)) t = ap (λ l. c ++ l) fitting in
      record {
        short = subst (λ (l : List ℕ). length l ≤ most_bytes) (sym e) (short most_bytes c t was.short);
        plain =
            list_all-append is_content_byte c (take r t) ∙ ap (λ b. b && list_all is_content_byte (take r t)) was.plain
            ∙ all-take is_content_byte r t plain;
      }

  -- and where the addition was tried and failed
  pub content-tried : (ok : Bool) (new : List ℕ) → new ≡ cond ok (c ++ take r t) c → IsContent c → IsTrue (list_all is_content_byte t) → IsContent new
  content-tried true new e was plain = subst (λ (l : List ℕ). IsContent l) (sym e) (content-front was plain)
  content-tried false new e was plain = subst (λ (l : List ℕ). IsContent l) (sym e) was
