-- Contents at the front of bytes.
use Rattle.std.proofs.Common.{◌≡◌, ℕ, ◌+◌, ◌-◌, ◌≤◌, min, IsTrue, List, ◌++◌, take, length, ap, sym, ◌∙◌, subst, arith, length-append}
use Rattle.std.specs.List.{list_all}
use Rattle.std.proofs.Math.Seq.{take-length}
use Rattle.std.proofs.lemmas.List.{length-take, length-take-le, take_all, take-take, take_min}
use Rattle.bl_document.specs.Content.{IsContent, HasContent, is_content_byte, most_bytes, added}
use Rattle.bl_document.proofs.Additions.{added-front, content-front, all-take}

-- the whole of a content
pub whole : (xs : List ℕ) → IsContent xs → HasContent (length xs) xs
whole xs is = record { within = omega arith; content = subst (λ (l : List ℕ). IsContent l) (sym (take-length xs)) is }

module _ (n : ℕ) (xs : List ℕ) (has : HasContent n xs) where
  pub front-len : length (take n xs) ≡ n
  front-len = length-take-le n xs has.within

  pub few : n ≤ most_bytes
  few = let h : length (take n xs) ≤ most_bytes = has.content.short in omega (arith, front-len)

  -- the front alone
  pub alone : (new : List ℕ) → new ≡ take n xs → take n new ≡ take n xs
  alone new e = take_all n new (omega (arith, ap length e, front-len)) ∙ e

  pub has-alone : (new : List ℕ) → new ≡ take n xs → HasContent n new
  has-alone new e = record {
    within = omega (arith, ap length e, front-len);
    content = subst (λ (l : List ℕ). IsContent l) (sym (alone new e)) has.content;
  }

  -- the front with an addition behind it
  module _ (t new : List ℕ) (r m : ℕ) (room : r ≡ min (most_bytes - n) (length t)) (e : new ≡ take n xs ++ take r t) (long : m ≡ n + length (take r t)) where
    all : take m new ≡ new
    all = take_all m new (omega (arith, ap length e, length-append (take n xs) (take r t), front-len))

    pub grown : take m new ≡ added (take n xs) t
    grown = all ∙ e ∙ added-front (take n xs) t n r (sym front-len) room has.content.short

    pub has-grown : IsTrue (list_all is_content_byte t) → HasContent m new
    has-grown plain = record {
      within = omega (arith, ap length e, length-append (take n xs) (take r t), front-len);
      content = subst (λ (l : List ℕ). IsContent l) (sym (all ∙ e)) (content-front (take n xs) t n r (sym front-len) room has.content plain);
    }

  -- less of the front
  module _ (k m : ℕ) (least : m ≡ min n k) where
    pub shorter : take m xs ≡ take k (take n xs)
    shorter =
        ap (λ i. take i xs) least
        ∙ sym (take-take (min n k) n xs (omega arith))
        ∙ ap (λ i. take i (take n xs)) (min-comm n k ∙ ap (min k) (sym front-len))
        ∙ take_min k (take n xs)
      where
        min-comm : (a b : ℕ) → min a b ≡ min b a
        min-comm a b = omega arith

    pub has-shorter : HasContent m xs
    has-shorter = record {
      within = let w : n ≤ length xs = has.within in omega (arith, least);
      content = subst (λ (l : List ℕ). IsContent l) (sym shorter)
          (record {
            short = let s : length (take n xs) ≤ most_bytes = has.content.short in omega (arith, length-take k (take n xs));
            plain = all-take is_content_byte k (take n xs) has.content.plain;
          });
    }
