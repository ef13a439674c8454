-- Pieces that follow each other in a text.
use Rattle.std.proofs.Common.{◌≡◌, ◌≢◌, ℕ, ◌<◌, ◌+◌, Bool, true, false, List, [], ◌∷◌, ◌++◌, length, take, drop, get_or, codes, refl, sym, ◌∙◌, ap, subst, append-nil, append_assoc, add-one}
use Rattle.std.specs.Prelude.{Option, Some, None, IsTrue, ◌↔◌, MatchOption, nat_eq, option_copied}
use Rattle.std.specs.Borrow.{Bor}
use Rattle.std.specs.Cmp.Lexicographic.{pointwise}
use Rattle.std.proofs.lemmas.Bool.Decides.{Decides-eqb}
use Rattle.std.proofs.lemmas.Slice.Eq.{strip_prefix_is}
use Rattle.std.specs.List.{flat_map}
use Rattle.std.proofs.Math.Seq.{take-suc}
use Rattle.std.proofs.lemmas.Grind.{flat_map-append}
use Rattle.bl_wire.specs.Replies.{output_text}
use Rattle.bl_trail.specs.Fronts.{IsLeft}

after_front : (a b c : List ℕ) → a ++ b ≡ a ++ c → b ≡ c
after_front [] b c h = h
after_front (x ∷ a) b c h = after_front a b c (tail h)
  where
    tail : {s t : List ℕ} → x ∷ s ≡ x ∷ t → s ≡ t
    tail q = cc

left-none : (y z : Option (List ℕ)) (b : List ℕ) → y ≡ None → IsLeft y b z → z ≡ None
left-none None z b is q = q
left-none (Some t) z b is q = absurd (cc)

-- two pieces as one
pub left-append : (a b : List ℕ) (x y z : Option (List ℕ)) → IsLeft x a y → IsLeft y b z → IsLeft x (a ++ b) z
left-append a b None y z p q = left-none y z b p q
left-append a b (Some t) None z p q = subst (IsLeft (Some t) (a ++ b)) (sym q) (λ rest h. p (b ++ rest) (h ∙ append_assoc a b rest))
left-append a b (Some t) (Some u) None p q = λ rest h. q rest (after_front a u (b ++ rest) (sym p ∙ h ∙ append_assoc a b rest))
left-append a b (Some t) (Some u) (Some v) p q = p ∙ ap (λ l. a ++ l) q ∙ sym (append_assoc a b v)

pub left-two : (t a b : List ℕ) (x y z : Option (List ℕ)) → t ≡ a ++ b → IsLeft x a y → IsLeft y b z → IsLeft x t z
left-two t a b x y z is p q = subst (λ l. IsLeft x l z) (sym is) (left-append a b x y z p q)

pub left-three : (t a b c : List ℕ) (x y z u : Option (List ℕ)) → t ≡ a ++ (b ++ c) → IsLeft x a y → IsLeft y b z → IsLeft z c u → IsLeft x t u
left-three t a b c x y z u is p q r = left-two t a (b ++ c) x y u is p (left-append b c y z u q r)

pub left-four : (t a b c d : List ℕ) (x y z u v : Option (List ℕ)) → t ≡ a ++ (b ++ (c ++ d)) → IsLeft x a y → IsLeft y b z → IsLeft z c u → IsLeft u d v → IsLeft x t v
left-four t a b c d x y z u v is p q r s = left-two t a (b ++ (c ++ d)) x y v is p (left-three (b ++ (c ++ d)) b c d y z u v refl q r s)

-- the texts of a list, and one more between quotation marks
pub left-output : (front : List ℕ) (xs : List (List ℕ)) (i : ℕ) (text d : List ℕ) (x y z u v : Option (List ℕ)) → i < length xs → text ≡ get_or xs i d
    → IsLeft x (front ++ flat_map output_text (take i xs)) y → IsLeft y (codes " \"") z → IsLeft z text u → IsLeft u (codes "\"") v
    → IsLeft x (front ++ flat_map output_text (take (i + 1) xs)) v
left-output front xs i text d x y z u v lt is p q r s =
    let one : flat_map output_text (take (i + 1) xs) ≡ flat_map output_text (take i xs) ++ output_text text =
    ap (λ k. flat_map output_text (take k xs)) (add-one i) ∙ ap (flat_map output_text) (take-suc xs i d lt ∙ ap (λ t. take i xs ++ t ∷ []) (sym is))
    ∙ flat_map-append output_text (take i xs) (text ∷ []) ∙ ap (λ l. flat_map output_text (take i xs) ++ l) (append-nil (output_text text)) in
    let whole : front ++ flat_map output_text (take (i + 1) xs) ≡ (front ++ flat_map output_text (take i xs)) ++ output_text text =
    ap (λ l. front ++ l) one ∙ sym (append_assoc front (flat_map output_text (take i xs)) (output_text text)) in
    left-two _ (front ++ flat_map output_text (take i xs)) (output_text text) x y v whole p
    (left-three (output_text text) (codes " \"") text (codes "\"") y z u v refl q r s)

-- the pieces are the whole text where nothing is left
pub is-whole : (a t : List ℕ) (left : Option (List ℕ)) (over : Bool) → IsLeft (Some t) a left → (IsTrue over ↔ (left ≡ Some [])) → IsTrue over ↔ (t ≡ a)
is-whole a t None over p is = (λ yes'. absurd (none (is.0 yes')), λ same. absurd (p [] (same ∙ sym (append-nil a))))
  where
    none : ◌≡◌ {A = Option (List ℕ)} None (Some []) → ⊥
    none h = absurd (cc)
is-whole a t (Some rest) over p is = (
  λ yes'. p ∙ ap (λ l. a ++ l) (empty rest (is.0 yes')) ∙ append-nil a,
  λ same. is.1 (ap Some (after_front a rest [] (sym p ∙ same ∙ sym (append-nil a)))),
)
  where
    empty : (l : List ℕ) → ◌≡◌ {A = Option (List ℕ)} (Some l) (Some []) → l ≡ []
    empty l h = cc

-- what is cut off a text that begins so
pub stripped : (s p : List ℕ) (r : Option (Bor (List ℕ)))
    → MatchOption r (pointwise nat_eq (take (length p) s) p ≡ false) (λ x. (pointwise nat_eq (take (length p) s) p ≡ true) × (x.now ≡ drop (length p) s) × (length x.now + length p ≡ length s))
    → IsLeft (Some s) p (option_copied r)
stripped s p r m = go r (strip_prefix_is Decides-eqb s p r m)
  where
    go : (r : Option (Bor (List ℕ))) → MatchOption r ((rest : List ℕ) → s ≢ p ++ rest) (λ x. s ≡ p ++ x.now) → IsLeft (Some s) p (option_copied r)
    go None h = h
    go (Some x) h = h
