-- What a level's text means, and sets of modes.
use Rattle.std.proofs.Common.{◌≡◌, ℕ, ◌<◌, bytes_eq, List, ◌∷◌, ◌++◌, length, get_or, Some, refl, sym, ◌∙◌, arith, length-append}
use Rattle.std.specs.Prelude.{Contains}
use Rattle.std.specs.Int.{bit_at}
use Rattle.std.proofs.lemmas.List.{get_or_append_left, get_or_at}
use Rattle.std.proofs.lemmas.List.Quantifiers.{position-Some}
use Rattle.std.proofs.lemmas.Nat.Bits.{bit_at-lt, same_from_bits}
use Rattle.std.proofs.lemmas.Slice.Eq.{bytes_eq-Decides}
use Rattle.bl_level.specs.Level.{SecurityLevel}
use Rattle.bl_level.specs.Table.{place_of, AreDistinct}
use Rattle.bl_level.specs.Scheme.{SchemeNames}
use Rattle.bl_level.specs.LevelText.{LevelText, Means}

-- a name that has a place is there
pub contains_from_place : (n : List ℕ) (names : List (List ℕ)) (i : ℕ) → place_of n names ≡ Some i → Contains names n
contains_from_place n names i e =
    let p = position-Some (bytes_eq n) names i n e in
    (i, p.0, sym ((bytes_eq-Decides n (get_or names i n)).0 p.1))

-- an element that stood before stands twice
pub stands_twice : (before after : List (List ℕ)) (x : List ℕ) → Contains before x → AreDistinct (before ++ x ∷ after) → ⊥
stands_twice before after x (k, within, is) distinct =
    let n = length before in
    let first : get_or (before ++ x ∷ after) k x ≡ x = get_or_append_left before (x ∷ after) x k within ∙ is in
    let second : get_or (before ++ x ∷ after) n x ≡ x = get_or_at before x after x n refl in
    distinct k n x within (omega (arith, length-append before (x ∷ after))) (first ∙ sym second)

same_bit : (a b : ℕ) → a < 2 → b < 2 → (a ≡ 1 → b ≡ 1) → (b ≡ 1 → a ≡ 1) → a ≡ b
same_bit a b p q f g = grind arith

-- a text means at most one level
pub one_level : (scheme : SchemeNames) (text : LevelText) (a b : SecurityLevel) → Means scheme text a → Means scheme text b → a ≡ b
one_level scheme text a b m n =
    let ranks : Some a.rank ≡ Some b.rank = sym m.rank ∙ n.rank in
    let rank : a.rank ≡ b.rank = cc in
    let bits : (k : ℕ) → bit_at a.categories k ≡ bit_at b.categories k =
    λ k. same_bit (bit_at a.categories k) (bit_at b.categories k) (bit_at-lt a.categories k) (bit_at-lt b.categories k)
    (λ e. (n.categories k).1 ((m.categories k).0 e)) (λ e. (m.categories k).1 ((n.categories k).0 e)) in
    let categories = same_from_bits a.categories b.categories bits in
    λ i. record { rank = rank i; categories = categories i }
