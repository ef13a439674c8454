-- Trails that begin one another.
use Rattle.std.proofs.Common.{◌≡◌, ℕ, zero, suc, ◌<◌, ◌≤◌, List, [], ◌∷◌, ◌++◌, length, refl, sym, ap, ◌∙◌, arith, append_assoc, append-nil, length-append, Bool, true, false, cond, leb, Some}
use Rattle.std.specs.Prelude.{slice_get}
use Rattle.std.proofs.lemmas.Bool.{leb-true, leb-false}
use Rattle.bl_gate.specs.Counts.{StartsWith}
use Rattle.bl_order.specs.Machine.{Event}
use Rattle.bl_gate.specs.Views.{longer}

pub begins_itself : (xs : List Event) → StartsWith xs xs
begins_itself xs = ([], sym (append-nil xs))

pub begins_any : (xs : List Event) → StartsWith xs []
begins_any xs = (xs, refl)

pub begins_more : (xs ys zs : List Event) → StartsWith xs ys → StartsWith ys zs → StartsWith xs zs
begins_more xs ys zs p q = (q.0 ++ p.0, p.1 ∙ (ap (λ (l : List Event). l ++ p.0) q.1 ∙ append_assoc zs q.0 p.0))

-- of two beginnings of one trail the one that is no longer begins the other
pub begins_longer : (t xs ys : List Event) → StartsWith t xs → StartsWith t ys → length xs ≤ length ys → StartsWith ys xs
begins_longer t [] ys p q l = begins_any ys
begins_longer t (x ∷ xs) [] p q l = absurd (omega arith)
begins_longer [] (x ∷ xs) (y ∷ ys) p q l = absurd (cc (p.1))
begins_longer (a ∷ t) (x ∷ xs) (y ∷ ys) p q l =
    let e : a ∷ t ≡ x ∷ (xs ++ p.0) = p.1 in
    let d : a ∷ t ≡ y ∷ (ys ++ q.0) = q.1 in
    let h = begins_longer t xs ys (p.0, cc) (q.0, cc) (omega arith) in
    let same : y ≡ x = cc in
    (h.0, λ i. same i ∷ h.1 i)

whole_of : (t xs rest : List Event) → t ≡ xs ++ rest → length t ≤ length xs → t ≡ xs
whole_of t xs [] e l = e ∙ append-nil xs
whole_of t xs (r ∷ rest) e l = let h : length t ≡ length (xs ++ r ∷ rest) = ap length e in absurd (omega (arith, length-append xs (r ∷ rest)))

-- a trail that begins one no longer is that one
pub begins_whole : (t xs : List Event) → StartsWith t xs → length t ≤ length xs → t ≡ xs
begins_whole t xs p l = whole_of t xs p.0 p.1 l

pub begins_length : (xs ys : List Event) → StartsWith xs ys → length ys ≤ length xs
begins_length xs ys p = let e : length xs ≡ length (ys ++ p.0) = ap length p.1 in omega (arith, length-append ys p.0)

-- ---- what stands where

-- what stands at a position of a trail stands there in a longer one
pub get_later : (t s : List Event) (p : ℕ) (e : Event) → StartsWith t s → slice_get s p ≡ Some e → slice_get t p ≡ Some e
get_later t s p e (rest, is) there = ap (λ (l : List Event). slice_get l p) is ∙ longer s rest p e there
  where
    longer : (xs ys : List Event) (p : ℕ) (e : Event) → slice_get xs p ≡ Some e → slice_get (xs ++ ys) p ≡ Some e
    longer [] ys p e h = absurd (cc)
    longer (x ∷ xs) ys zero e h = h
    longer (x ∷ xs) ys (suc p) e h = longer xs ys p e h

-- and what stands there in the longer one, inside the shorter, stands there in that
pub get_sooner : (t s : List Event) (p : ℕ) → StartsWith t s → p < length s → slice_get t p ≡ slice_get s p
get_sooner t s p (rest, is) lt = ap (λ (l : List Event). slice_get l p) is ∙ front s rest p lt
  where
    front : (xs ys : List Event) (p : ℕ) → p < length xs → slice_get (xs ++ ys) p ≡ slice_get xs p
    front [] ys p lt = absurd (omega arith)
    front (x ∷ xs) ys zero lt = refl
    front (x ∷ xs) ys (suc p) lt = front xs ys p (omega arith)

pub get_last : (xs : List Event) (e : Event) → slice_get (xs ++ e ∷ []) (length xs) ≡ Some e
get_last [] e = refl
get_last (x ∷ xs) e = get_last xs e

-- where something stands lies inside the trail
pub got_within : (xs : List Event) (p : ℕ) (e : Event) → slice_get xs p ≡ Some e → p < length xs
got_within [] p e h = absurd (cc)
got_within (x ∷ xs) zero e h = omega arith
got_within (x ∷ xs) (suc p) e h = let l = got_within xs p e h in omega arith

-- ---- the longer of two

-- what holds of the longer of two beginnings of a trail
pub record Ranked (t xs ys more : List Event) : Type 0 where
  pub first : StartsWith more xs
  pub second : StartsWith more ys
  pub greater : StartsWith t more

ranked_by : (t xs ys : List Event) → StartsWith t xs → StartsWith t ys → (b : Bool) → leb (length xs) (length ys) ≡ b → Ranked t xs ys (cond b ys xs)
ranked_by t xs ys p q true e = record {
  first = begins_longer t xs ys p q (leb-true (length xs) (length ys) e);
  second = begins_itself ys;
  greater = q;
}
ranked_by t xs ys p q false e =
    let l : length ys ≤ length xs = (let m = leb-false (length xs) (length ys) e in omega arith) in record {
      first = begins_itself xs;
      second = begins_longer t ys xs q p l;
      greater = p;
    }

pub ranked : (t xs ys : List Event) → StartsWith t xs → StartsWith t ys → Ranked t xs ys (longer xs ys)
ranked t xs ys p q = ranked_by t xs ys p q (leb (length xs) (length ys)) refl
