-- The tests of conditions say what they are to say.
use Rattle.std.proofs.Common.{◌≡◌, ℕ, true, inl, inr, nat_eq, List, [], ◌∷◌, ◌++◌, drop, length, refl, ap}
use Rattle.std.specs.List.{starts_with}
use Rattle.std.proofs.lemmas.Bool.{or_cases, or_left, or_right}
use Rattle.std.proofs.lemmas.Bool.Decides.{Decides-eqb}
use Rattle.std.proofs.lemmas.Slice.Eq.{starts_is}
use Rattle.bl_work.specs.Piece.{StandsIn, has_piece}

-- a text begins with a piece exactly where something follows the piece in it
begins : (text piece : List ℕ) → starts_with nat_eq text piece ≡ true → text ≡ piece ++ drop (length piece) text
begins text piece h = (starts_is Decides-eqb text piece (starts_with nat_eq text piece) refl).0 h

begins_where : (text piece rest : List ℕ) → text ≡ piece ++ rest → starts_with nat_eq text piece ≡ true
begins_where text piece rest h = (starts_is Decides-eqb text piece (starts_with nat_eq text piece) refl).1 rest h

pub stands_from_has : (text piece : List ℕ) → has_piece text piece ≡ true → StandsIn piece text
stands_from_has [] piece h = record { before = []; after = drop (length piece) []; split = begins [] piece h }
stands_from_has (b ∷ bytes) piece h =
    elim (or_cases (starts_with nat_eq (b ∷ bytes) piece) (has_piece bytes piece) h) [
      | inl here ↦ record { before = []; after = drop (length piece) (b ∷ bytes); split = begins (b ∷ bytes) piece here }
      | inr later ↦ let s = stands_from_has bytes piece later in record { before = b ∷ s.before; after = s.after; split = ap (λ xs. b ∷ xs) s.split }
    ]

-- a text has a piece that stands behind these bytes
has_behind : (before text piece rest : List ℕ) → text ≡ before ++ (piece ++ rest) → has_piece text piece ≡ true
has_behind [] [] piece rest e = begins_where [] piece rest e
has_behind [] (b ∷ bytes) piece rest e = or_left (starts_with nat_eq (b ∷ bytes) piece) (has_piece bytes piece) (begins_where (b ∷ bytes) piece rest e)
has_behind (x ∷ xs) [] piece rest e = cc
has_behind (x ∷ xs) (b ∷ bytes) piece rest e =
    or_right (starts_with nat_eq (b ∷ bytes) piece) (has_piece bytes piece) (has_behind xs bytes piece rest (cc))

pub has_from_stands : (text piece : List ℕ) → StandsIn piece text → has_piece text piece ≡ true
has_from_stands text piece s = has_behind s.before text piece s.after s.split
