-- Places that are found one after the other.
use Rattle.std.proofs.Common.{◌≡◌, ℕ, ◌+◌, suc, ◌<◌, List, [], ◌∷◌, ◌++◌, length, get_or, take, map, refl, sym, ap, ◌∙◌, add-one, String}
use Rattle.std.specs.Prelude.{All, string_bytes}
use Rattle.std.proofs.Math.Seq.{take-suc}
use Rattle.std.proofs.lemmas.List.{map-append}
use Rattle.std.proofs.lemmas.List.Elements.{All-append, All-cons, All-nil}
use Rattle.bl_doors.specs.Places.{names_in}
use Rattle.bl_doors.specs.declared.place.Place.{Place}

abbrev pub name_of : Place → List ℕ
name_of place = string_bytes place.name

-- the place of one folder more
pub named-more : {Z : Type 0} → (places : List Place) (place : Place) (found : List (String Z)) (i : ℕ) (name : String Z) → i < length found
    → map name_of places ≡ names_in (take i found) → string_bytes place.name ≡ string_bytes name → get_or found i name ≡ name
    → map name_of (places ++ place ∷ []) ≡ names_in (take (i + 1) found)
named-more places place found i name lt so-far same at =
    map-append name_of places (place ∷ [])
    ∙ ap (λ l. l ++ string_bytes place.name ∷ []) so-far
    ∙ ap (λ b. names_in (take i found) ++ b ∷ []) same
    ∙ ap (λ n. names_in (take i found) ++ string_bytes n ∷ []) (sym at)
    ∙ sym (map-append string_bytes (take i found) (get_or found i name ∷ []))
    ∙ sym (ap names_in (ap (λ k. take k found) (add-one i) ∙ take-suc found i name lt))

pub all-more : (P : Place → Type 0) (places : List Place) (place : Place) → All P places → P place → All P (places ++ place ∷ [])
all-more P places place all here = All-append P places (place ∷ []) all (All-cons P place [] here (All-nil P))

pub some-places : (places : List Place) → places ≡ [] → map name_of places ≡ []
some-places places none' = ap (map name_of) none'
