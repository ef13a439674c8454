-- Seats of which one changes, comes or is taken out.
use Rattle.std.proofs.Common.{◌≡◌, ◌≢◌, ◌<◌, ◌+◌, ◌⊎◌, inl, inr, ℕ, List, [], ◌∷◌, ◌++◌, false, Option, None, length, get_or, take, drop, map, suc, subst, sym, ◌∙◌, ap, arith, length-append}
use Rattle.std.proofs.lemmas.Bool.{cases_eq, cases_lt}
use Rattle.std.proofs.lemmas.List.{get_or_default, get_or-map, map-append, take-map, drop-map}
use Rattle.std.proofs.lemmas.List.Edits.{get_or-remove_above, get_or-remove_below, length-remove}
use Rattle.std.proofs.lemmas.List.Elements.{All-from_get_or}
use Rattle.std.specs.List.{All, remove}
use Rattle.std.proofs.Math.ListN.{get_or-append}
use Rattle.std.proofs.Math.Seq.{get_or-append_seam}
use Rattle.bl_crowd.specs.declared.member.Member.{Member}
use Rattle.bl_crowd.specs.Steps.{greeted_as}
use Rattle.bl_rounds.specs.Going.{StandSo, StandsAt}
use Rattle.bl_rounds.specs.Seats.{sessions_of}
use Rattle.bl_rounds.specs.declared.seat.Seat.{Seat}
use Rattle.bl_rounds.specs.declared.seat.Stage.{Stage}
use Rattle.bl_rounds.specs.declared.seat.Stage.TheVariants.{Goes}

-- an element that stands at a place
pub at_index : {A : Type 0} (xs : List A) (i : ℕ) → i < length xs → (x : A) × ((d : A) → get_or xs i d ≡ x)
at_index [] i lt = absurd (omega arith)
at_index (x ∷ xs) i lt = (get_or (x ∷ xs) i x, λ d. sym (get_or_default (x ∷ xs) i x d lt))

-- what is read of each, where one is taken out
pub map_remove : {A B : Type 0} (f : A → B) (xs : List A) (i : ℕ) → map f (remove xs i) ≡ remove (map f xs) i
map_remove f xs i =
    map-append f (take i xs) (drop (suc i) xs)
    ∙ (ap (λ ys. ys ++ map f (drop (suc i) xs)) (sym (take-map f i xs)) ∙ ap (λ ys. take i (map f xs) ++ ys) (sym (drop-map f (suc i) xs)))

-- a place below the next one, and another
pub below_other : (j i : ℕ) → j < i + 1 → j ≢ i → j < i
below_other j i lt other = elim (cases_lt j i) [
  | inl low ↦ low
  | inr high ↦ (let is : j ≡ i = omega arith in absurd (other is))
]

-- ---- what holds of each

nobody : Seat
nobody = record { number = 0; stage = Goes; moved = None; greeted = false }

pub all_of : (P : Seat → Type 0) (seats : List Seat) → ((i : ℕ) (d : Seat) → i < length seats → P (get_or seats i d)) → All P seats
all_of P seats each = All-from_get_or P seats nobody (λ i lt. each i nobody lt)

-- of the first ones, where one was written
pub each_at : (P : Seat → Type 0) (count : ℕ) (seats after : List Seat) (i : ℕ) → ((j : ℕ) (d : Seat) → j ≢ i → get_or after j d ≡ get_or seats j d)
    → ((d : Seat) → P (get_or after i d)) → ((j : ℕ) (d : Seat) → j < count → j ≢ i → P (get_or seats j d)) → (j : ℕ) (d : Seat) → j < count → P (get_or after j d)
each_at P count seats after i same here rest j d lt = elim (cases_eq j i) [
  | inl is ↦ subst (λ k. P (get_or after k d)) (sym is) (here d)
  | inr other ↦ subst P (sym (same j d other)) (rest j d lt other)
]

-- ---- sessions

-- what is found of a member is the session at its place
pub session_at : {S : Type 0} (members : List (Member S)) (i : ℕ) (e found : Option (ℕ × ℕ)) → i < length members → ((m : Member S) → found ≡ greeted_as (get_or members i m))
    → get_or (sessions_of members) i e ≡ found
session_at {S} members i e found low is =
    let m = (at_index members i low).0 in
    get_or-map (λ (member : Member S). greeted_as member) members i m e low ∙ sym (is m)

-- ---- how members stand

module _ {S : Type 0} where
  -- one seat and its member change
  pub stand_at : (count : ℕ) (seats after : List Seat) (members later : List (Member S)) (i : ℕ)
      → ((j : ℕ) (d : Seat) → j ≢ i → get_or after j d ≡ get_or seats j d)
      → ((j : ℕ) (e : Member S) → j ≢ i → get_or later j e ≡ get_or members j e)
      → ((d : Seat) (e : Member S) → StandsAt (get_or after i d).stage (get_or later i e))
      → ((j : ℕ) (d : Seat) (e : Member S) → j < count → j ≢ i → StandsAt (get_or seats j d).stage (get_or members j e))
      → StandSo count after later
  stand_at count seats after members later i same still here rest j d e lt = elim (cases_eq j i) [
    | inl is ↦ subst (λ k. StandsAt (get_or after k d).stage (get_or later k e)) (sym is) (here d e)
    | inr other ↦
        subst (λ (m : Member S). StandsAt (get_or after j d).stage m) (sym (still j e other))
        (subst (λ (s : Seat). StandsAt s.stage (get_or members j e)) (sym (same j d other)) (rest j d e lt other))
  ]

  -- each stage stays, or is one at which nothing is known
  pub stand_along : (count : ℕ) (seats after : List Seat) (members : List (Member S))
      → ((j : ℕ) (d : Seat) → ((get_or after j d).stage ≡ (get_or seats j d).stage) ⊎ ((get_or after j d).stage ≡ Goes))
      → StandSo count seats members → StandSo count after members
  stand_along count seats after members way is j d e lt = elim (way j d) [
    | inl same ↦ subst (λ (s : Stage). StandsAt s (get_or members j e)) (sym same) (is j d e lt)
    | inr goes ↦ subst (λ (s : Stage). StandsAt s (get_or members j e)) (sym goes) tt
  ]

  -- one is taken out
  pub stand_out : (seats : List Seat) (members : List (Member S)) (i : ℕ) → i < length seats → i < length members
      → StandSo (length seats) seats members → StandSo (length (remove seats i)) (remove seats i) (remove members i)
  stand_out seats members i lt there is j d e low =
      let less = length-remove seats i lt in
      elim (cases_lt j i) [
        | inl below ↦
            subst (λ (m : Member S). StandsAt (get_or (remove seats i) j d).stage m) (sym (get_or-remove_below members i e j below there))
            (subst (λ (s : Seat). StandsAt s.stage (get_or members j e)) (sym (get_or-remove_below seats i d j below lt)) (is j d e (omega arith)))
        | inr above ↦
            subst (λ (m : Member S). StandsAt (get_or (remove seats i) j d).stage m) (sym (get_or-remove_above members i e j above there))
            (subst (λ (s : Seat). StandsAt s.stage (get_or members (j + 1) e)) (sym (get_or-remove_above seats i d j above lt)) (is (j + 1) d e (omega arith)))
      ]

  -- one comes
  pub stand_more : (seats : List Seat) (members : List (Member S)) (seat : Seat) (member : Member S) → seat.stage ≡ Goes → length seats ≡ length members
      → StandSo (length seats) seats members → StandSo (length (seats ++ seat ∷ [])) (seats ++ seat ∷ []) (members ++ member ∷ [])
  stand_more seats members seat member goes same is j d e low =
      let long = length-append seats (seat ∷ []) in
      let more = seats ++ seat ∷ [] in
      let others = members ++ member ∷ [] in
      elim (cases_lt j (length seats)) [
        | inl below ↦
            (let there : j < length members = omega arith in
            subst (λ (m : Member S). StandsAt (get_or more j d).stage m) (sym (get_or-append members (member ∷ []) e j there))
            (subst (λ (s : Seat). StandsAt s.stage (get_or members j e)) (sym (get_or-append seats (seat ∷ []) d j below)) (is j d e below)))
        | inr high ↦
            (let last : j ≡ length seats = omega (arith, long) in
            let here : get_or more j d ≡ seat = ap (λ k. get_or more k d) last ∙ get_or-append_seam seats seat [] d in
            subst (λ (s : Seat). StandsAt s.stage (get_or others j e)) (sym here) (subst (λ (s : Stage). StandsAt s (get_or others j e)) (sym goes) tt))
      ]

-- ---- a seat is written at a place, by what is said of that place and of the others

-- its stage stays
pub same_stage : (seats after : List Seat) (i : ℕ) → ((d : Seat) → (get_or after i d).stage ≡ (get_or seats i d).stage) → ((j : ℕ) (d : Seat) → j ≢ i → get_or after j d ≡ get_or seats j d)
    → (j : ℕ) (d : Seat) → ((get_or after j d).stage ≡ (get_or seats j d).stage) ⊎ ((get_or after j d).stage ≡ Goes)
same_stage seats after i here others j d = elim (cases_eq j i) [
  | inl is ↦ inl (subst (λ (k : ℕ). (get_or after k d).stage ≡ (get_or seats k d).stage) (sym is) (here d))
  | inr other ↦ inl (ap (λ (s : Seat). s.stage) (others j d other))
]
