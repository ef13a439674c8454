-- The rule of the gate's table, and what each step on it tells.
-- Word 0 counts the tickets drawn, word 1 those served. The slot has the hall.
use Rattle.std.specs.Prelude.{◌≡◌, ◌≢◌, ℕ, ◌<◌, ◌≤◌, ◌==◌, true, false, ◌⊎◌, List, [], ◌∷◌, ◌++◌, length, slice_get}
use Rattle.std.specs.Prelude.{Option, Some, None}
use mathlib.Core.Option.{some, none}
use mathlib.Core.Option as Found
use lib.ListN.{get_elem?}
use Rattle.atomic_table.specs.Table as table
use Rattle.atomic_table.specs.Table.{Me, Step, rest}
use Rattle.bl_order.specs.Machine.{Event, Starts, Ends, Loses}
use Rattle.bl_hall.specs.Chronicle.{Chronicle, HasTrail}
use Rattle.bl_gate.specs.Counts.{one_if, within, times, gained, total, StartsWith}
use Rattle.bl_gate.specs.Gates.{hall_with}
use Rattle.bl_gate.specs.Views.{View, Brought, nobody, brings, drew, entered, went, heard}

abbrev pub has_ticket : ℕ → Option ℕ → ℕ
has_ticket t (Some k) = one_if (k == t)
has_ticket t None = 0

-- Tickets and parts. Each ticket that is drawn and not served is with just one view, and no other is. Parts add up to
-- 64, and who has none is nobody.
pub record Queue (drawn served : ℕ) (views : List View) : Type 0 where
  pub small : drawn < 18446744073709551616
  pub order : served ≤ drawn
  pub tickets : (t : ℕ) → total (λ v. has_ticket t v.ticket) views ≡ within served drawn t
  pub parts : total (λ v. v.parts) views ≡ 64
  pub spent : (i : ℕ) (v : View) → get_elem? views i ≡ some v → v.parts ≡ 0 → v ≡ nobody

-- nobody but i is inside
abbrev pub NoneInsideBut : ℕ → List View → Type 0
NoneInsideBut i views = (j : ℕ) (w : View) → j ≢ i → get_elem? views j ≡ some w → w.inside ≡ false

-- one view is inside: it has the ticket that is served, and has seen the whole trail
pub record Inside (served : ℕ) (trail : List Event) (views : List View) : Type 0 where
  pub seat : ℕ
  pub view : View
  pub there : get_elem? views seat ≡ some view
  pub is_in : view.inside ≡ true
  pub turn : view.ticket ≡ Some served
  pub knows : view.seen ≡ trail
  pub others : NoneInsideBut seat views

-- The slot. The hall is there, and nobody is inside, or it is out with who is inside.
abbrev pub Slot : ℕ → Chronicle → List (Found.Option (Option Chronicle)) → List View → Type 0
Slot served hall homes views =
    ((homes ≡ some (Some hall) ∷ []) × ((j : ℕ) (w : View) → get_elem? views j ≡ some w → w.inside ≡ false))
    ⊎ ((homes ≡ none ∷ []) × Inside served hall.trail views)

-- an entry ends at this position of the trail
abbrev pub EndsAt : List Event → ℕ → ℕ → Type 0
EndsAt trail p n = (slice_get trail p ≡ Some (Ends n)) ⊎ (slice_get trail p ≡ Some (Loses n))

-- whoever owns these positions owns the start of each entry of which it owns the end, where that start stands before it
abbrev pub EndsItsOwn : List Event → List ℕ → Type 0
EndsItsOwn trail own = (n p q : ℕ) → 1 ≤ times p own → EndsAt trail p n → q < p → slice_get trail q ≡ Some (Starts n)
    → 1 ≤ times q own

-- of the entries that were started here, none ends in the trail behind what was seen
abbrev pub NoEndBehind : Brought → List Event → Type 0
NoEndBehind b trail = (n q r : ℕ) → 1 ≤ times q b.own → slice_get b.seen q ≡ Some (Starts n) → length b.seen ≤ r
    → EndsAt trail r n → ⊥

-- what was brought is of this hall, this trail begins with what was seen, and none of the entries ends in it behind
-- that
pub record IsTold (base : Chronicle) (trail : List Event) (b : Brought) : Type 0 where
  pub of_hall : b.base ≡ base
  pub seen : StartsWith trail b.seen
  pub no_end : NoEndBehind b trail

abbrev pub AreTold : Chronicle → List Event → List Brought → Type 0
AreTold base trail [] = Unit {0}
AreTold base trail (b ∷ bs) = IsTold base trail b × AreTold base trail bs

-- Seen trails and own positions. There is one trail, and it is legal; it begins with the hall's at first and with what
-- each view has seen, and one view has seen it whole. Own positions lie inside what was seen. Of the trail's positions
-- after the first ones each is just one view's own, and no other position is. Whoever owns the end of an entry owns its
-- start.
pub record Trails (base : Chronicle) (trail : List Event) (views : List View) : Type 0 where
  pub begins : StartsWith trail base.trail
  pub legal : HasTrail (hall_with base trail)
  pub seen : (i : ℕ) (v : View) → get_elem? views i ≡ some v → StartsWith trail v.seen
  pub told : (i : ℕ) (v : View) → get_elem? views i ≡ some v → AreTold v.base v.seen v.met
  pub based : (i : ℕ) (v : View) → get_elem? views i ≡ some v → 0 < v.parts → v.base ≡ base
  pub whole : (i : ℕ) × (v : View) × (get_elem? views i ≡ some v) × (v.seen ≡ trail)
  pub mine : (i : ℕ) (v : View) → get_elem? views i ≡ some v → (p : ℕ) → 1 ≤ times p v.own → p < length v.seen
  pub owned : (p : ℕ) → total (λ v. times p v.own) views ≡ within (length base.trail) (length trail) p
  pub starters : (i : ℕ) (v : View) → get_elem? views i ≡ some v → EndsItsOwn trail v.own

-- A hall that was taken, and went on: it is the hall that the gate was given, with a trail that begins with what was
-- seen where it was taken, and of the entries that were ended there the starts are one's own.
pub record HasGoneOn (v : View) (hall : Chronicle) : Type 0 where
  pub of_hall : hall ≡ hall_with v.base hall.trail
  pub legal : HasTrail hall
  pub seen : StartsWith hall.trail v.seen
  pub ends : EndsItsOwn hall.trail (v.own ++ gained (length v.seen) (length hall.trail))

-- The rule.
pub record Kept (base : Chronicle) (s : table.State (Option Chronicle) View) : Type 0 where
  pub drawn : ℕ
  pub served : ℕ
  pub trail : List Event
  pub words : s.words ≡ drawn ∷ served ∷ []
  pub queue : Queue drawn served s.views
  pub slot : Slot served (hall_with base trail) s.homes s.views
  pub trails : Trails base trail s.views

-- a seat: its view, and what it has in its hands
abbrev pub Sat : Type 0
Sat = Me (Option Chronicle) View

abbrev pub Told : Type 0
Told = Step (Option Chronicle)

-- a draw: where the count was the one expected, the seat has that ticket
abbrev pub Draws : Told → Sat → ℕ → Sat → Type 0
Draws st m found n = (n.1 ≡ m.1) × (found ≡ st.first → n.0 ≡ drew m.0 found) × (found ≢ st.first → n.0 ≡ m.0)

-- the hall came into the seat's hands, with a legal trail that begins with all that it had seen; nobody else has ended
-- what it had started, and it has ended nothing else
abbrev pub Comes : Sat → Sat → Type 0
Comes m n =
    (trail : List Event) × StartsWith trail m.0.seen × HasTrail (hall_with m.0.base trail) × (n.0 ≡ entered m.0 trail)
    × (n.1 ≡ (0, Some (hall_with m.0.base trail)) ∷ []) × NoEndBehind (brings m.0) trail × EndsItsOwn trail m.0.own

-- a look at served: the hall comes where the seat's ticket is served, and otherwise nothing changes
abbrev pub Looks : Told → Sat → ℕ → Sat → Type 0
Looks st m found n = (m.0.ticket ≡ Some found → Comes m n) × (m.0.ticket ≢ Some found → n ≡ m)

-- the trail of the hall in a seat's hands
abbrev pub in_hand : Sat → List Event
in_hand (v, (k, Some hall) ∷ xs) = hall.trail
in_hand (v, (k, None) ∷ xs) = []
in_hand (v, []) = []

-- passing on: the hall is back, with the trail that it had in the seat's hands
abbrev pub Passes : Told → Sat → ℕ → Sat → Type 0
Passes st m found n = (n.0 ≡ went m.0 (in_hand m)) × (n.1 ≡ rest m.1)

-- a look after a seat took in another: what each had seen is seen, and nothing that it had started has ended behind
-- that; no position is owned twice, parts are at most all parts, and the trail that was seen is legal
abbrev pub Hears : Told → Sat → ℕ → Sat → Type 0
Hears st m found n =
    (n ≡ (heard m.0, m.1)) × AreTold m.0.base m.0.seen m.0.met × ((p : ℕ) → times p m.0.own ≤ 1) × (m.0.parts ≤ 64)
    × HasTrail (hall_with m.0.base m.0.seen)
