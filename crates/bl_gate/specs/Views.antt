-- What a seat of the gate's table knows, and how it changes.
use Rattle.std.specs.Prelude.{◌≡◌, ℕ, ◌+◌, ◌-◌, ◌<◌, Bool, true, false, cond, List, [], ◌∷◌, ◌++◌, length, Option, Some}
use Rattle.std.specs.Prelude.{None, nat_le}
use Rattle.bl_order.specs.Machine.{Event}
use Rattle.bl_hall.specs.Chronicle.{Chronicle}
use Rattle.bl_gate.specs.Counts.{gained}
use Rattle.bl_gate.specs.Gates.{no_hall}

-- what a seat brings where two meet: the hall that the gate was given, the trail that it had seen, and the positions of
-- its own calls
pub record Brought : Type 0 where
  pub base : Chronicle
  pub seen : List Event
  pub own : List ℕ

-- The hall that the gate was given; the trail that was seen; what two brought that met, until a look tells what follows
-- from it; the positions of one's own calls; the ticket; whether the hall is in one's hands; and the parts of the right
-- to close.
pub record View : Type 0 where
  pub base : Chronicle
  pub seen : List Event
  pub met : List Brought
  pub own : List ℕ
  pub ticket : Option ℕ
  pub inside : Bool
  pub parts : ℕ

-- the first seat
abbrev pub opener : Chronicle → View
opener base = record { base = base; seen = base.trail; met = []; own = []; ticket = None; inside = false; parts = 64 }

-- a seat that went into another
abbrev pub nobody : View
nobody = record { base = no_hall; seen = []; met = []; own = []; ticket = None; inside = false; parts = 0 }

-- a ticket was drawn
abbrev pub drew : View → ℕ → View
drew v ticket = record v { ticket = Some ticket }

-- the hall was taken, with this trail
abbrev pub entered : View → List Event → View
entered v trail = record v { seen = trail; met = []; inside = true }

-- the hall was put back, with this trail
abbrev pub went : View → List Event → View
went v trail = record v {
  seen = trail;
  own = v.own
      ++ gained (length v.seen) (length trail);
  ticket = None;
  inside = false;
}

abbrev pub longer : List Event → List Event → List Event
longer xs ys = cond (nat_le (length xs) (length ys)) ys xs

abbrev pub brings : View → Brought
brings v = record { base = v.base; seen = v.seen; own = v.own }

-- a seat took in another
abbrev pub joined : View → View → View
joined v w = record v {
  seen = longer v.seen w.seen;
  met = brings v ∷ brings w ∷ [];
  own = v.own ++ w.own;
  ticket = None;
  inside = false;
  parts = v.parts + w.parts;
}

-- a look has told what follows from what was brought
abbrev pub heard : View → View
heard v = record v { met = [] }

-- a part went to a seat of its own, which has seen the same and owns nothing
abbrev pub stays : View → View
stays v = record v { parts = v.parts - 1 }

abbrev pub branch : View → View
branch v = record v { met = []; own = []; ticket = None; inside = false; parts = 1 }

-- a seat between two calls
abbrev pub IsIdle : View → Type 0
IsIdle v = (v.ticket ≡ None) × (v.inside ≡ false) × (v.met ≡ []) × (0 < v.parts)

-- a seat whose turn it is: it has the hall in its hands
abbrev pub HasTurn : View → Type 0
HasTurn v = (v.inside ≡ true) × (v.met ≡ []) × (0 < v.parts)
