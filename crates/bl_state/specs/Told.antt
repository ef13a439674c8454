-- What is told of a history, and of two, one behind the other.
use Rattle.std.specs.Prelude.{◌≡◌, ℕ, zero, suc, ◌<◌, Bool, false, if◌then◌else◌, List, [], length, map, slice_index_or}
use Rattle.bl_setup.specs.Setup.{Setup}
use Rattle.bl_order.specs.Labels.{Reply, Tag, is_of, put_in, tag}
use Rattle.bl_order.specs.Order.{Entry, Line, Child}
use Rattle.bl_order.specs.Past.{no_entry, place}
use Rattle.bl_order.specs.Standing.{setup_after}
use Rattle.bl_state.specs.Orders.{both, lost_in}

-- an entry, and whose a place is, where sessions have other numbers
abbrev pub renamed : (ℕ → ℕ) → Entry → Entry
renamed f (Line session ordinal subject work) = Line (f session) ordinal subject work
renamed f (Child parent which) = Child parent which

abbrev pub named_as : (ℕ → ℕ) → Tag → Tag
named_as f t = record { session = f t.session; label = t.label }

-- different sessions keep different numbers
abbrev pub StayApart : (ℕ → ℕ) → Type 0
StayApart f = (a b : ℕ) → f a ≡ f b → a ≡ b

-- each child stands behind its parent
abbrev pub StandBehindParents : List Entry → Type 0
StandBehindParents order = (n parent which : ℕ) → n < length order → slice_index_or order n no_entry ≡ Child parent which → parent < n

-- the replies to a session's line with this ordinal, of the places of a history below n
abbrev pub replies_in : Setup → (ℕ → Bool) → List Entry → (session ordinal : ℕ) → ℕ → List Reply
replies_in setup lost order session ordinal zero = []
replies_in setup lost order session ordinal (suc n) =
    if is_of session ordinal (tag order n)
    then put_in (record { label = (tag order n).label; answer = (place setup lost order n).answer })
    (replies_in setup lost order session ordinal n)
    else replies_in setup lost order session ordinal n

-- all of them
abbrev pub replies_of : Setup → (ℕ → Bool) → List Entry → (session ordinal : ℕ) → List Reply
replies_of setup lost order session ordinal = replies_in setup lost order session ordinal (length order)

-- no place of the history is of that line, its sessions having these numbers
abbrev pub HasNone : (ℕ → ℕ) → (session ordinal : ℕ) → List Entry → Type 0
HasNone f session ordinal order = (n : ℕ) → n < length order → is_of session ordinal (named_as f (tag order n)) ≡ false

-- Two histories are told as one, in which the sessions of the second one have numbers by which somebody goes on from the first one: the
-- replies to a line are those of the one history that has it.
pub record AreToldAsOne (setup : Setup) (lost : ℕ → Bool) (order : List Entry) (lost2 : ℕ → Bool) (order2 : List Entry) (f : ℕ → ℕ)
    : Type 0 where
  pub before : (session ordinal : ℕ) → HasNone f session ordinal order2
      → replies_of setup (lost_in (length order) lost lost2) (both order (map (renamed f) order2)) session ordinal
      ≡ replies_of setup lost order session ordinal
  pub behind : (session ordinal : ℕ) → HasNone (λ s. s) (f session) ordinal order
      → replies_of setup (lost_in (length order) lost lost2) (both order (map (renamed f) order2)) (f session) ordinal
      ≡ replies_of (setup_after setup lost order) lost2 order2 session ordinal
