-- What a monitor has been told, and what the definitions of the order say of it.
use Rattle.std.specs.Prelude.{◌≡◌, ℕ, suc, ◌<◌, ◌≤◌, Bool, true, false, ◌&&◌, if◌then◌else◌, nat_lt, List, [], ◌∷◌}
use Rattle.std.specs.Prelude.{◌++◌, length, map, take, slice_index_or, Option, Some, None}
use Rattle.bl_policy.specs.FirstFault.{first_fault}
use Rattle.bl_policy.specs.Policy.{SecurityPolicy}
use Rattle.bl_policy.specs.declared.denial.Denial.{Denial}
use Rattle.bl_work.specs.Effects.{children}
use Rattle.bl_work.specs.declared.answer.Answer.{Answer}
use Rattle.bl_order.specs.Order as order
use Rattle.bl_setup.specs.Setup.{Setup}
use Rattle.bl_order.specs.Machine.{State}
use Rattle.bl_order.specs.Order.{accesses_of, unnamed}
use Rattle.bl_order.specs.Past.{Past, place, policy_before, is_done}
use Rattle.bl_order.specs.Legal.{child_count}
use Rattle.bl_order.specs.Known.{KnowsWork}
use Rattle.bl_monitor.specs.declared.monitor.Entry.{Entry}
use Rattle.bl_monitor.specs.declared.monitor.Entry.TheVariants as entry

-- the setup, the entries in order, and of each whether it is lost
pub record Heard : Type 0 where
  pub setup : Setup
  pub order : List order.Entry
  pub lost : List Bool

-- the places that are lost
abbrev pub is_lost : Heard → ℕ → Bool
is_lost heard n = slice_index_or heard.lost n false

-- the record of a place, by the definitions of the order
abbrev pub place_at : Heard → ℕ → Past
place_at heard n = place heard.setup (is_lost heard) heard.order n

-- Answer, of the place of an entry
abbrev pub answer_at : Heard → ℕ → Answer
answer_at heard n = (place_at heard n).answer

-- own choice: the session and the ordinal of a line bear on no answer, and are seen as 0
abbrev pub entry_of : Entry → order.Entry
entry_of (entry.Line subject work lost) = order.Line 0 0 subject work
entry_of (entry.Child parent which lost) = order.Child parent which

abbrev pub lost_of : Entry → Bool
lost_of (entry.Line subject work lost) = lost
lost_of (entry.Child parent which lost) = lost

-- one entry more
abbrev pub with_entry : Heard → Entry → Heard
with_entry heard e = record heard { order = heard.order ++ entry_of e ∷ []; lost = heard.lost ++ lost_of e ∷ [] }

-- the ids of an entry are in the setup
abbrev pub Knows : Setup → Entry → Type 0
Knows setup (entry.Line subject work lost) = (subject < length setup.policy.subjects) × KnowsWork setup work
Knows setup (entry.Child parent which lost) = Unit {0}

-- the parent is an earlier entry that was done with so many children at least
pub record IsChild (heard : Heard) (parent which : ℕ) : Type 0 where
  pub from_one : 0 < which
  pub behind : parent < length heard.order
  pub done : is_done (answer_at heard parent) ≡ true
  pub spawned : which ≤ child_count heard.setup (is_lost heard) heard.order parent

-- an entry may come next: a line always, a child where its parent spawned it
abbrev pub MayCome : Heard → Entry → Type 0
MayCome heard (entry.Line subject work lost) = Unit {0}
MayCome heard (entry.Child parent which lost) = IsChild heard parent which

-- the number of children of an entry that was done
abbrev pub children_of : Heard → ℕ → Option ℕ
children_of heard n =
    if nat_lt n (length heard.order) && is_done (answer_at heard n)
    then Some (child_count heard.setup (is_lost heard) heard.order n)
    else None

-- the behaviours that an entry spawned, in order, by their numbers in its script: none where it was not done
abbrev pub spawned_by : Heard → ℕ → List ℕ
spawned_by heard n = if nat_lt n (length heard.order) then children (place_at heard n).effects else []

-- PolicyAt, of the place of an entry
abbrev pub heard_policy_at : Heard → ℕ → SecurityPolicy
heard_policy_at heard n = policy_before heard.setup (is_lost heard) heard.order n

-- FirstFault of the accesses that an entry declares, at its place and with the level that it carries: a rule declares
-- none, and has no fault of an access
abbrev pub fault_of : Heard → ℕ → Option Denial
fault_of heard n =
    if nat_lt n (length heard.order)
    then first_fault (heard_policy_at heard n) (place_at heard n).subject (place_at heard n).carried
    (accesses_of (place_at heard n).task)
    else None

-- A monitor was told the entries of a state's order up to place n, one after another, without sessions and ordinals,
-- and which of them are lost.
pub record IsToldAlone (heard : Heard) (x : State) (lost : ℕ → Bool) (n : ℕ) : Type 0 where
  pub setup : heard.setup ≡ x.setup
  pub entries : heard.order ≡ map unnamed (take (suc n) x.order)
  pub marks : (k : ℕ) → k ≤ n → is_lost heard k ≡ lost k
