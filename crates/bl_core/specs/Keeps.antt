-- What a core keeps.
use Rattle.std.specs.Prelude.{◌≡◌, ℕ, ◌+◌, ◌<◌, ◌≤◌, true, false, List, length, sum_by, All}
use Rattle.std.specs.Vec.{vec_capacity}
use Rattle.bl_work.specs.declared.answer.Answer.{Answer}
use Rattle.bl_setup.specs.Setup.{Setup}
use Rattle.bl_setup.specs.Agreement.{Agree}
use Rattle.bl_setup.specs.declared.version.Version.TheVariants.{Two}
use Rattle.bl_order.specs.Order.{accesses_of, is_altered}
use Rattle.bl_order.specs.Past.{Past}
use Rattle.bl_order.specs.Machine.{State, past_at, runs, entry_weight, most_sessions}
use Rattle.bl_order.specs.Now.{policy_now, content_now}
use Rattle.bl_order.specs.Headline.{IsReached}
use Rattle.bl_order.specs.Known.{KnowsWork}
use Rattle.bl_place.specs.Places.{place_in, work_in, task_in, HasTask}
use Rattle.bl_place.specs.Queueing.{QueuesTell}
use Rattle.bl_place.specs.Shelves.{shelf_in, content_in}
use Rattle.bl_core.specs.View.{state_of}
use Rattle.bl_place.specs.declared.place.Place.{Place}
use Rattle.bl_place.specs.declared.place.Stand.TheVariants.{Ended}
use Rattle.bl_core.specs.declared.session.Session.{Session}
use Rattle.bl_place.specs.declared.shelf.Shelf.{Shelf}
use Rattle.bl_core.specs.declared.machine.Core.TheInside.{Inside}

-- what is kept of a place tells its record, and names what is in the setup
pub record Tells (setup : Setup) (places : List Place) (n : ℕ) (past : Past) : Type 0 where
  pub task : past.task ≡ task_in places n
  pub subject : past.subject ≡ (place_in places n).subject
  pub carried : past.carried ≡ (place_in places n).carried
  pub answer : (a : Answer) → (place_in places n).stand ≡ Ended a → past.answer ≡ a
  pub root : (place_in places n).root < length places
  pub behaviour : HasTask places n
  pub speaks : (place_in places n).subject < length setup.policy.subjects
  pub knows : KnowsWork setup (work_in places n)

-- some running place alters the document
abbrev pub IsAway : State → ℕ → Type 0
IsAway x doc = (n : ℕ) × (runs x n ≡ true) × (is_altered (accesses_of (past_at x n).task) doc ≡ true)

-- the shelves have the contents now, and tell which of them a running place alters
pub record AreShelved (x : State) (shelves : List Shelf) : Type 0 where
  pub contents : (doc : ℕ) → doc < length shelves → content_in shelves doc ≡ content_now x doc
  pub away : (doc : ℕ) → doc < length shelves → (shelf_in shelves doc).lent ≡ true → IsAway x doc
  pub home : (doc : ℕ) → doc < length shelves → (shelf_in shelves doc).lent ≡ false
      → (n : ℕ) → runs x n ≡ true → is_altered (accesses_of (past_at x n).task) doc ≡ false

-- what the fields keep at a state: a trail leads to it, it is judged by version 2, the policy and the contents are
-- those now, each place is told, the queues have all places, and there is room for all that may still come
pub record KeepsAt (x : State) (c : Inside) : Type 0 where
  pub reached : IsReached x
  pub agree : Agree c.setup
  pub two : c.setup.version ≡ Two
  pub policy : c.policy ≡ policy_now x
  pub subjects : length c.policy.subjects ≡ length c.setup.policy.subjects
  pub documents : length c.policy.documents ≡ length c.setup.policy.documents
  pub told : (n : ℕ) → n < length c.places.items → Tells c.setup c.places.items n (past_at x n)
  pub speakers : All (λ (s : Session). s.subject < length c.setup.policy.subjects) c.sessions.items
  pub as_many : length c.shelves.items ≡ length c.setup.contents
  pub shelved : AreShelved x c.shelves.items
  pub weight : c.weight ≡ sum_by entry_weight x.order
  pub queued : QueuesTell (length c.setup.policy.documents + 1) c.limit c.places.items (length c.places.items) c.queues
  pub reserved : c.limit ≤ vec_capacity c.places
  pub rooms : most_sessions ≤ vec_capacity c.sessions

abbrev pub Keeps : Inside → Type 0
Keeps c = KeepsAt (state_of c) c
