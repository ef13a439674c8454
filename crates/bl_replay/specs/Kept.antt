-- What is kept of the entries of the order.
use Rattle.std.specs.Prelude.{ℕ, ◌+◌, ◌<◌, Bool, List, [], ◌∷◌, length, map, slice_index_or}
use Rattle.bl_work.specs.declared.work.Work.{Work}
use Rattle.bl_work.specs.declared.work.Work.TheVariants as works
use Rattle.bl_setup.specs.Setup.{Setup}
use Rattle.bl_order.specs.Claims.{NumberedClaim, numbered_claims}
use Rattle.bl_order.specs.Known.{KnowsWork}
use Rattle.bl_order.specs.Machine.{Phase}
use Rattle.bl_order.specs.Machine as phases
use Rattle.bl_order.specs.Order as orders
use Rattle.bl_order.specs.Order.{Task}
use Rattle.bl_order.specs.Past.{first_task, child_task}
use Rattle.bl_monitor.specs.declared.monitor.Entry as told
use Rattle.bl_monitor.specs.declared.monitor.Entry.TheVariants as tell
use Rattle.bl_queue.specs.declared.claim.Claim as claims
use Rattle.bl_queue.specs.Entries as queued
use Rattle.bl_queue.specs.declared.entry.Stand as stood
use Rattle.bl_queue.specs.declared.entry.Stand.TheVariants as stand
use Rattle.bl_replay.specs.declared.place.Origin.{Origin}
use Rattle.bl_replay.specs.declared.place.Origin.TheVariants.{Line, Child}
use Rattle.bl_replay.specs.declared.place.Place.{Place}
use Rattle.bl_replay.specs.declared.place.Stand.{Stand}
use Rattle.bl_replay.specs.declared.place.Stand.TheVariants.{Waiting, Running, Ended, Lost}

-- what stands where there is no place
abbrev pub no_place : Place
no_place = record { origin = Child 0 0; work = works.Behaviour []; index = 0; stand = Waiting }

abbrev pub place_in : List Place → ℕ → Place
place_in places n = slice_index_or places n no_place

-- the entry of an origin, without its session and its ordinal
abbrev pub entry_by : Work → Origin → orders.Entry
entry_by work (Line subject) = orders.Line 0 0 subject work
entry_by work (Child parent which) = orders.Child parent which

abbrev pub entry_in : Place → orders.Entry
entry_in p = entry_by p.work p.origin

-- what a monitor is told of a place
abbrev pub told_by : Work → Bool → Origin → told.Entry
told_by work lost (Line subject) = tell.Line subject work lost
told_by work lost (Child parent which) = tell.Child parent which lost

abbrev pub entry_told : Place → Bool → told.Entry
entry_told p lost = told_by p.work lost p.origin

-- one of the behaviours of the work's script, or its rule
abbrev pub task_in : Place → Task
task_in p = child_task (first_task p.work) p.index

abbrev pub phase_of : Stand → Phase
phase_of Waiting = phases.Waiting
phase_of Running = phases.Running
phase_of Ended = phases.Ended
phase_of Lost = phases.Gone

abbrev pub phase_in : Place → Phase
phase_in p = phase_of p.stand

-- queues know of a lost entry that it has ended
abbrev pub stand_of : Stand → stood.Stand
stand_of Waiting = stand.Waiting
stand_of Running = stand.Started
stand_of Ended = stand.Ended
stand_of Lost = stand.Ended

abbrev pub queue_claim : NumberedClaim → claims.Claim
queue_claim c = record { cown = c.cown; shared = c.shared }

-- what a task claims, as queues are told
abbrev pub queue_claims : Task → List claims.Claim
queue_claims task = map queue_claim (numbered_claims task)

-- a place, as queues know it
abbrev pub queued_as : Place → queued.Entry
queued_as p = record { claims = queue_claims (task_in p); stand = stand_of p.stand }

-- the ids of an origin are in the setup
abbrev pub KnowsOrigin : Setup → Origin → Type 0
KnowsOrigin setup (Line subject) = subject < length setup.policy.subjects
KnowsOrigin setup (Child parent which) = Unit {0}

-- and so are those of a place
pub record KnowsPlace (setup : Setup) (p : Place) : Type 0 where
  pub work : KnowsWork setup p.work
  pub origin : KnowsOrigin setup p.origin

-- the children of a place, from this number on
abbrev pub child_places : ℕ → Work → ℕ → List ℕ → List Place
child_places parent work which [] = []
child_places parent work which (index ∷ rest) =
    record { origin = Child parent which; work = work; index = index; stand = Waiting } ∷ child_places parent work
    (which + 1) rest
