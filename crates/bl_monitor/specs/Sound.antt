-- What a monitor keeps.
use Rattle.std.specs.Prelude.{◌≡◌, ℕ, ◌-◌, ◌<◌, ◌≤◌, List, length, map, slice_index_or, is_some, All}
use Rattle.std.specs.Arc.{arc_value}
use Rattle.bl_work.specs.Effects.{children}
use Rattle.bl_policy.specs.FirstFault.{first_fault}
use Rattle.bl_policy.specs.Policy.{SecurityPolicy, lowest}
use Rattle.bl_setup.specs.Agreement.{Agree}
use Rattle.bl_setup.specs.Setup.{Setup, by_version}
use Rattle.bl_order.specs.Order.{accesses_of}
use Rattle.bl_order.specs.Past.{Past, earlier, at_place, policy_before, policy_of, content_of, is_done}
use Rattle.bl_monitor.specs.Heard.{Heard, is_lost}
use Rattle.bl_monitor.specs.Judging.{HasBelow, carried_by_children}
use Rattle.bl_monitor.specs.Undoing.{content_listed}
use Rattle.bl_monitor.specs.Kept.{spawned_of}
use Rattle.bl_monitor.specs.Places.{no_place, script_of, HasScript, entry_of, task_of, HasChild}
use Rattle.bl_monitor.specs.declared.monitor.Monitor.TheInside.{Inside}
use Rattle.bl_monitor.specs.declared.monitor.Entry.{Entry}
use Rattle.bl_monitor.specs.declared.monitor.Entry.TheVariants as entry
use Rattle.bl_monitor.specs.declared.place.Origin.TheVariants as origin
use Rattle.bl_monitor.specs.declared.place.Admitted.{Admitted}
use Rattle.bl_monitor.specs.declared.place.Place.{Place}

-- the setup of a monitor, whose version is the monitor's own
abbrev pub setup_of : Inside → Setup
setup_of m = by_version m.version (arc_value m.setup)

-- what the kept places were told
abbrev pub heard_of : Setup → List Place → Heard
heard_of setup places = record {
  setup = setup;
  order = map (λ (p : Place). entry_of p.admitted) places;
  lost = map (λ (p : Place). p.admitted.lost) places;
}

-- the records of the kept places, newest first
abbrev pub pasts_of : Setup → List Place → List Past
pasts_of setup places = earlier setup (is_lost (heard_of setup places)) (heard_of setup places).order (length places)

-- the policy at one of the kept places
abbrev pub kept_policy_at : Setup → List Place → ℕ → SecurityPolicy
kept_policy_at setup places n = policy_before setup (is_lost (heard_of setup places)) (heard_of setup places).order n

-- an entry's ids are in the setup, and its behaviour is one of its script
pub record IsRight (setup : Setup) (admitted : Admitted) : Type 0 where
  pub subject : admitted.subject < length setup.policy.subjects
  pub ids : HasBelow (length setup.policy.subjects) (length setup.policy.documents) admitted.work admitted.index
  pub script : HasScript admitted.work

-- what is kept of a place tells its record, and what the policy at the place has against its accesses
pub record Tells (setup : Setup) (policy : SecurityPolicy) (place : Place) (past : Past) : Type 0 where
  pub right : IsRight setup place.admitted
  pub subject : past.subject ≡ place.admitted.subject
  pub carried : past.carried ≡ place.admitted.carried
  pub by_children : place.carried_by_children ≡ carried_by_children setup.version past.level past.carried
  pub task : past.task ≡ task_of place.admitted
  pub fault : place.fault ≡ first_fault policy place.admitted.subject place.admitted.carried
      (accesses_of (task_of place.admitted))
  pub ran : is_some place.children ≡ is_done past.answer
  pub spawned : spawned_of place.children ≡ children past.effects
  pub each : All (λ behaviour. behaviour < length (script_of place.admitted.work)) (children past.effects)
  pub few : length (children past.effects) ≤ length (script_of place.admitted.work)

-- one policy, one content of each document, and what is kept of each place, are as looking back finds them
pub record IsSound (setup : Setup) (policy : SecurityPolicy) (contents : List (List ℕ))
    (places : List Place) : Type 0 where
  pub agree : Agree setup
  pub ruled : policy ≡ policy_of setup (pasts_of setup places)
  pub as_many : length contents ≡ length setup.contents
  pub current : (doc : ℕ) → doc < length contents
      → content_listed contents doc ≡ content_of setup (pasts_of setup places) doc
  pub told : (k : ℕ) → k < length places → Tells setup (kept_policy_at setup places k)
      (slice_index_or places k no_place) (at_place (pasts_of setup places) k)

-- an entry may come behind these places
abbrev pub CanCome : List Place → Entry → Type 0
CanCome places (entry.Line subject work lost) = Unit {0}
CanCome places (entry.Child parent which lost) = HasChild places parent which

-- what is to run for an entry behind these places
abbrev pub IsAdmitted : List Place → Entry → Admitted → Type 0
IsAdmitted places (entry.Line subject its_work lost) a =
    a ≡ record { origin = origin.Line; lost = lost; subject = subject; carried = lowest; work = its_work; index = 0 }
IsAdmitted places (entry.Child parent which lost) a =
    HasChild places parent which
    × (a ≡ record {
      origin = origin.Child parent which;
      lost = lost;
      subject = (slice_index_or places parent no_place).admitted.subject;
      carried = (slice_index_or places parent no_place).carried_by_children;
      work = (slice_index_or places parent no_place).admitted.work;
      index = slice_index_or (spawned_of (slice_index_or places parent no_place).children) (which - 1) 0;
    })
