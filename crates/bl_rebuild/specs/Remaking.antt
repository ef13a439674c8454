-- How the events of a text are made on a hall.
use Rattle.std.specs.Prelude.{◌≡◌, ℕ, List, [], slice_index_or}
use Rattle.bl_write.specs.CanonicalLine.{canonical_line}
use Rattle.bl_work.specs.declared.asked.Line.TheVariants as line
use Rattle.bl_work.specs.declared.work.Work.{Work}
use Rattle.bl_order.specs.Machine.{State, Event, Opens, Admits, Needs}
use Rattle.bl_trail.specs.EventText.{event_text}
use Rattle.bl_hall.specs.Chronicle.{HasTrail, state_now, with_event}
use Rattle.bl_rebuild.specs.Unfinished.{AreLent}
use Rattle.bl_rebuild.specs.declared.remade.Remade.{Remade}

-- a hall with a trail, and what its running entries were lent
pub record IsWhole (remade : Remade) : Type 0 where
  pub trail : HasTrail remade.hall
  pub lent : AreLent (state_now remade.hall) remade.slots.slots.items

-- one event more was made
pub record IsMade (before : Remade) (event : Event) (after : Remade) : Type 0 where
  pub hall : after.hall ≡ with_event before.hall event
  pub whole : IsWhole after

-- the event may come next, and this is its line
abbrev pub IsNext : State → Event → List ℕ → Type 0
IsNext x event text = Needs x event × (text ≡ event_text x event)

-- a subject of this name may open a session
abbrev pub MayOpen : State → List ℕ → ℕ → Type 0
MayOpen x name subject = Needs x (Opens subject) × (name ≡ slice_index_or x.setup.names.subjects subject [])

-- a work of this text may be admitted
abbrev pub MayAdmit : State → ℕ → ℕ → List ℕ → Work → Type 0
MayAdmit x session ordinal text work = Needs x (Admits session ordinal work)
    × (text ≡ canonical_line x.setup.names (line.Work work))
