-- What a writer of a trail has written.
use Rattle.std.specs.Prelude.{◌≡◌, ◌≤◌, ℕ, Bool, true, false, List, [], ◌∷◌, ◌++◌, length, Option}
use Rattle.std.specs.Io.KnownBytes.{Appends}
use Rattle.bl_setup.specs.Setup.{Setup}
use Rattle.bl_setup.specs.declared.version.Version.TheVariants.{Two}
use Rattle.bl_order.specs.Machine.{State, Event}
use Rattle.bl_trail.specs.EventText.{event_text}
use Rattle.bl_trail.specs.TrueText.{HasNoLf, joined, trail_lines}
use Rattle.bl_audit.specs.Comes.{lines_from, works_in}
use Rattle.bl_audit.specs.declared.event.TrailFault.{TrailFault}
use Rattle.bl_audit.specs.declared.event.TrailFault.TheVariants.{Write, Memory}

-- the text of a trail and a limit; own choice: what is written is of version 2
abbrev pub trail_text : Setup → ℕ → List Event → List ℕ
trail_text setup limit events = joined (trail_lines Two setup limit events)

-- a first part of the text was written
abbrev pub AppendsPart : Option (List ℕ) → Option (List ℕ) → List ℕ → Type 0
AppendsPart old new text = (part : List ℕ) × (rest : List ℕ) × Appends old new part × (text ≡ part ++ rest)

-- The line of the event was written, which has no LF but at its end, and the later lines stand from this place on.
pub record WroteLine (x : State) (event : Event) (later : List Event) (end : State) (next : ℕ)
    (old new : Option (List ℕ)) : Type 0 where
  pub text : Appends old new (event_text x event ++ 10 ∷ [])
  pub plain : HasNoLf (event_text x event)
  pub place : next ≤ length end.order
  pub rest : lines_from end next ≡ works_in later

-- whether the fault is the writer's
abbrev pub is_write : TrailFault → Bool
is_write Write = true
is_write Memory = false
