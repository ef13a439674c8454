-- What the lines of a text find, each by itself.
use Rattle.std.specs.Prelude.{◌≡◌, ℕ, List, [], ◌∷◌}
use Rattle.bl_order.specs.Machine.{State, Event, Needs}
use Rattle.bl_trail.specs.Asks.{HasNo}
use Rattle.bl_trail.specs.EventText.{event_text}
use Rattle.bl_trail.specs.Follow.{IsLine}
use Rattle.bl_trail.specs.OneEvent.{IsSmall}
use Rattle.bl_replay.specs.Marks.{Finding, ending_of}

-- a line that is the text of an event finds what the event finds; what another line finds is not said
abbrev pub IsFinding : List ℕ → Finding → Type 0
IsFinding line finding = (x : State) (event : Event) → IsSmall x → Needs x event → line ≡ event_text x event
    → finding ≡ ending_of x event

-- the findings of the lines of a text, one after the other
abbrev pub AreFindings : List ℕ → List Finding → Type 0
AreFindings text [] = HasNo 10 text
AreFindings text (finding ∷ found) = (line : List ℕ) × (rest : List ℕ) × IsLine text line rest × IsFinding line finding
    × AreFindings rest found
