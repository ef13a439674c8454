-- The lines of a log.
use Rattle.std.specs.Prelude.{◌≡◌, ℕ, List, [], ◌∷◌, ◌++◌, Some, false, codes, decimal}
use Rattle.jiff_core.specs.DateTime.{civil_nanos}
use Rattle.jiff_core.specs.declared.civil.datetime.DateTime.{DateTime}
use Rattle.jiff_core.specs.declared.timestamp.Timestamp.{Timestamp}
use Rattle.jiff_fmt.specs.Text.{datetime_text}
use Rattle.bl_log.specs.declared.note.Event.{Event}
use Rattle.bl_log.specs.declared.note.Event.TheVariants.{Came, Greeted, Refused, Ended}
use Rattle.bl_log.specs.declared.note.Bound.{Bound}
use Rattle.bl_log.specs.declared.note.Bound.TheVariants as bounds
use Rattle.bl_log.specs.declared.note.ServerEvent.{ServerEvent}
use Rattle.bl_log.specs.declared.note.ServerEvent.TheVariants as servers
use Rattle.bl_log.specs.declared.note.ServerNote.{ServerNote}
use Rattle.bl_log.specs.declared.note.Note.{Note}

-- the letter between a date and a time
abbrev pub letter_t : ℕ
letter_t = 84

-- own choice: a time is written by RFC 3339, as a clock in UTC shows it, with three digits of a second
abbrev pub IsTimeText : Timestamp → List ℕ → Type 0
IsTimeText time text =
    (shown : DateTime) × (civil_nanos shown ≡ time.nanosecond)
    × (text ≡ datetime_text false letter_t (Some 3) shown ++ codes "Z")

-- own choice: what is said of an event
abbrev pub event_text : Event → List ℕ
event_text Came = codes "came"
event_text (Greeted subject session) = codes "hello " ++ subject.now ++ codes " session " ++ decimal session
event_text (Refused name) = codes "refused " ++ name.now
event_text (Ended lines refused events how) = codes "ended lines " ++ decimal lines ++ codes " refused "
    ++ decimal refused ++ codes " events " ++ decimal events ++ codes " " ++ how.now

-- own choice: the number of the connection, where it came from, and what of it
abbrev pub note_text : Note → List ℕ
note_text note = decimal note.connection ++ codes " " ++ note.from.now ++ codes " " ++ event_text note.event

-- the line of a note: its time, and what it says
abbrev pub IsLineOf : Note → List ℕ → Type 0
IsLineOf note line =
    (time : List ℕ) × IsTimeText note.time time × (line ≡ time ++ codes " " ++ note_text note ++ codes "\n")

-- the lines of these notes, one after the other
abbrev pub AreLinesOf : List Note → List ℕ → Type 0
AreLinesOf [] text = text ≡ []
AreLinesOf (note ∷ notes) text =
    (line : List ℕ) × (rest : List ℕ) × IsLineOf note line × AreLinesOf notes rest × (text ≡ line ++ rest)

-- own choice: the word for what is full
abbrev pub bound_word : Bound → List ℕ
bound_word bounds.Limit = codes "limit"
bound_word bounds.Trail = codes "trail"

-- own choice: what is said of an event of the server
abbrev pub server_text : ServerEvent → List ℕ
server_text (servers.Started version limit sessions clients trail_limit) = codes "started " ++ version.now
    ++ codes " limit " ++ decimal limit ++ codes " sessions " ++ decimal sessions ++ codes " clients "
    ++ decimal clients ++ codes " trail-limit " ++ decimal trail_limit
server_text (servers.Resumed events cut) = codes "resumed events " ++ decimal events ++ codes " cut " ++ decimal cut
server_text (servers.Full bound) = codes "full " ++ bound_word bound
server_text servers.CutShort = codes "trail cut short"
server_text (servers.Ended why) = codes "ended " ++ why.now

-- the line of such a note: its time, the word `server`, and what it says
abbrev pub IsServerLineOf : ServerNote → List ℕ → Type 0
IsServerLineOf note line = (time : List ℕ) × IsTimeText note.time time
    × (line ≡ time ++ codes " server " ++ server_text note.event ++ codes "\n")
