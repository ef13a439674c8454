-- What a session over a gate ends with.
use Rattle.std.specs.Prelude.{◌≡◌, false, ℕ, List, [], All, ⊤, ◌⊎◌, ◌++◌}
use Rattle.bl_hall.specs.declared.reply.Reply as owned
use Rattle.bl_work.specs.Names.{KnownNames}
use Rattle.bl_wire.specs.Watch.{Use, Watch}
use Rattle.bl_wire.specs.Named.{NamesAnswer}
use Rattle.bl_wire.specs.Texts.{bye_line, session_text}
use Rattle.bl_wire.specs.declared.turn.Turn.{Turn}
use Rattle.bl_gate.specs.Gates.{PassView}
use Rattle.bl_wire.specs.declared.fault.SessionFault.{SessionFault}
use Rattle.bl_engine.specs.View.{Ends, View, ends}
use Rattle.bl_engine.specs.Outcome.{Finished, Stopped, TurnedAway, TurnedAwayInPart, refused_sessions}
use Rattle.bl_engine.specs.BlockText.{Begins}
use Rattle.bl_session.specs.Transcripts.{IsTranscript}
use Rattle.bl_engine.specs.Requests.{told_by}
use Rattle.bl_serve.specs.Courses.{IsOwn, SpeaksAlone}
use Rattle.bl_serve.specs.Told.{told_text}

-- what is known of the ends before and after
abbrev pub ends_of : (reader writer : Use) → Ends
ends_of reader writer = ends reader.before reader.after writer.before writer.after

-- nothing is said of what was settled, or of what was asked
abbrev pub Unsaid : {A : Type 0} → A → Type 0
Unsaid _ = ⊤

-- what is seen of a machine of which the replies alone are told
abbrev pub replies_alone : (ℕ → List ℕ) → View
replies_alone replies = record { replies = replies; settled = Unsaid; came = Unsaid }

-- a transcript by all that a pass has seen
abbrev pub IsSeen : PassView → ℕ → List Turn → List ℕ → Type 0
IsSeen pass session turns text = IsTranscript pass.gate.base.setup pass.gate.base.limit pass.seen session turns text

-- no call of either end failed, and all that was written is handed on
abbrev pub AreFine : {R W : Type 0} → (reader : Watch R) → (writer : Watch W) → Type 0
AreFine reader writer = (reader.failed ≡ false) × (writer.failed ≡ false) × (writer.unflushed ≡ false)

-- What was written for these lines is a transcript of them by all that the pass has seen. They tell nothing, and the
-- pass has gained nothing; or it is of the session that the pass opened, where no other pass spoke for that.
abbrev pub IsTranscribed : (before after : PassView) → List Turn → List ℕ → Type 0
IsTranscribed before after turns text =
    ((told_by turns ≡ []) × (after.own ≡ before.own) × IsSeen after 0 turns text)
    ⊎ ((session : ℕ) × IsOwn before after session
    × (SpeaksAlone before after session → IsSeen after session turns text))

-- it begins one
abbrev pub BeginsSeen : PassView → ℕ → List Turn → List ℕ → Type 0
BeginsSeen pass session turns part = (text : List ℕ) × IsSeen pass session turns text × Begins part text

-- the same, where what was written begins it
abbrev pub IsTranscribedInPart : (before after : PassView) → List Turn → List ℕ → Type 0
IsTranscribedInPart before after turns part =
    ((told_by turns ≡ []) × (after.own ≡ before.own) × BeginsSeen after 0 turns part)
    ⊎ ((session : ℕ) × IsOwn before after session
    × (SpeaksAlone before after session → BeginsSeen after session turns part))

-- The input was read to its end, or to the end of a first line that was refused and no further. What is written is the
-- text of a session that was told these replies, or there were as many sessions as there may be; and it is a
-- transcript.
abbrev pub IsServed : KnownNames → (before after : PassView) → Use → Use → Type 0
IsServed names before after reader writer =
    (told : List owned.Reply) × All (λ reply. NamesAnswer names reply.answer) told
    × (((f : Finished names (ends_of reader writer) (replies_alone (told_text names told)))
    × IsTranscribed before after f.turns (session_text (told_text names told) f.turns))
    ⊎ ((a : TurnedAway names (ends_of reader writer)
    (replies_alone (told_text names told)) (refused_sessions ++ bye_line))
    × (after.own ≡ before.own) × IsSeen after 0 a.turns (refused_sessions ++ bye_line)))

-- The session ended early. Only the end that is told has failed, and what is written begins the text of a session that
-- was told these replies, and a transcript of the lines that were heard.
abbrev pub IsCutShort : KnownNames → (before after : PassView) → SessionFault → Use → Use → Type 0
IsCutShort names before after fault reader writer =
    (told : List owned.Reply) × All (λ reply. NamesAnswer names reply.answer) told
    × (((s : Stopped fault names (ends_of reader writer) reader.failed writer.failed
    (replies_alone (told_text names told)))
    × IsTranscribedInPart before after s.heard s.written)
    ⊎ ((a : TurnedAwayInPart fault names (ends_of reader writer) reader.failed writer.failed
    (replies_alone (told_text names told)) (refused_sessions ++ bye_line))
    × (after.own ≡ before.own) × IsSeen after 0 a.part.turns (refused_sessions ++ bye_line)))
