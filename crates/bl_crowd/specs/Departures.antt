-- How a member leaves its crowd: what went through its stream is a session, and a transcript by all that the pass has
-- seen.
use Rattle.std.specs.Prelude.{◌≡◌, ◌⊎◌, ◌++◌, ℕ, All, List, [], Option, Some, None}
use Rattle.std.specs.Io.KnownBytes.{Appends, Consumes}
use Rattle.bl_work.specs.Names.{KnownNames}
use Rattle.bl_hall.specs.declared.reply.Reply.{Reply}
use Rattle.bl_gate.specs.Gates.{PassView}
use Rattle.bl_wire.specs.Faults.{is_read, is_write}
use Rattle.bl_wire.specs.Named.{NamesAnswer}
use Rattle.bl_wire.specs.Texts.{bye_line, session_text}
use Rattle.bl_wire.specs.declared.fault.SessionFault.{SessionFault}
use Rattle.bl_wire.specs.declared.turn.Turn.{Turn}
use Rattle.bl_engine.specs.Conversations.{HasHeard}
use Rattle.bl_engine.specs.Outcome.{Finished, LacksTheLast, Stopped, TurnedAway, refused_sessions}
use Rattle.bl_engine.specs.Requests.{told_by}
use Rattle.bl_connection.specs.Connections.{ends_of, to_hear}
use Rattle.bl_connection.specs.declared.connection.Connection.{Connection}
use Rattle.bl_serve.specs.Courses.{HasOpened, SpeaksAlone}
use Rattle.bl_serve.specs.Outcome.{BeginsSeen, IsSeen, replies_alone}
use Rattle.bl_serve.specs.Told.{told_text}
use Rattle.bl_serve.specs.Visits.{IsCrowded}
use Rattle.bl_crowd.specs.Ways.{IsEndOf, IsReceived}
use Rattle.bl_crowd.specs.declared.member.Reception.{Reception}

-- What was written for these lines is a transcript of them by all that the pass has seen. They tell nothing; or it is
-- of a session that the pass opened since `first`, where no other pass spoke for that.
abbrev pub IsTranscribedAmong : (first pass : PassView) → List Turn → List ℕ → Type 0
IsTranscribedAmong first pass turns text =
    ((told_by turns ≡ []) × IsSeen pass 0 turns text)
    ⊎ ((session : ℕ) × HasOpened first pass session × (SpeaksAlone first pass session → IsSeen pass session turns text))

-- The same, where what was written begins it. There is no session either where there are as many as there may be.
abbrev pub BeginsAmong : (first pass : PassView) → List Turn → List ℕ → Type 0
BeginsAmong first pass turns part =
    (((told_by turns ≡ []) ⊎ IsCrowded pass) × BeginsSeen pass 0 turns part)
    ⊎ ((session : ℕ) × HasOpened first pass session × (SpeaksAlone first pass session
    → BeginsSeen pass session turns part))

-- The stream gave its input to the end, or to the end of a first line that was refused and no further, and took the
-- text of a session that was told these replies, or was turned away; and that is a transcript.
abbrev pub IsServedAmong : {S : Type 0} → (remaining contents : S → Option (List ℕ)) → KnownNames
    → (first pass : PassView) → Connection S → Type 0
IsServedAmong remaining contents names first pass conn =
    (told : List Reply) × All (λ reply. NamesAnswer names reply.answer) told
    × (((f : Finished names (ends_of remaining contents conn) (replies_alone (told_text names told)))
    × IsTranscribedAmong first pass f.turns (session_text (told_text names told) f.turns))
    ⊎ ((a : TurnedAway names (ends_of remaining contents conn) (replies_alone (told_text names told))
    (refused_sessions ++ bye_line))
    × IsSeen pass 0 a.turns (refused_sessions ++ bye_line)))

-- At any moment: what the stream took begins a transcript of the lines that it gave, all of them but perhaps the last.
pub record HasLeft {S : Type 0} (remaining contents : S → Option (List ℕ)) (names : KnownNames)
    (first pass : PassView) (conn : Connection S) : Type 0 where
  pub heard : List ℕ
  pub turns : List Turn
  pub took : Consumes conn.first.remaining (to_hear remaining conn) heard
  pub cut : HasHeard names conn.conv turns heard
  pub front : List Turn
  pub lacks : LacksTheLast front turns
  pub written : List ℕ
  pub put : Appends conn.first.contents (contents conn.stream) written
  pub transcribed : BeginsAmong first pass front written

-- A fault ended the session, and what the stream took begins the text of a session that was told these replies, and a
-- transcript of the lines that were heard.
abbrev pub IsCutShortAmong : {S : Type 0} → (remaining contents : S → Option (List ℕ)) → KnownNames
    → (first pass : PassView) → SessionFault → Connection S → Type 0
IsCutShortAmong remaining contents names first pass fault conn =
    (told : List Reply) × All (λ reply. NamesAnswer names reply.answer) told
    × (kind : SessionFault) × IsEndOf fault kind
    × (s : Stopped kind names (ends_of remaining contents conn) (is_read kind) (is_write kind)
    (replies_alone (told_text names told)))
    × BeginsAmong first pass s.heard s.written

-- how it leaves, by why; of one that was turned away nothing more is said after a fault
abbrev pub Departs : {S : Type 0} → (remaining contents : S → Option (List ℕ)) → KnownNames → (first pass : PassView)
    → Connection S → Reception → Option SessionFault → Type 0
Departs remaining contents names first pass conn reception None = HasLeft remaining contents names first pass conn
Departs remaining contents names first pass conn reception (Some fault) =
    HasLeft remaining contents names first pass conn ⊎ (IsReceived reception
    → IsCutShortAmong remaining contents names first pass fault conn)
