-- How far the conversation of a session over a gate has come.
use Rattle.std.specs.Prelude.{◌≡◌, ℕ, ◌≤◌, ◌⊎◌, ◌++◌, Bool, false, Option, Some, None, List, [], length, ⊤}
use Rattle.bl_work.specs.Names.{KnownNames}
use Rattle.bl_gate.specs.Gates.{GateId, PassView}
use Rattle.bl_wire.specs.Watch.{EndState, Use}
use Rattle.bl_hall.specs.declared.reply.Reply.{Reply}
use Rattle.bl_wire.specs.Turns.{IsOpening}
use Rattle.bl_wire.specs.declared.fault.SessionFault.{SessionFault}
use Rattle.bl_engine.specs.Conversations.{Given, GoesOnAlone, last_ordinal}
use Rattle.bl_engine.specs.Driving.{Exchange, HasListened, IsDriven}
use Rattle.bl_engine.specs.Parts.{SameWithin}
use Rattle.bl_engine.specs.Outcome.{Finished, Stopped, TurnedAway, TurnedAwayInPart, refused_sessions}
use Rattle.bl_wire.specs.Texts.{bye_line}
use Rattle.bl_engine.specs.View.{Ends, View, ends}
use Rattle.bl_engine.specs.declared.driver.Listener.{Listener}
use Rattle.bl_engine.specs.declared.request.Request.{Request}
use Rattle.bl_engine.specs.declared.request.Request.TheVariants.{Settles}
use Rattle.bl_engine.specs.declared.conversation.Opening.TheVariants.{Open, Full}
use Rattle.bl_engine.specs.declared.conversation.Conversation.{Conversation}
use Rattle.bl_serve.specs.Outcome.{ends_of}
use Rattle.bl_serve.specs.Told.{told_text}
use Rattle.bl_serve.specs.Visits.{HasCome, Home, IsCrowded}
use Rattle.bl_serve.specs.declared.visit.Visit.{Visit}

-- What may be given yet: without a session anything. With one, that it is open, and what was answered up to the last
-- line that was settled.
abbrev pub GivesWith : KnownNames → Visit → List Reply → Option ℕ → Given → Type 0
GivesWith names visit replies None given = ⊤
GivesWith names visit replies (Some session) given =
    (given.opening ≡ Open) × SameWithin 0 visit.upto (told_text names replies) given.replies

abbrev pub MayGive : KnownNames → Visit → List Reply → Given → Type 0
MayGive names visit replies given = GivesWith names visit replies visit.session given

-- there are as many sessions as there may be
abbrev pub IsFull : Given → Type 0
IsFull given = given.opening ≡ Full

-- what is seen of the machine that has told these replies
abbrev pub seen_of : GateId → PassView → Visit → List Reply → View
seen_of gate first visit replies = record {
  replies = told_text gate.base.setup.names replies;
  settled = λ n. n ≤ visit.upto;
  came = HasCome gate first visit replies;
}

-- What was asked was done, the last block is answered, and no line has an ordinal above the last one.
pub record HasDone (gate : GateId) (first : PassView) (after last : ℕ) (visit : Visit) (replies : List Reply)
    (asked : List Request) : Type 0 where
  pub come : HasCome gate first visit replies asked
  pub upto_is : visit.upto ≡ after
  pub last_is : visit.last ≤ last

-- The conversation waits for the reader, or for room to tell words.
pub record IsTalking (gate : GateId) (first : PassView) (ends : Ends) (conv : Conversation) (visit : Visit)
    : Type 0 where
  pub so_far : Exchange
  pub replies : List Reply
  pub driven : IsDriven gate.base.setup.names ends (MayGive gate.base.setup.names visit replies) conv so_far
  pub done : HasDone gate first conv.after (last_ordinal conv) visit replies so_far.asked
  pub alone : GoesOnAlone (length conv.pending.items) conv.stage

-- The subject's `hello` was the last line, there are as many sessions as there may be, and that is told.
pub record IsTurnedOff (gate : GateId) (first : PassView) (ends : Ends) (conv : Conversation) (visit : Visit)
    : Type 0 where
  pub so_far : Exchange
  pub driven : IsDriven gate.base.setup.names ends IsFull conv so_far
  pub subject : ℕ
  pub opened : IsOpening subject so_far.turns
  pub come : HasCome gate first visit [] []
  pub crowded : IsCrowded visit.pass
  pub alone : GoesOnAlone (length conv.pending.items) conv.stage

abbrev pub IsUnderWay : GateId → PassView → Ends → Conversation → Visit → Type 0
IsUnderWay gate first ends conv visit = IsTalking gate first ends conv visit ⊎ IsTurnedOff gate first ends conv visit

-- It has heard one line more at most, and what is asked at that is still to be done.
pub record IsAsking (gate : GateId) (first : PassView) (ends : Ends) (conv : Conversation) (request : Option Request)
    (visit : Visit) : Type 0 where
  pub so_far : Exchange
  pub replies : List Reply
  pub on : HasListened gate.base.setup.names ends (MayGive gate.base.setup.names visit replies) conv request so_far
  pub done : HasDone gate first conv.after (last_ordinal on.old) visit replies so_far.asked

-- what is written where there are as many sessions as there may be
abbrev pub full_words : List ℕ
full_words = refused_sessions ++ bye_line

-- the session was served, or turned away
abbrev pub HasEnded : GateId → PassView → Ends → Visit → Type 0
HasEnded gate first ends visit =
    (replies : List Reply) × (Finished gate.base.setup.names ends (seen_of gate first visit replies)
    ⊎ (IsCrowded visit.pass × TurnedAway gate.base.setup.names ends (seen_of gate first visit replies) full_words))

-- a fault ended it while it was served
abbrev pub HasStopped : SessionFault → GateId → PassView → Ends → (read_failed write_failed : Bool) → Visit → Type 0
HasStopped fault gate first ends read_failed write_failed visit =
    (replies : List Reply)
    × Stopped fault gate.base.setup.names ends read_failed write_failed (seen_of gate first visit replies)

-- or while it was turned away
abbrev pub HasBroken : SessionFault → GateId → PassView → Ends → (read_failed write_failed : Bool) → Visit → Type 0
HasBroken fault gate first ends read_failed write_failed visit =
    (replies : List Reply)
    × (Stopped fault gate.base.setup.names ends read_failed write_failed (seen_of gate first visit replies)
    ⊎ (IsCrowded visit.pass × TurnedAwayInPart fault gate.base.setup.names ends read_failed write_failed
    (seen_of gate first visit replies) full_words))

-- ---- a call of the conversation

-- a session at one point: its conversation, what was asked at the last line, its visit, and the writer
pub record Point : Type 0 where
  pub conv : Conversation
  pub request : Option Request
  pub visit : Visit
  pub writer : EndState

abbrev pub point_of : Listener → Visit → EndState → Point
point_of talk visit writer = record { conv = talk.conv; request = talk.request; visit = visit; writer = writer }

-- the block is to be answered
abbrev pub settling : Conversation → Visit → EndState → Point
settling conv visit writer = record { conv = conv; request = Some Settles; visit = visit; writer = writer }

-- what was asked is still to be done, whatever was read so far, and written at first
abbrev pub Asks : Home → Point → Type 0
Asks at point =
    (start rest written : Option (List ℕ))
    × IsAsking at.gate at.first (ends start rest written point.writer.bytes) point.conv point.request point.visit

-- it was done, and the conversation goes on
abbrev pub Meets : Home → Point → Conversation → Visit → EndState → Type 0
Meets at point conv visit writer =
    (start rest written : Option (List ℕ))
    → IsAsking at.gate at.first (ends start rest written point.writer.bytes) point.conv point.request point.visit
    → IsUnderWay at.gate at.first (ends start rest written writer.bytes) conv visit

-- a fault ended the session there, with which no read failed
abbrev pub BreaksFrom : SessionFault → Home → Point → Visit → EndState → Type 0
BreaksFrom fault at point visit writer =
    (start rest written : Option (List ℕ))
    → IsAsking at.gate at.first (ends start rest written point.writer.bytes) point.conv point.request point.visit
    → HasStopped fault at.gate at.first (ends start rest written writer.bytes) false writer.failed visit

-- the whole session has ended, or a fault ended it
abbrev pub IsOver : Home → Visit → (reader writer : Use) → Type 0
IsOver at visit reader writer = HasEnded at.gate at.first (ends_of reader writer) visit

abbrev pub IsBroken : SessionFault → Home → Visit → (reader writer : Use) → Type 0
IsBroken fault at visit reader writer =
    HasBroken fault at.gate at.first (ends_of reader writer) reader.failed writer.failed visit
