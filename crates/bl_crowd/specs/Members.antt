-- How a connection stands with the pass that it shares.
use Rattle.std.specs.Prelude.{◌≡◌, ◌<◌, ◌≤◌, ◌++◌, ◌+◌, ⊤, ℕ, List, [], ◌∷◌, replicate, Option, Some, None}
use Rattle.bl_work.specs.Names.{KnownNames}
use Rattle.bl_hall.specs.declared.reply.Reply.{Reply}
use Rattle.bl_gate.specs.Gates.{PassView}
use Rattle.bl_wire.specs.Turns.{IsOpening}
use Rattle.bl_wire.specs.declared.turn.Turn.{Turn}
use Rattle.bl_engine.specs.BlockText.{Begins}
use Rattle.bl_engine.specs.Conversations.{AwaitsAt, Given, IsHeardOf, last_ordinal, need_of, whole_asked, whole_text}
use Rattle.bl_engine.specs.Driving.{Exchange}
use Rattle.bl_engine.specs.Outcome.{LacksTheLast}
use Rattle.bl_engine.specs.Parts.{MayTake}
use Rattle.bl_engine.specs.declared.conversation.Conversation.{Conversation}
use Rattle.bl_engine.specs.declared.conversation.Need.{Need}
use Rattle.bl_engine.specs.declared.conversation.Need.TheVariants as needs
use Rattle.bl_engine.specs.declared.conversation.Opening.{Opening}
use Rattle.bl_engine.specs.declared.conversation.Opening.TheVariants as openings
use Rattle.bl_engine.specs.declared.request.Request.{Request}
use Rattle.bl_engine.specs.declared.request.Request.TheVariants.{Opens, Admits, Settles}
use Rattle.bl_connection.specs.Connections.{Answers, IsConnected, unwritten}
use Rattle.bl_connection.specs.declared.connection.Connection.{Connection}
use Rattle.bl_serve.specs.Courses.{Course, IsCourse}
use Rattle.bl_serve.specs.Telling.{Stands, left_of}
use Rattle.bl_serve.specs.Told.{told_text}
use Rattle.bl_serve.specs.Visits.{IsCrowded}
use Rattle.bl_serve.specs.declared.talk.Told.{Told}
use Rattle.bl_crowd.specs.declared.member.Reception.{Reception}
use Rattle.bl_crowd.specs.declared.member.Reception.TheVariants.{Awaited, Open, Full}

-- ---- the session

-- How a connection stands: what its session was told, what was done of what it asked, an ordinal up to which all lies
-- that was asked, and the one up to which it was answered.
pub record Account : Type 0 where
  pub replies : List Reply
  pub done : List Request
  pub last : ℕ
  pub upto : ℕ

-- what the machine has answered: nothing, or these replies to the lines up to an ordinal, or that there are as many
-- sessions as there may be
abbrev pub HasAnswered : KnownNames → List Reply → ℕ → Reception → Opening → (ℕ → List ℕ) → ℕ → Type 0
HasAnswered names replies upto Awaited opening answers last = ⊤
HasAnswered names replies upto (Open session) opening answers last = (opening ≡ openings.Open)
    × (answers ≡ told_text names replies) × (last ≡ upto)
HasAnswered names replies upto Full opening answers last = opening ≡ openings.Full

-- what it may still give
abbrev pub MayGive : KnownNames → List Reply → ℕ → Reception → Given → Type 0
MayGive names replies upto reception given =
    (opening : Opening) × (answers : ℕ → List ℕ) × (last : ℕ)
    × HasAnswered names replies upto reception opening answers last × Answers opening answers last given

abbrev pub course_of : KnownNames → Account → ℕ → Course
course_of names account session = record {
  session = session;
  last = account.last;
  upto = account.upto;
  replies = told_text names account.replies;
}

-- no session was asked for
pub record HasNoSession (account : Account) : Type 0 where
  pub none : account.done ≡ []
  pub quiet : account.replies ≡ []
  pub last : account.last ≡ 0
  pub upto : account.upto ≡ 0

-- the last line asked for a session, and there were as many as there may be
pub record IsTurnedOff (pass : PassView) (turns : List Turn) (account : Account) (asked : Option Request) : Type 0 where
  pub crowded : IsCrowded pass
  pub subject : ℕ
  pub opened : IsOpening subject turns
  pub done_is : account.done ≡ Opens subject ∷ []
  pub none : asked ≡ None

-- a session that is open is on its course, whoever else the pass speaks for
abbrev pub HasCourse : KnownNames → (first pass : PassView) → Account → List Turn → Option Request → Reception → Type 0
HasCourse names first pass account turns asked Awaited = HasNoSession account
HasCourse names first pass account turns asked (Open session) =
    IsCourse names first pass (course_of names account session) account.done
HasCourse names first pass account turns asked Full = IsTurnedOff pass turns account asked

-- ---- what is asked

-- these lines ask what was asked, but for settling, and what was said begins what is told to them
pub record BeginsAt (given : Given) (turns : List Turn) (asked : List Request) (said : List ℕ) : Type 0 where
  pub begins : Begins said (whole_text given.opening given.replies turns)
  pub settles : ℕ
  pub asked_is : whole_asked given.opening turns ≡ asked ++ replicate settles Settles

-- the ordinal of what is to be admitted is the last one of the block, and a new one
abbrev pub IsNext : (last : ℕ) → Conversation → Request → Type 0
IsNext last conv (Opens subject) = ⊤
IsNext last conv (Admits ordinal work) = (ordinal ≡ last_ordinal conv) × (last < ordinal)
IsNext last conv Settles = ⊤

-- the last line asks this, and before it all was done that is asked
pub record IsAsked {S : Type 0} (names : KnownNames) (MayGive : Given → Type 0) (conn : Connection S) (x : Exchange)
    (account : Account) (request : Request) : Type 0 where
  pub asked_is : x.asked ≡ account.done ++ request ∷ []
  pub origin : IsHeardOf names request
  pub next : IsNext account.last conn.conv request
  pub awaits : AwaitsAt (Some request) (last_ordinal conn.conv) conn.conv.stage
  pub quiet : unwritten conn ≡ []
  pub front : List Turn
  pub lacks : LacksTheLast front x.turns
  pub before : (given : Given) → MayGive given → BeginsAt given front account.done x.said

-- it waits for nothing from the machine
abbrev pub AwaitsNothing : Need → Type 0
AwaitsNothing needs.Input = ⊤
AwaitsNothing needs.End = ⊤
AwaitsNothing needs.Opening = ⊥
AwaitsNothing needs.Replies = ⊥
AwaitsNothing needs.Room = ⊤
AwaitsNothing needs.Over = ⊤

-- all was done that is asked
pub record HasDone {S : Type 0} (conn : Connection S) (x : Exchange) (account : Account) : Type 0 where
  pub asked_is : x.asked ≡ account.done
  pub alone : AwaitsNothing (need_of conn.conv)

abbrev pub HasAsked : {S : Type 0} → KnownNames → (MayGive : Given → Type 0) → Connection S → Exchange → Account
    → Option Request → Type 0
HasAsked names MayGive conn x account None = HasDone conn x account
HasAsked names MayGive conn x account (Some request) = IsAsked names MayGive conn x account request

-- the block stands where the session does: what was asked and answered lies up to its end, or up to its beginning
-- while it is not told
pub record IsAtBlock (conv : Conversation) (told : Told) (account : Account) : Type 0 where
  pub last : account.last ≤ last_ordinal conv
  pub within : account.upto ≤ account.last
  pub upto : (need_of conv ≡ needs.Room → ⊥) → account.upto ≤ conv.after
  pub stands : need_of conv ≡ needs.Room → MayTake (Stands told) (conv.after + conv.line + 1)

-- ---- the connection

-- all that went through the stream is this exchange, whatever the machine may still give
abbrev pub IsJoined : {S : Type 0} → (remaining contents : S → Option (List ℕ)) → KnownNames → Connection S → Told
    → Account → Reception → Exchange → Type 0
IsJoined remaining contents names conn told account reception x =
    (opening : Opening) (answers : ℕ → List ℕ) (last : ℕ)
    → HasAnswered names account.replies account.upto reception opening answers last
    → IsConnected remaining contents names (Answers opening answers last) (left_of told) conn x
