-- What a call of the conversation of a session that is kept is given, and what comes of it.
use Rattle.std.specs.Prelude.{◌≡◌, false, ℕ, List, Option, Some}
use Rattle.bl_setup.specs.Setup.{Setup}
use Rattle.bl_hall.specs.Chronicle.{Chronicle}
use Rattle.bl_wire.specs.Watch.{EndState, Use, Watch, end_state}
use Rattle.bl_engine.specs.View.{Ends, ends}
use Rattle.bl_engine.specs.declared.conversation.Conversation.{Conversation}
use Rattle.bl_engine.specs.declared.driver.Listener.{Listener}
use Rattle.bl_engine.specs.declared.request.Request.{Request}
use Rattle.bl_engine.specs.declared.request.Request.TheVariants.{Settles}
use Rattle.bl_session.specs.Reaching.{FinishesKept, IsReachedTo, StopsKept}
use Rattle.bl_session.specs.Talks.{IsAsking, IsUnderWay}
use Rattle.bl_session.specs.declared.entries.Alone.{Alone}
use Rattle.bl_session.specs.declared.entries.Pages.{Pages}
use Rattle.bl_session.specs.declared.keep.Stop.{Stop}

-- A session at one point: its conversation, what was asked at the last line, its pages, which halls' trails are kept as
-- far as they have come, and the writer.
pub record Point : Type 1 where
  pub conv : Conversation
  pub request : Option Request
  pub pages : Pages
  pub reached : Chronicle → Type 0
  pub writer : EndState

-- where a listener has heard a line
abbrev pub point_of : {K W : Type 0} → (K → Chronicle → Type 0) → (W → Option (List ℕ)) → Listener → Pages → K → Watch W
    → Point
point_of reached known talk pages keep writer = record {
  conv = talk.conv;
  request = talk.request;
  pages = pages;
  reached = reached keep;
  writer = end_state known writer;
}

-- where the block is to be answered
abbrev pub settling : {K W : Type 0} → (K → Chronicle → Type 0) → (W → Option (List ℕ)) → Conversation → Pages → K
    → Watch W → Point
settling reached known conv pages keep writer = record {
  conv = conv;
  request = Some Settles;
  pages = pages;
  reached = reached keep;
  writer = end_state known writer;
}

-- What was asked is still to be done, whatever was read so far, and written at first, in whatever hall the session
-- began. No write has failed, and what was told is kept.
pub record Asks (behind : Alone) (at : Point) : Type 0 where
  pub fine : at.writer.failed ≡ false
  pub start : Option (List ℕ)
  pub rest : Option (List ℕ)
  pub first : Option (List ℕ)
  pub begun : Chronicle
  pub asking : IsAsking behind.setup begun (ends start rest first at.writer.bytes) at.conv at.request at.pages
  pub reached : IsReachedTo at.reached begun at.conv.after at.pages

-- It was done, and the conversation goes on. No write has failed, and what is kept has kept up with what was told.
pub record Meets (behind : Alone) (at : Point) (conv : Conversation) (s : Pages) (Reached : Chronicle → Type 0)
    (writer : EndState) : Type 0 where
  pub fine : writer.failed ≡ false
  pub on : (start rest first : Option (List ℕ)) (begun : Chronicle)
      → IsAsking behind.setup begun (ends start rest first at.writer.bytes) at.conv at.request at.pages
      → IsUnderWay behind.setup begun (ends start rest first writer.bytes) conv s
  pub reached : (begun : Chronicle) → IsReachedTo at.reached begun at.conv.after at.pages
      → IsReachedTo Reached begun conv.after s

-- the session stopped there, where no read had failed, and all that was told was kept
abbrev pub StopsFrom : Stop → Alone → Point → (Chronicle → Type 0) → Pages → EndState → Type 0
StopsFrom stop behind at Held s writer =
    (start rest first : Option (List ℕ)) (begun : Chronicle)
    → IsAsking behind.setup begun (ends start rest first at.writer.bytes) at.conv at.request at.pages
    → IsReachedTo at.reached begun at.conv.after at.pages
    → StopsKept Held behind.setup begun stop (ends start rest first writer.bytes) false writer.failed s

-- ---- a whole session

-- what is known of the ends before and after
abbrev pub ends_of : (reader writer : Use) → Ends
ends_of reader writer = ends reader.before reader.after writer.before writer.after

-- no call of either end failed, and all that was written is handed on
abbrev pub AreFine : {R W : Type 0} → (reader : Watch R) → (writer : Watch W) → Type 0
AreFine reader writer = (reader.failed ≡ false) × (writer.failed ≡ false) × (writer.unflushed ≡ false)

-- a session that began in this hall was told to its end, and kept
abbrev pub IsOver : (Chronicle → Type 0) → Setup → Chronicle → Pages → (reader writer : Use) → Type 0
IsOver Reached setup begun s reader writer = FinishesKept Reached setup begun (ends_of reader writer) s

-- or it stopped, and all that was told was kept
abbrev pub IsStopped : (Chronicle → Type 0) → Setup → Chronicle → Stop → Pages → (reader writer : Use) → Type 0
IsStopped Held setup begun stop s reader writer =
    StopsKept Held setup begun stop (ends_of reader writer) reader.failed writer.failed s
