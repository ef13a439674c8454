-- What a step of a member came to.
use Rattle.std.specs.Prelude.{◌≡◌, ◌<◌, ◌≤◌, ◌⊎◌, ⊤, ℕ, List, Option, Some, None, length}
use Rattle.bl_hall.specs.Told.{Waits}
use Rattle.bl_gate.specs.Gates.{KeepsInHand, PassView, state_seen}
use Rattle.bl_worker.specs.Turns.{Settles}
use Rattle.bl_wire.specs.declared.fault.SessionFault.{SessionFault}
use Rattle.bl_wire.specs.declared.fault.SessionFault.TheVariants.{Read, Write, TooLong, Memory, Clash}
use Rattle.bl_engine.specs.Conversations.{need_of, waits_left}
use Rattle.bl_engine.specs.declared.conversation.Need.TheVariants as needs
use Rattle.bl_connection.specs.Connections.{state_of, unwritten}
use Rattle.bl_connection.specs.declared.connection.State.TheVariants as states
use Rattle.bl_connection.specs.declared.connection.Connection.{Connection}
use Rattle.bl_connection.specs.declared.stream.Answer.{Answer}
use Rattle.bl_connection.specs.declared.stream.Answer.TheVariants as answers
use Rattle.bl_serve.specs.Courses.{SpeaksAlone}
use Rattle.bl_crowd.specs.declared.member.Member.{Member}
use Rattle.bl_crowd.specs.declared.member.Next.{Next}
use Rattle.bl_crowd.specs.declared.member.Next.TheVariants.{Goes, Blocked, Asks, Over, Failed}
use Rattle.bl_crowd.specs.declared.member.Next.TheVariants as nexts
use Rattle.bl_crowd.specs.declared.member.Reception.{Reception}
use Rattle.bl_crowd.specs.declared.member.Reception.TheVariants.{Awaited, Open, Full}

-- the stream answered a read or a write that it would block
abbrev pub IsBlocked : {S : Type 0} → (reads : S → Answer → S → Type 0) → (writes : S → List ℕ → Answer → S → Type 0)
    → (old new : Connection S) → Type 0
IsBlocked reads writes old new = reads old.stream answers.WouldBlock new.stream
    ⊎ writes old.stream (unwritten old) answers.WouldBlock new.stream

-- The stream gave bytes or its end, or took some; or something was heard, or told until all was or 64 KB wait.
abbrev pub IsGone : {S : Type 0} → (reads : S → Answer → S → Type 0) → (writes : S → List ℕ → Answer → S → Type 0)
    → (old new : Connection S) → Type 0
IsGone reads writes old new =
    ((n : ℕ) × reads old.stream (answers.Moved n) new.stream)
    ⊎ (((n : ℕ) × (0 < n) × writes old.stream (unwritten old) (answers.Moved n) new.stream)
    ⊎ ((waits_left new.conv < waits_left old.conv)
    ⊎ ((state_of old ≡ states.Tells) × (need_of new.conv ≡ needs.Room → 65536 ≤ length (unwritten new)))))

-- a fault of a step over the stream: the stream failed, or took nothing
abbrev pub IsFaultOf : {S : Type 0} → (reads : S → Answer → S → Type 0) → (writes : S → List ℕ → Answer → S → Type 0)
    → (old new : Connection S) → SessionFault → Type 0
IsFaultOf reads writes old new Read = reads old.stream answers.Failed new.stream
IsFaultOf reads writes old new Write = writes old.stream (unwritten old) answers.Failed new.stream
    ⊎ writes old.stream (unwritten old) (answers.Moved 0) new.stream
IsFaultOf reads writes old new TooLong = state_of old ≡ states.Hears
IsFaultOf reads writes old new Memory = ⊤
IsFaultOf reads writes old new Clash = ⊥

-- what one step over the stream alone comes to
abbrev pub IsOfStream : Next → Type 0
IsOfStream Goes = ⊤
IsOfStream Blocked = ⊤
IsOfStream Asks = ⊥
IsOfStream nexts.Full = ⊥
IsOfStream Over = ⊤
IsOfStream (Failed fault) = ⊥

-- a session that was opened has a number that none had
abbrev pub IsNewSession : PassView → Reception → Type 0
IsNewSession before Awaited = ⊥
IsNewSession before (Open session) = length (state_seen before).sessions ≤ session
IsNewSession before Full = ⊤

-- some entry of the session has not ended
abbrev pub IsWaiting : PassView → Reception → Type 0
IsWaiting pass Awaited = ⊥
IsWaiting pass (Open session) = Waits (state_seen pass) session
IsWaiting pass Full = ⊥

-- another pass spoke for the session
abbrev pub IsClash : (first pass : PassView) → Reception → Type 0
IsClash first pass Awaited = ⊥
IsClash first pass (Open session) = SpeaksAlone first pass session → ⊥
IsClash first pass Full = ⊥

-- the pass has in hand all that it had, and what it has started since then has ended
pub record KeepsHand (before after : PassView) : Type 0 where
  pub in_hand : KeepsInHand before after
  pub settles : Settles before after

-- the session that is open, and the subject for whom
abbrev pub open_for : Reception → Option ℕ → Option (ℕ × ℕ)
open_for Awaited subject = None
open_for (Open session) None = None
open_for (Open session) (Some subject) = Some (session, subject)
open_for Full subject = None

abbrev pub greeted_as : {S : Type 0} → Member S → Option (ℕ × ℕ)
greeted_as member = open_for member.reception member.subject
