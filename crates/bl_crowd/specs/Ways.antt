-- How far a member of a crowd has come.
use Rattle.std.specs.Prelude.{◌≡◌, ◌≢◌, ℕ, All, AllPairs, ◌⊎◌, List, Option, Some, None}
use Rattle.bl_work.specs.Names.{KnownNames}
use Rattle.bl_setup.specs.Agreement.{Agree}
use Rattle.bl_hall.specs.declared.reply.Reply.{Reply}
use Rattle.bl_gate.specs.Gates.{PassView}
use Rattle.bl_wire.specs.Faults.{is_read, is_write}
use Rattle.bl_wire.specs.declared.fault.SessionFault.{SessionFault}
use Rattle.bl_wire.specs.declared.fault.SessionFault.TheVariants.{Memory, Write}
use Rattle.bl_engine.specs.Driving.{Exchange}
use Rattle.bl_engine.specs.Outcome.{Stopped}
use Rattle.bl_engine.specs.declared.request.Request.{Request}
use Rattle.bl_connection.specs.Connections.{HasBegun, ends_of, state_of, view_of}
use Rattle.bl_connection.specs.declared.connection.State.TheVariants as states
use Rattle.bl_serve.specs.Told.{IsTold, told_text}
use Rattle.bl_serve.specs.Courses.{SpeaksForItsOwn}
use Rattle.bl_crowd.specs.Members.{Account, HasAsked, HasCourse, IsAtBlock, IsJoined, MayGive}
use Rattle.bl_crowd.specs.declared.member.Member.{Member}
use Rattle.bl_crowd.specs.declared.member.Reception.{Reception}
use Rattle.bl_crowd.specs.declared.member.Reception.TheVariants.{Awaited, Open, Full}

-- the pass is of a hall with these names, whose setup agrees with itself
pub record IsHome (names : KnownNames) (pass : PassView) : Type 0 where
  pub agree : Agree pass.gate.base.setup
  pub names_are : names ≡ pass.gate.base.setup.names

-- the account of a member that was told these replies, and for which this was done
abbrev pub account_of : {S : Type 0} → Member S → List Reply → List Request → Account
account_of member replies done = record { replies = replies; done = done; last = member.last; upto = member.upto }

-- What went through the stream is an exchange; of what it asked all was done, but perhaps what is asked at the last
-- line; and the session is on its course with the pass, which may speak for others too.
pub record IsUnderWay {S : Type 0} (remaining contents : S → Option (List ℕ)) (names : KnownNames)
    (first pass : PassView) (member : Member S) (asked : Option Request) : Type 0 where
  pub x : Exchange
  pub replies : List Reply
  pub done : List Request
  pub joined : IsJoined remaining contents names member.connection member.told (account_of member replies done)
      member.reception x
  pub course : HasCourse names first pass (account_of member replies done) x.turns asked member.reception
  pub asks : HasAsked names (MayGive names replies member.upto member.reception) member.connection x
      (account_of member replies done) asked
  pub told : All (IsTold names 0 member.upto) replies
  pub block : IsAtBlock member.connection.conv member.told (account_of member replies done)
  pub names_are : member.names.now ≡ names

-- how a fault ends a session: as it says, or as where writing failed
abbrev pub IsEndOf : SessionFault → SessionFault → Type 0
IsEndOf fault kind = (kind ≡ fault) ⊎ ((fault ≡ Memory) × (kind ≡ Write))

-- a session that is not turned away
abbrev pub IsReceived : Reception → Type 0
IsReceived Awaited = Unit {0}
IsReceived (Open session) = Unit {0}
IsReceived Full = ⊥

-- A fault ended it, and its session is on its course. Where there was no memory for what is told, it ends as where
-- writing failed.
pub record HasFailed {S : Type 0} (remaining contents : S → Option (List ℕ)) (names : KnownNames)
    (first pass : PassView) (member : Member S) (fault : SessionFault) : Type 0 where
  pub begun : HasBegun remaining contents member.connection
  pub x : Exchange
  pub replies : List Reply
  pub course : HasCourse names first pass (account_of member replies x.asked) x.turns None member.reception
  pub told : All (IsTold names 0 member.upto) replies
  pub kind : SessionFault
  pub kind_is : IsEndOf fault kind
  pub stopped : IsReceived member.reception
      → Stopped kind names (ends_of remaining contents member.connection) (is_read kind) (is_write kind)
      (view_of (told_text names replies) member.upto x.asked)

-- how it stands, by why it is to leave
abbrev pub StandsSo : {S : Type 0} → (remaining contents : S → Option (List ℕ)) → KnownNames
    → (first pass : PassView) → Member S → Option SessionFault → Type 0
StandsSo remaining contents names first pass member None =
    IsUnderWay remaining contents names first pass member member.asked
StandsSo remaining contents names first pass member (Some fault) =
    IsUnderWay remaining contents names first pass member member.asked
    ⊎ HasFailed remaining contents names first pass member fault

abbrev pub IsMember : {S : Type 0} → (remaining contents : S → Option (List ℕ)) → KnownNames
    → (first pass : PassView) → Member S → Type 0
IsMember remaining contents names first pass member = StandsSo remaining contents names first pass member member.fault

-- they have no session in common
abbrev pub AreApart : {S : Type 0} → Member S → Member S → Type 0
AreApart one other = (session : ℕ) → one.reception ≡ Open session → other.reception ≢ Open session

-- The members of a crowd, whose pass has spoken for no session since `first` but such as it opened.
pub record AreMembers {S : Type 0} (remaining contents : S → Option (List ℕ)) (names : KnownNames)
    (first pass : PassView) (members : List (Member S)) : Type 0 where
  pub home : IsHome names pass
  pub speaks : SpeaksForItsOwn first pass
  pub each : All (IsMember remaining contents names first pass) members
  pub differ : AllPairs AreApart members

-- it has not failed and asks nothing, and is to read its stream
pub record IsToRead {S : Type 0} (member : Member S) : Type 0 where
  pub fine : member.fault ≡ None
  pub none : member.asked ≡ None
  pub state : state_of member.connection ≡ states.Reads
