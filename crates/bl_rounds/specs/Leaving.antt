-- How a connection leaves its thread.
use Rattle.std.specs.Prelude.{◌≡◌, ◌-◌, ℕ, Bool, true, false, List, Option, Some, None}
use Rattle.bl_gate.specs.Gates.{Follows, PassView}
use Rattle.bl_engine.specs.Conversations.{last_ordinal}
use Rattle.bl_wire.specs.declared.fault.SessionFault.{SessionFault}
use Rattle.bl_crowd.specs.Departures.{Departs, IsServedAmong}
use Rattle.bl_crowd.specs.Ways.{IsMember}
use Rattle.bl_crowd.specs.declared.member.Member.{Member}
use Rattle.bl_rounds.specs.declared.rounds.Gone.{Gone}

-- how a member is left that shared this pass, by why it leaves: its session is over; a fault ended it; or its line
-- would never have fitted in the trail, and what it was told before stands
abbrev pub LeavesAs : {S : Type 0} → (remaining contents : S → Option (List ℕ)) → (first pass : PassView) → Member S
    → Bool → Option SessionFault → Type 0
LeavesAs remaining contents first pass member false None =
    IsServedAmong remaining contents pass.gate.base.setup.names first pass member.connection
LeavesAs remaining contents first pass member false (Some fault) =
    Departs remaining contents pass.gate.base.setup.names first pass member.connection member.reception (Some fault)
LeavesAs remaining contents first pass member true fault = (member.full ≡ true)
    × Departs remaining contents pass.gate.base.setup.names first pass member.connection member.reception fault

-- it was a member over this stream, and has left so; its thread was given this pass
pub record HasGone {S : Type 0} (remaining contents : S → Option (List ℕ)) (first : PassView) (gone : Gone S)
    : Type 0 where
  pub pass : PassView
  pub follows : Follows first pass
  pub member : Member S
  pub was : IsMember remaining contents pass.gate.base.setup.names first pass member
  pub stream_is : gone.stream ≡ member.connection.stream
  pub fault_is : gone.fault ≡ member.fault
  pub lines_is : gone.lines ≡ last_ordinal member.connection.conv
  pub refused_is : gone.refused ≡ last_ordinal member.connection.conv - member.tally.admitted
  pub leaves : LeavesAs remaining contents first pass member gone.full gone.fault

-- the same, of one that has left at any moment
pub record HasParted {S : Type 0} (remaining contents : S → Option (List ℕ)) (first : PassView) (gone : Gone S)
    : Type 0 where
  pub pass : PassView
  pub follows : Follows first pass
  pub member : Member S
  pub was : IsMember remaining contents pass.gate.base.setup.names first pass member
  pub stream_is : gone.stream ≡ member.connection.stream
  pub fault_is : gone.fault ≡ member.fault
  pub lines_is : gone.lines ≡ last_ordinal member.connection.conv
  pub refused_is : gone.refused ≡ last_ordinal member.connection.conv - member.tally.admitted
  pub full_is : gone.full ≡ member.full
  pub departs : Departs remaining contents pass.gate.base.setup.names first pass member.connection member.reception
      gone.fault
