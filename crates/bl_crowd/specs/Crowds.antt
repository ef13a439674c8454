-- The members of a crowd.
use Rattle.std.specs.Prelude.{◌≡◌, ◌⊎◌, ℕ, ◌+◌, ◌<◌, ◌≤◌, true, List, Option, Some, None, get_or}
use Rattle.bl_work.specs.Names.{KnownNames}
use Rattle.bl_wire.specs.declared.fault.SessionFault.{SessionFault}
use Rattle.bl_wire.specs.declared.fault.SessionFault.TheVariants.{TooLong, Memory, Clash}
use Rattle.bl_engine.specs.Conversations.{waits_left}
use Rattle.bl_connection.specs.Connections.{state_of}
use Rattle.bl_connection.specs.declared.connection.State.TheVariants.{Hears, Tells}
use Rattle.bl_gate.specs.Gates.{Follows, PassView, state_seen}
use Rattle.bl_worker.specs.Hands.{HasMade}
use Rattle.bl_worker.specs.Turns.{AddsTurnsAlone}
use Rattle.bl_quota.specs.declared.quota.Fit.TheVariants.{Later, Never}
use Rattle.bl_crowd.specs.Fitting.{IsHeldBack}
use Rattle.bl_crowd.specs.Steps.{IsClash, IsWaiting}
use Rattle.bl_crowd.specs.Ways.{AreMembers, HasFailed}
use Rattle.bl_crowd.specs.declared.crowd.Crowd.{Crowd}
use Rattle.bl_crowd.specs.declared.member.Member.{Member}

-- the pass is of the gate, and the members share it
pub record IsCrowd {S : Type 0} (remaining contents : S → Option (List ℕ)) (crowd : Crowd S) : Type 0 where
  pub gate_is : crowd.pass.gate ≡ crowd.gate.now
  pub members : AreMembers remaining contents crowd.gate.now.base.setup.names crowd.first.value crowd.pass
      crowd.members.items

-- Why a member failed in a turn: it had before, memory was refused, or another pass spoke for its session.
abbrev pub IsTurnFault : {S : Type 0} → (first before after : PassView) → (was now : Member S) → SessionFault → Type 0
IsTurnFault first before after was now fault =
    (was.fault ≡ Some fault) ⊎ ((fault ≡ Memory)
    ⊎ ((fault ≡ Clash) × ((at : PassView) × Follows before at × Follows at after × IsClash first at now.reception)))

-- An entry of its session had not ended, or its line fits only once others have ended; or it will never fit, and the
-- member is full.
abbrev pub IsPutOff : {S : Type 0} → (known : Type 0) → Option ℕ → PassView → Member S → Type 0
IsPutOff known bound at member =
    IsWaiting at member.reception ⊎ (IsHeldBack known bound (state_seen at) member.asked Later
    ⊎ ((member.full ≡ true) × IsHeldBack known bound (state_seen at) member.asked Never))

-- The member asks nothing more, or it has failed, or it was put off in between. What the quota says of its line is said
-- where what it counts is known.
abbrev pub IsMet : {S : Type 0} → (known : Type 0) → Option ℕ → (first before after : PassView) → (was now : Member S)
    → Type 0
IsMet known bound first before after was now =
    (now.asked ≡ None) ⊎ (((fault : SessionFault) × (now.fault ≡ Some fault)
    × IsTurnFault first before after was now fault)
    ⊎ ((at : PassView) × Follows before at × Follows at after × IsPutOff known bound at now))

-- ---- with the next lines of what was read

-- The member has met, or a next line was longer than it may hear.
abbrev pub IsMetOn : {S : Type 0} → (remaining contents : S → Option (List ℕ)) → KnownNames
    → (known : Type 0) → Option ℕ → (first before after : PassView) → (was now : Member S) → Type 0
IsMetOn remaining contents names known bound first before after was now =
    IsMet known bound first before after was now
    ⊎ ((now.fault ≡ Some TooLong) × ((at : PassView) × Follows before at × Follows at after
    × HasFailed remaining contents names first at now TooLong))

abbrev pub AreMetOn : {S : Type 0} → (remaining contents : S → Option (List ℕ)) → KnownNames
    → (known : Type 0) → Option ℕ → (first before after : PassView) → (old new : List (Member S)) → ℕ → Type 0
AreMetOn {S} remaining contents names known bound first before after old new count = (i : ℕ) (d : Member S) → i < count
    → IsMetOn remaining contents names known bound first before after (get_or old i d) (get_or new i d)

-- Where it asks nothing and still has something to hear it has heard so many lines, or parts of them: each is a step
-- towards the end of what it may hear.
abbrev pub HasHeardOn : {S : Type 0} → ℕ → (was now : Member S) → Type 0
HasHeardOn most was now = now.fault ≡ None → now.asked ≡ None → state_of now.connection ≡ Hears
    → most + waits_left now.connection.conv ≤ waits_left was.connection.conv

abbrev pub HaveHeardOn : {S : Type 0} → ℕ → (old new : List (Member S)) → ℕ → Type 0
HaveHeardOn {S} most old new count = (i : ℕ) (d : Member S) → i < count
    → HasHeardOn most (get_or old i d) (get_or new i d)

-- the pass as a turn finds it: it has seen what others did, and has made no event
pub record IsFound (before found : PassView) : Type 0 where
  pub follows : Follows before found
  pub own : found.own ≡ before.own

-- The last that the pass has done is that it took turns, with so many events.
abbrev pub HasBegunLast : ℕ → (before after : PassView) → Type 0
HasBegunLast count before after =
    (at : PassView) × Follows before at × AddsTurnsAlone at after × HasMade count at after
