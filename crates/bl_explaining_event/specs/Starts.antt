-- A start that has happened, and in which setting it is told.
use Rattle.std.specs.Prelude.{◌≡◌, ◌<◌, ℕ, Bool, All, List, Option, Some, None, length}
use Rattle.bl_policy.specs.declared.access.Access.{Access}
use Rattle.bl_policy.specs.RuleEffect.{HasIdsBelow}
use Rattle.bl_work.specs.Names.{KnownNames}
use Rattle.bl_order.specs.Machine.{Event, Starts, State, past_at}
use Rattle.bl_order.specs.Now.{policy_now}
use Rattle.bl_order.specs.Order.{Task, Runs, Applies, accesses_of}
use Rattle.bl_setup.specs.Setup.{Setup}
use Rattle.bl_state.specs.Whole.{IsWhole}
use Rattle.bl_hall.specs.Chronicle.{Chronicle}
use Rattle.bl_explain.specs.Since.{KnowsApplied, policy_after}
use Rattle.bl_explain.specs.declared.since.Applied.{Applied}
use Rattle.bl_explain_text.specs.RuleReasons.{HoldsAsked}
use Rattle.bl_explaining.specs.Explained.{IsMoment, IsSetting}
use Rattle.bl_explaining.specs.declared.explained.Explained.{Explained}
use Rattle.bl_explaining.specs.declared.setting.Moment.{Moment}
use Rattle.bl_explaining.specs.declared.setting.Setting.{Setting}
use Rattle.bl_explaining_event.specs.Courses.{HasHappened}
use Rattle.bl_explaining_event.specs.Decisions.{IsNoStart, TellsStart}

-- what a task names is known, and the level that a rule asks for has a name
abbrev pub IsTaskFor : KnownNames → Task → Type 0
IsTaskFor names (Runs script index) = All (λ (access : Access). access.doc < length names.documents) (accesses_of (Runs script index))
IsTaskFor names (Applies rule) = HasIdsBelow (length names.subjects) (length names.documents) rule × HoldsAsked names.scheme rule

-- the last event of the hall is this start, and the setting is for its subject, with what it carried
pub record IsStartIn (t : Setting) (hall : Chronicle) (n : ℕ) (x : State) : Type 0 where
  pub setting : IsSetting t
  pub happened : HasHappened hall x (Starts n)
  pub setup_is : x.setup ≡ t.moment.setup.now
  pub subject : t.subject ≡ (past_at x n).subject
  pub carried : t.carried ≡ (past_at x n).carried
  pub task : IsTaskFor t.moment.setup.now.names (past_at x n).task

-- the last event of the hall is this one, and the moment is that of the state which it found
pub record IsMomentBefore (m : Moment) (hall : Chronicle) (x : State) (event : Event) : Type 0 where
  pub moment : IsMoment m
  pub happened : HasHappened hall x event
  pub setup_is : x.setup ≡ m.setup.now
  pub policy_is : m.policy.now ≡ policy_now x

-- the last event of the hall found the policy that these rules made of the setup's
pub record IsBehind (setup : Setup) (rules : List Applied) (hall : Chronicle) (x : State) (event : Event) : Type 0 where
  pub whole : IsWhole setup
  pub happened : HasHappened hall x event
  pub setup_is : x.setup ≡ setup
  pub known : All (KnowsApplied setup.policy) rules
  pub made : policy_now x ≡ policy_after setup.policy rules

-- what is told of a start at its moment
pub record IsToldAt (m : Moment) (path : List ℕ) (number n : ℕ) (x : State) (text : List ℕ) (granted : Bool) : Type 0 where
  pub t : Setting
  pub moment_is : t.moment ≡ m
  pub path_is : t.path.now ≡ path
  pub told : TellsStart t x number n text granted

-- what is told of the last event, if it is a start
abbrev pub IsToldOfLast : Moment → List ℕ → ℕ → State → Event → Option Explained → Type 0
IsToldOfLast m path number x event None = IsNoStart event
IsToldOfLast m path number x event (Some told) = (n : ℕ) × (event ≡ Starts n) × IsToldAt m path number n x told.text.items told.granted

-- the same behind these rules
pub record IsToldBehind (setup : Setup) (bytes : List ℕ) (rules : List Applied) (path : List ℕ) (number : ℕ) (x : State) (event : Event)
    (told : Option Explained) : Type 0 where
  pub m : Moment
  pub setup_is : m.setup.now ≡ setup
  pub bytes_is : m.bytes.now ≡ bytes
  pub rules_are : m.rules.now ≡ rules
  pub policy_is : m.policy.now ≡ policy_now x
  pub tells : IsToldOfLast m path number x event told
