-- Where a trail leads, and what is explained there.
use Rattle.std.specs.Prelude.{◌≡◌, ◌⊎◌, ◌+◌, ◌<◌, ◌≤◌, ℕ, Bool, List, Option, Some, None}
use Rattle.bl_order.specs.Now.{policy_now}
use Rattle.bl_setup.specs.Setup.{Setup}
use Rattle.bl_trail.specs.TrueText.{FirstWrong, IsTrueText}
use Rattle.bl_status.specs.declared.fault.ProgramFault.TheVariants as program
use Rattle.bl_explain.specs.declared.since.Applied.{Applied}
use Rattle.bl_ruled.specs.Ruled.{IsBehindStop, IsFront, front_end, front_rules}
use Rattle.bl_question.specs.Asked.{IsUnasked}
use Rattle.bl_question.specs.declared.question.Question.{Question}
use Rattle.bl_explaining.specs.Explained.{IsExplainedAt}
use Rattle.bl_explaining.specs.declared.setting.Moment.{Moment}
use Rattle.bl_explaining_trail.specs.declared.fault.AskedFault.{AskedFault}
use Rattle.bl_explaining_trail.specs.declared.fault.AskedFault.TheVariants as asking
use Rattle.bl_explaining_trail.specs.declared.fault.TrailFault.{TrailFault}
use Rattle.bl_explaining_trail.specs.declared.fault.TrailFault.TheVariants as failing
use Rattle.bl_explaining_trail.specs.declared.question.TrailQuestion.{TrailQuestion}

-- so many events are meant: all of a trail that is accepted, or the first ones
abbrev pub AreMeant : Setup → List ℕ → Option ℕ → ℕ → Type 0
AreMeant setup trail None count = IsTrueText setup trail count
AreMeant setup trail (Some number) count = count ≡ number

-- the rules that those events applied, in their order
abbrev pub AreRulesAt : Setup → List ℕ → Option ℕ → List Applied → Type 0
AreRulesAt setup trail at rules =
    (count : ℕ) × AreMeant setup trail at count × (front : IsFront setup trail count) × (rules ≡ front_rules setup trail count front)

-- the moment of the run behind those events: its rules are those that they applied, and its policy the one that stands there
pub record IsMomentOf (setup : Setup) (bytes trail : List ℕ) (at : Option ℕ) (m : Moment) : Type 0 where
  pub setup_is : m.setup.now ≡ setup
  pub bytes_is : m.bytes.now ≡ bytes
  pub count : ℕ
  pub meant : AreMeant setup trail at count
  pub front : IsFront setup trail count
  pub rules_are : m.rules.now ≡ front_rules setup trail count front
  pub policy_is : m.policy.now ≡ policy_now (front_end setup trail count front)

-- the text is what is told of what is asked where the trail leads, and it is granted, or not
abbrev pub IsExplainedThere : Setup → List ℕ → List ℕ → Option ℕ → Question → List ℕ → Bool → Type 0
IsExplainedThere setup bytes trail at q text granted = (m : Moment) × IsMomentOf setup bytes trail at m × IsExplainedAt m q text granted

-- the first line of the trail that is wrong; where the first events are meant it stands among them, or behind a `stop` before so many
abbrev pub IsWrongThere : Setup → List ℕ → Option ℕ → ℕ → Type 0
IsWrongThere setup trail None line = FirstWrong setup trail line
IsWrongThere setup trail (Some number) line = FirstWrong setup trail line × ((line ≤ number + 2) ⊎ IsBehindStop trail number line)

-- why a trail leads to no such moment: it is accepted and has fewer events, or it is wrong; or memory was refused
abbrev pub LeadsNowhere : Setup → List ℕ → Option ℕ → TrailFault → Type 0
LeadsNowhere setup trail at (failing.NoEvent number) = (at ≡ Some number) × (fewer : ℕ) × IsTrueText setup trail fewer × (fewer < number)
LeadsNowhere setup trail at (failing.Program fault) =
    (fault ≡ program.NoMemory) ⊎ ((line : ℕ) × (fault ≡ program.WrongAt line) × IsWrongThere setup trail at line)

-- why nothing is explained of what is asked: the trail leads to no such moment; or it does, and something that is asked is not known there
abbrev pub IsUntold : Setup → List ℕ → TrailQuestion → AskedFault → Type 0
IsUntold setup trail q (asking.Trail fault) = LeadsNowhere setup trail q.at fault
IsUntold setup trail q (asking.Question fault) =
    ((rules : List Applied) × AreRulesAt setup trail q.at rules) × IsUnasked setup.names q.question fault
