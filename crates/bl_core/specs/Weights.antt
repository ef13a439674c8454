-- What a work weighs, and what a rule answers.
use Rattle.std.specs.Prelude.{◌≡◌, ℕ, ◌<◌, Option, Some, None}
use Rattle.bl_policy.specs.declared.denial.Denial.{Denial}
use Rattle.bl_work.specs.declared.answer.Answer.{Answer}
use Rattle.bl_work.specs.declared.answer.Answer.TheVariants as answers
use Rattle.bl_work.specs.declared.work.Work.{Work}
use Rattle.bl_order.specs.Machine.{weight_of}
use Rattle.bl_place.specs.Places.{HasBehaviour}

-- the weight of a work, which is not 0, since a work that is a script has a first behaviour
pub record IsWeighed (work : Work) (weight : ℕ) : Type 0 where
  pub number : weight ≡ weight_of work
  pub some : 0 < weight
  pub first : HasBehaviour work 0

-- the answer of a rule, by what the policy has against it
abbrev pub ruled : Option Denial → Answer
ruled (Some denial) = answers.Denied denial
ruled None = answers.RuleDone
