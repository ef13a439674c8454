-- What is in a setup: the ids that a work, a denial or an answer names.
use Rattle.std.specs.Prelude.{ℕ, ◌<◌, List, length, All, ⊤, IfSome}
use Rattle.bl_policy.specs.RuleEffect.{IsRuleOf}
use Rattle.bl_policy.specs.declared.access.Access.{Access}
use Rattle.bl_policy.specs.declared.denial.Denial.{Denial}
use Rattle.bl_work.specs.Names.{KnownNames}
use Rattle.bl_work.specs.Readable.{IsReadable}
use Rattle.bl_work.specs.Statements.{Part}
use Rattle.bl_work.specs.declared.answer.Answer.{Answer}
use Rattle.bl_work.specs.declared.answer.Answer.TheVariants as answer
use Rattle.bl_work.specs.declared.work.Work.{Work}
use Rattle.bl_work.specs.declared.work.Work.TheVariants as work
use Rattle.bl_setup.specs.Setup.{Setup}
use Rattle.bl_order.specs.Order.{Entry, Line, Child, Task, Runs, Applies, accesses_of}

-- each document that the script declares is below this count
abbrev pub AreBelow : ℕ → List Part → Type 0
AreBelow documents script = All (λ (part : Part). All (λ (access : Access). access.doc < documents) part.accesses) script

-- the ids of a work are in the setup
abbrev pub KnowsWork : Setup → Work → Type 0
KnowsWork setup (work.Behaviour script) = AreBelow (length setup.policy.documents) script
KnowsWork setup (work.Rule rule) = IsRuleOf setup.policy rule

-- the ids of a task are in the setup
abbrev pub KnowsTask : Setup → Task → Type 0
KnowsTask setup (Runs script index) = All (λ (access : Access). access.doc < length setup.policy.documents) (accesses_of (Runs script index))
KnowsTask setup (Applies rule) = IsRuleOf setup.policy rule

-- the work of a line is one that some bytes ask, by these names
abbrev pub IsAsked : KnownNames → Entry → Type 0
IsAsked names (Line session ordinal subject work) = IsReadable names work
IsAsked names (Child parent which) = ⊤

-- the subject and the document of a denial are in the setup
pub record KnowsDenial (setup : Setup) (denial : Denial) : Type 0 where
  pub subject : denial.subject < length setup.policy.subjects
  pub object : IfSome denial.object (λ doc. doc < length setup.policy.documents)

-- the ids that an answer names are in the setup
abbrev pub KnowsAnswer : Setup → Answer → Type 0
KnowsAnswer setup (answer.Done outputs) = ⊤
KnowsAnswer setup answer.RuleDone = ⊤
KnowsAnswer setup (answer.Denied denial) = KnowsDenial setup denial
KnowsAnswer setup answer.Lost = ⊤
