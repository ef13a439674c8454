-- The ids that an answer names are in the setup.
use Rattle.std.proofs.Common.{ℕ, ◌<◌, length}
use Rattle.std.specs.Prelude.{All, IfSome}
use Rattle.std.proofs.lemmas.List.Elements.{All-get_or}
use Rattle.bl_level.specs.Level.{SecurityLevel}
use Rattle.bl_policy.specs.Policy.{SecurityPolicy}
use Rattle.bl_policy.specs.declared.access.Access.{Access}
use Rattle.bl_work.specs.Statements.{Part, no_part}
use Rattle.bl_work.specs.declared.work.Work.{Work}
use Rattle.bl_work.specs.declared.work.Work.TheVariants as work
use Rattle.bl_setup.specs.Setup.{Setup, by_version}
use Rattle.bl_setup.specs.declared.version.Version.{Version}
use Rattle.bl_order.specs.Past.{fault_of_task, first_task, child_task}
use Rattle.bl_order.specs.Known.{KnowsTask, KnowsWork, KnowsDenial}
use Rattle.bl_order.proofs.KnownAnswers.{denial_known}
use Rattle.bl_monitor.specs.Judging.{HasBelow}

-- what is to be done of a work whose ids are there
task_known : (setup : Setup) (w : Work) (index : ℕ) → HasBelow (length setup.policy.subjects) (length setup.policy.documents) w index
    → KnowsTask setup (child_task (first_task w) index)
task_known setup (work.Behaviour script) index there =
    All-get_or (λ (part : Part). All (λ (access : Access). access.doc < length setup.policy.documents) part.accesses) script index no_part there.1 there.0
task_known setup (work.Rule rule) index there = there

-- what the policy has against it
pub task_ids : (setup : Setup) (p : SecurityPolicy) (s : ℕ) (carried : SecurityLevel) → s < length setup.policy.subjects → (w : Work) (index : ℕ)
    → HasBelow (length setup.policy.subjects) (length setup.policy.documents) w index
    → IfSome (fault_of_task p s carried (child_task (first_task w) index)) (KnowsDenial setup)
task_ids setup p s carried known w index there = denial_known setup p s known carried (child_task (first_task w) index) (task_known setup w index there)

work_of_version : (v : Version) (setup : Setup) (w : Work) → KnowsWork setup w → KnowsWork (by_version v setup) w
work_of_version v setup (work.Behaviour script) knows = knows
work_of_version v setup (work.Rule rule) knows = knows
