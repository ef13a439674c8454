-- What a read line names is in the setup whose names it was read under.
use Rattle.std.proofs.Common.{ℕ, ◌<◌, List, length, subst}
use Rattle.bl_policy.specs.RuleEffect.{HasIdsBelow}
use Rattle.bl_work.specs.LineGrammar.{LineOf}
use Rattle.bl_work.specs.KnownLine.{IsKnownLine}
use Rattle.bl_work.specs.declared.asked.Line.{Line}
use Rattle.bl_work.specs.declared.asked.Line.TheVariants as asked
use Rattle.bl_work.specs.declared.work.Work.{Work}
use Rattle.bl_work.specs.declared.work.Work.TheVariants.{Behaviour, Rule}
use Rattle.bl_work.specs.Names.{KnownNames}
use Rattle.bl_setup.specs.Agreement.{Agree}
use Rattle.bl_setup.specs.Setup.{Setup}
use Rattle.bl_order.specs.Known.{KnowsWork, AreBelow}

module _ (known : (names : KnownNames) (bytes : List ℕ) (line : Line) → LineOf names bytes line → IsKnownLine names line) where
  pub subject_in_setup : (setup : Setup) (bytes : List ℕ) (subject : ℕ) → Agree setup → LineOf setup.names bytes (asked.Hello subject) → subject < length setup.policy.subjects
  subject_in_setup setup bytes subject agree is =
      subst (λ n. subject < n) agree.subjects (known setup.names bytes (asked.Hello subject) is)

  pub work_in_setup : (setup : Setup) (bytes : List ℕ) (work : Work) → Agree setup → LineOf setup.names bytes (asked.Work work) → KnowsWork setup work
  work_in_setup setup bytes (Behaviour script) agree is =
      subst (λ n. AreBelow n script) agree.documents (known setup.names bytes (asked.Work (Behaviour script)) is)
  work_in_setup setup bytes (Rule rule) agree is =
      subst (λ n. HasIdsBelow n (length setup.policy.documents) rule) agree.subjects
      (subst (λ n. HasIdsBelow (length setup.names.subjects) n rule) agree.documents (known setup.names bytes (asked.Work (Rule rule)) is))
