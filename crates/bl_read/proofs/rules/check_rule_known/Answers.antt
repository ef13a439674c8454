use Rattle.std.proofs.Common.{[], ◌∷◌}
use Rattle.bl_read.specs.declared.rules.Role.TheVariants.{Document}
use Rattle.bl_syntax.specs.RawRules.{raw_level}
use Rattle.bl_read.specs.RuleFaults.{mentioned, mentions_in_level, IsKnown}
use Rattle.bl_check.proofs.Firsts.{first_before, finds_behind, exits}
use Rattle.bl_read.proofs.RuleNames.{in_rule}
use Rattle.bl_read.proofs.rules.check_rule_known.Goals as goal

pub returns-in-Give : goal.returns-in-Give
returns-in-Give c = in_rule c.args.names.now _ _ _ c.in-Give.is c.check_right_known.ensures

pub returns-in-Rescind : goal.returns-in-Rescind
returns-in-Rescind c = in_rule c.args.names.now _ _ _ c.in-Rescind.is c.check_right_known-in-Rescind.ensures

pub returns-in-Current : goal.returns-in-Current
returns-in-Current c = in_rule c.args.names.now _ _ _ c.in-Current.is c.check_level_known.ensures

pub returns-in_err-check_known-in-Classify : goal.returns-in_err-check_known-in-Classify
returns-in_err-check_known-in-Classify c =
    in_rule c.args.names.now _ _ _ c.in-Classify.is
    (exits (IsKnown c.args.names.now) mentioned _ _ _ c.from_residual.ensures.1
    (first_before (IsKnown c.args.names.now) mentioned (record { role = Document; word = c.in-Classify.document.now } ∷ []) (mentions_in_level (raw_level c.in-Classify.level)) _
    c.in_err-check_known-in-Classify.ensures))

pub returns-in_ok-check_known-in-Classify : goal.returns-in_ok-check_known-in-Classify
returns-in_ok-check_known-in-Classify c =
    in_rule c.args.names.now _ _ _ c.in-Classify.is
    (finds_behind (IsKnown c.args.names.now) mentioned (record { role = Document; word = c.in-Classify.document.now } ∷ []) (mentions_in_level (raw_level c.in-Classify.level)) _
    c.in_ok-check_known-in-Classify.ensures c.check_level_known-in-Classify.ensures)

pub returns-in-Create : goal.returns-in-Create
returns-in-Create c = in_rule c.args.names.now _ _ _ c.in-Create.is c.check_known-in-Create.ensures

pub returns-in-Delete : goal.returns-in-Delete
returns-in-Delete c = in_rule c.args.names.now _ _ _ c.in-Delete.is c.check_known-in-Delete.ensures
