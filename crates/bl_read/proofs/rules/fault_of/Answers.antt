use Rattle.bl_syntax.specs.RawRules.{raw_rule}
use Rattle.bl_read.specs.RuleFaults.{mentioned, mentions_in, categories_in, IsKnown}
use Rattle.bl_read.proofs.RuleNames.{rule_names, categories_names, repeated_named}
use Rattle.bl_work.proofs.WhenFaults.{named}
use Rattle.bl_read.proofs.rules.fault_of.Goals as goal

pub unwrap-requires : goal.unwrap-requires
unwrap-requires c =
    c.new.ensures.some.1
    (named (IsKnown c.args.names.now) mentioned (mentions_in (raw_rule c.args.rule.now)) c.in-Err.name.now (rule_names (raw_rule c.args.rule.now) c.requires.proper) c.in-Err.ensures)

pub unwrap-requires-in-Err-check_rule_once : goal.unwrap-requires-in-Err-check_rule_once
unwrap-requires-in-Err-check_rule_once c =
    c.new-in-Err-check_rule_once.ensures.some.1
    (repeated_named (categories_in (raw_rule c.args.rule.now)) c.in-Err-check_rule_once.name.now (categories_names (raw_rule c.args.rule.now) c.requires.proper) c.in-Err-check_rule_once.ensures)

pub unreachable-requires : goal.unreachable-requires
unreachable-requires c = c.requires.faulty (record { known = c.in_default.ensures; once = c.in_default-check_rule_once.ensures })
