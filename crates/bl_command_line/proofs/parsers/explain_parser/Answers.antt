use Rattle.std.proofs.Common.{codes, refl, [], ◌∷◌}
use Rattle.bl_command_line.specs.CommandLine.{at_rule, carried_rule, event_rule, kept_trail_rule, setup_rule, subject_rule, wish_rule}
use Rattle.bl_command_line.proofs.Rules.{made_with}
use Rattle.bl_command_line.proofs.parsers.explain_parser.Goals as goal

pub returns : goal.returns
returns c =
    made_with _ c.after_help.result c.in_ok-options.options.items (codes "explain") (setup_rule ∷ carried_rule ∷ kept_trail_rule ∷ at_rule ∷ event_rule ∷ subject_rule ∷ wish_rule ∷ [])
    (rw (c.after_help.ensures, c.about.ensures) c.new.ensures.app)
    (rw (c.in_ok-options.ensures.items, c.setup_option.ensures, c.carried_option.ensures, c.kept_trail_option.ensures, c.at_option.ensures, c.event_option.ensures, c.subject_word.ensures, c.wish_words.ensures) refl)
    refl c.args-2.ensures
