use Rattle.std.proofs.Common.{codes, refl, [], ◌∷◌}
use Rattle.bl_command_line.specs.CommandLine.{setup_rule, trail_rule}
use Rattle.bl_command_line.proofs.Rules.{made_with}
use Rattle.bl_command_line.proofs.parsers.recover_parser.Goals as goal

pub returns : goal.returns
returns c =
    made_with _ c.after_help.result c.in_ok-options.options.items (codes "recover") (setup_rule ∷ trail_rule ∷ [])
    (rw (c.after_help.ensures, c.about.ensures) c.new.ensures.app)
    (rw (c.in_ok-options.ensures.items, c.setup_option.ensures, c.trail_option.ensures) refl)
    refl c.args-2.ensures
