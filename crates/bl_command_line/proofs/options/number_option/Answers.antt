use Rattle.std.proofs.Common.{◌∙◌, Some, ap}
use Rattle.bl_command_line.proofs.Rules.{bound_is, number_is}
use Rattle.bl_command_line.proofs.options.number_option.Goals as goal

pub returns : goal.returns
returns c =
    let given = c.value_parser-2.ensures.given in
    number_is _ _ _ _ _ c.value_parser.result c.range.result _ _ c.ranges.least.fits c.ranges.most.fits c.value_parser.ensures
    (bound_is _ _ _ c.ranges.least.fits c.from.ensures c.new-range.ensures.start) (bound_is _ _ _ c.ranges.most.fits c.from-2.ensures c.new-range.ensures.end)
    c.range.ensures c.text_option.ensures c.value_parser-2.ensures.others (given.1 ∙ ap Some given.2)
