use Rattle.std.proofs.Common.{subst, sym}
use Rattle.bl_explain_text.specs.Telling.{HoldsRange}
use Rattle.bl_work.specs.Names.{KnownNames}
use Rattle.bl_explaining.proofs.Held.{range-held}
use Rattle.bl_explaining.proofs.access.put_range.Goals as goal

pub range_line-requires : goal.range_line-requires
range_line-requires c =
    let scheme = c.args.setting.now.moment.setup.now.names.scheme in
    let g = c.grounds-grounds.result in
    let mode = c.args.access.now.mode in
    subst (λ (n : KnownNames). HoldsRange n.scheme c.range-range.result) (sym c.names.ensures)
    (subst (HoldsRange scheme) (sym c.range-range.ensures)
    (range-held scheme c.requires.setting.moment.whole.names.scheme g c.grounds-grounds.ensures.held mode))
