use Rattle.std.proofs.Common.{map, sym, ap, ◌∙◌, ◌∷◌}
use Rattle.bl_setup.specs.Lines.{without_cr}
use Rattle.bl_spot.proofs.Parting.{begins_first}
use Rattle.bl_spot.proofs.cut.first_line.Goals as goal

pub returns : goal.returns
returns c =
    let first = begins_first c.args.bytes.now c.split_line.result.0.now c.split_line.result.1.now c.split_line.ensures in
    (map without_cr first.0, ap (map without_cr) first.1 ∙ ap (λ l. l ∷ map without_cr first.0) (sym c.without_cr.ensures))
