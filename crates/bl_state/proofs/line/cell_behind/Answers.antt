use Rattle.std.proofs.Common.{◌≡◌, ◌+◌, [], sym, ◌∙◌, ap}
use Rattle.bl_state.specs.Lines.{cells_from, row_from}
use Rattle.bl_state.proofs.Following.{behind-row, left-as}
use Rattle.bl_state.proofs.line.cell_behind.Goals as goal

pub returns-in-None : goal.returns-in-None
returns-in-None c =
    let setup = c.args.setup.now in
    let whose = c.args.whose in
    let doc = c.args.doc in
    let over : row_from setup whose (doc + 1) ≡ [] =
    ap (λ k. row_from setup whose (k + 1)) (sym (c.from.ensures ∙ c.position.ensures)) ∙ c.in-None.ensures in
    behind-row setup whose doc c.cell_from.result c.requires over
    (left-as setup (cells_from setup (whose + 1)) (cells_from setup (c.from-in-None.result + 1)) c.cell_from.result
    (ap (λ k. cells_from setup (k + 1)) (sym (c.from-in-None.ensures ∙ c.position-in-None.ensures))) c.cell_from.ensures)
