use Rattle.std.proofs.Common.{◌≡◌, ◌<◌, [], length, sym, ◌∙◌, ap, arith}
use Rattle.bl_work.specs.Names.{KnownNames}
use Rattle.bl_state.specs.Texts.{modes_at}
use Rattle.bl_state.proofs.Following.{row-skipped}
use Rattle.bl_state.proofs.line.next_in_row.Goals as goal

pub loop-place-preserved : goal.loop-place-preserved
loop-place-preserved c =
    let setup = c.args.setup.now in
    let many : c.documents-place-end.result ≡ length setup.names.documents =
    c.documents-place-end.ensures.value ∙ ap (λ (n : KnownNames). length n.documents) c.names.ensures.value in
    let within : c.loop-place.place < length setup.names.documents = omega (arith, c.loop-place-test.true, many) in
    let none : modes_at setup.policy.matrix c.args.whose c.loop-place.place ≡ [] =
    ap (modes_at setup.policy.matrix c.args.whose) (sym c.new-doc.ensures) ∙ sym c.of.ensures ∙ c.are_none.ensures.0 c.if-not-are_none.false in
    c.loop-place.invariant ∙ row-skipped setup c.args.whose c.loop-place.place within none
