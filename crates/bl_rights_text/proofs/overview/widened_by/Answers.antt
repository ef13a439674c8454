use Rattle.std.proofs.Common.{◌≡◌, ℕ, sym, ap, ◌∙◌, arith, length}
use Rattle.std.specs.Prelude.{filter_map, fold, Option}
use Rattle.std.specs.List.{range_with_len}
use Rattle.bl_policy.specs.Policy.{SecurityPolicy}
use Rattle.bl_rights.specs.Rows.{row_at}
use Rattle.bl_rights.specs.declared.rows.Row.{Row}
use Rattle.bl_rights_text.specs.Stretches.{widened_where}
use Rattle.bl_rights_text.specs.Table.{widened}
use Rattle.bl_rights_text.specs.declared.cells.Widths.{Widths}
use Rattle.bl_rights_text.proofs.Widening.{next-row}
use Rattle.bl_rights_text.proofs.overview.widened_by.Goals as goal

pub loop-place-preserved : goal.loop-place-preserved
loop-place-preserved c =
    let setup = c.args.setup.now in
    let h : ℕ → Option Row = λ o. row_at setup.policy c.args.subject o in
    let place = c.loop-place.place in
    c.in_ok-wide.ensures ∙ ap (λ o. widened_where setup c.loop-place.wide (h o)) c.new-doc.ensures
    ∙ ap (λ (w : Widths). widened_where setup w (h place)) c.loop-place.invariant ∙ sym (next-row setup c.args.widths h place)

pub returns : goal.returns
returns c =
    let setup = c.args.setup.now in
    let many : c.documents-many.result ≡ length setup.policy.documents =
    c.documents-many.ensures.value ∙ ap (λ (p : SecurityPolicy). length p.documents) c.policy.ensures.value in
    let all : c.loop-place.place ≡ length setup.policy.documents = omega (arith, c.loop-place-test.false, c.loop-place.auto.place-end, many) in
    c.loop-place.invariant
    ∙ ap (λ n. fold (widened setup) c.args.widths (filter_map (λ o. row_at setup.policy c.args.subject o) (range_with_len 0 n))) all
