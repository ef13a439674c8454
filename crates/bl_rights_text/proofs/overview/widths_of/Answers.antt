use Rattle.std.proofs.Common.{◌≡◌, ℕ, List, sym, ap, ◌∙◌, arith, length, flat_map}
use Rattle.std.specs.Prelude.{fold}
use Rattle.std.specs.List.{range_with_len}
use Rattle.bl_policy.specs.Policy.{SecurityPolicy}
use Rattle.bl_rights.specs.Rows.{rows_of}
use Rattle.bl_rights.specs.declared.rows.Row.{Row}
use Rattle.bl_rights_text.specs.Table.{RowTexts, head_texts, widened, widths_by}
use Rattle.bl_rights_text.specs.declared.cells.Widths.{Widths}
use Rattle.bl_rights_text.proofs.Widening.{next-rows}
use Rattle.bl_rights_text.proofs.overview.widths_of.Goals as goal

pub loop-place-init : goal.loop-place-init
loop-place-init c = c.widths-wide.ensures ∙ ap (λ (t : RowTexts). widths_by t) c.in_ok-heads.ensures

pub loop-place-preserved : goal.loop-place-preserved
loop-place-preserved c =
    let setup = c.args.setup.now in
    let g : ℕ → List Row = λ s. rows_of setup.policy s in
    let place = c.loop-place.place in
    c.in_ok-wide.ensures ∙ ap (λ s. fold (widened setup) c.loop-place.wide (g s)) c.new-subject.ensures
    ∙ ap (λ (w : Widths). fold (widened setup) w (g place)) c.loop-place.invariant ∙ sym (next-rows setup (widths_by head_texts) g place)

pub returns : goal.returns
returns c =
    let setup = c.args.setup.now in
    let many : c.subjects-many.result ≡ length setup.policy.subjects =
    c.subjects-many.ensures.value ∙ ap (λ (p : SecurityPolicy). length p.subjects) c.policy.ensures.value in
    let all : c.loop-place.place ≡ length setup.policy.subjects = omega (arith, c.loop-place-test.false, c.loop-place.auto.place-end, many) in
    c.loop-place.invariant
    ∙ ap (λ n. fold (widened setup) (widths_by head_texts) (flat_map (λ s. rows_of setup.policy s) (range_with_len 0 n))) all
