use Rattle.std.proofs.Common.{rules, ◌≡◌, ◌<◌, ◌≤◌, ℕ, List, true, false, ap, arith, sym, ◌∙◌}
use Rattle.bl_rights_text.specs.Stretches.{count_of, piece_of}
use Rattle.bl_rights_text.specs.Table.{is_told}
use Rattle.bl_rights_text.proofs.Told.{told-all, told-here, told-later, told-nowhere}
use Rattle.bl_rights_text.proofs.stretches.tells.Goals as goal

pub loop-place-init : goal.loop-place-init
loop-place-init c = told-all (λ k. piece_of c.args.overview.now c.args.stretch.now k) (count_of c.args.overview.now c.args.stretch.now)

pub returns-then-is_told : goal.returns-then-is_told
returns-then-is_told c =
    let t = c.args.overview.now in
    let stretch = c.args.stretch.now in
    let place = c.loop-place.place in
    let n = count_of t stretch in
    let piece : ℕ → List ℕ = λ k. piece_of t stretch k in
    let within : place < n = omega (arith, c.loop-place-test.true, c.count-many.ensures.value) in
    let same : c.in_ok-text.text.items ≡ c.deref.result.now = search rules in
    let text : is_told (piece place) ≡ c.is_told.result = ap is_told (sym c.in_ok-text.ensures ∙ same) ∙ sym c.is_told.ensures in
    sym (c.loop-place.invariant ∙ told-here piece place n within (text ∙ c.if-is_told.true))

pub loop-place-preserved : goal.loop-place-preserved
loop-place-preserved c =
    let t = c.args.overview.now in
    let stretch = c.args.stretch.now in
    let place = c.loop-place.place in
    let n = count_of t stretch in
    let piece : ℕ → List ℕ = λ k. piece_of t stretch k in
    let within : place < n = omega (arith, c.loop-place-test.true, c.count-many.ensures.value) in
    let same : c.in_ok-text.text.items ≡ c.deref.result.now = search rules in
    let text : is_told (piece place) ≡ c.is_told.result = ap is_told (sym c.in_ok-text.ensures ∙ same) ∙ sym c.is_told.ensures in
    c.loop-place.invariant ∙ told-later piece place n within (text ∙ c.if-is_told.false)

pub returns : goal.returns
returns c =
    let t = c.args.overview.now in
    let stretch = c.args.stretch.now in
    let over : count_of t stretch ≤ c.loop-place.place = omega (arith, c.loop-place-test.false, c.count-many.ensures.value) in
    sym (c.loop-place.invariant ∙ told-nowhere (λ k. piece_of t stretch k) c.loop-place.place (count_of t stretch) over)
