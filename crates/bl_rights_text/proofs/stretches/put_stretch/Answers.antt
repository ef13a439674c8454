use Rattle.std.proofs.Common.{rules, ◌≡◌, ◌<◌, ◌≤◌, ◌+◌, ◌-◌, ℕ, List, arith, sym, ◌∙◌, flat_map}
use Rattle.std.specs.List.{range_with_len}
use Rattle.bl_wire.specs.Watch.{EndState, end_state}
use Rattle.bl_wire.proofs.PutLaws.{puts-is}
use Rattle.bl_state.proofs.Putting.{on-err}
use Rattle.bl_rights_text.specs.Stretches.{count_of, stretch_text, piece_of}
use Rattle.bl_rights_text.proofs.Putting.{from-end, from-here, front-here, put-next, put-start, put-over}
use Rattle.bl_rights_text.proofs.stretches.put_stretch.Goals as goal

pub loop-place-init : goal.loop-place-init
loop-place-init g c =
    let t = c.args.overview.now in
    let stretch = c.args.stretch.now in
    put-start (λ k. piece_of t stretch k) (count_of t stretch) (end_state g.W.Write.contents c.args.writer.now)

pub loop-place-preserved : goal.loop-place-preserved
loop-place-preserved g c =
    let t = c.args.overview.now in
    let stretch = c.args.stretch.now in
    let place = c.loop-place.place in
    let n = count_of t stretch in
    let piece : ℕ → List ℕ = λ k. piece_of t stretch k in
    let old : EndState = end_state g.W.Write.contents c.args.writer.now in
    let mid : EndState = end_state g.W.Write.contents c.loop-place.writer in
    let new : EndState = end_state g.W.Write.contents c.put.new.writer in
    let within : place < n = omega (arith, c.loop-place-test.true, c.count-many.ensures.value) in
    let is : c.in_ok-text.text.items ≡ c.deref.result.now = search rules in
    let told : c.in_ok-text.text.items ≡ piece place = c.in_ok-text.ensures in
    let same : c.deref.result.now ≡ piece place = sym is ∙ told in
    put-next (stretch_text t stretch) old (flat_map piece (range_with_len place (n - place))) (piece place) (flat_map piece (range_with_len (place + 1) (n - (place + 1)))) mid new
    (from-here piece place n within) c.loop-place.invariant (puts-is c.deref.result.now (piece place) mid new same c.put.ensures.puts)

pub returns-in_err-text-clause-front : goal.returns-in_err-text-clause-front
returns-in_err-text-clause-front g c =
    let t = c.args.overview.now in
    let stretch = c.args.stretch.now in
    on-err c.from_residual.result _
    (front-here (stretch_text t stretch) (end_state g.W.Write.contents c.args.writer.now)
    (flat_map (λ k. piece_of t stretch k) (range_with_len c.loop-place.place (count_of t stretch - c.loop-place.place)))
    (end_state g.W.Write.contents c.loop-place.writer) c.loop-place.invariant)

pub returns-clause-puts : goal.returns-clause-puts
returns-clause-puts g c =
    let t = c.args.overview.now in
    let stretch = c.args.stretch.now in
    let place = c.loop-place.place in
    let over : count_of t stretch ≤ place = omega (arith, c.loop-place-test.false, c.count-many.ensures.value) in
    put-over (stretch_text t stretch) (end_state g.W.Write.contents c.args.writer.now) (flat_map (λ k. piece_of t stretch k) (range_with_len place (count_of t stretch - place)))
    (end_state g.W.Write.contents c.loop-place.writer) (from-end (λ k. piece_of t stretch k) place (count_of t stretch) over) c.loop-place.invariant
