use Rattle.std.proofs.Common.{◌≡◌, ◌<◌, ◌≤◌, ◌+◌, ◌-◌, ℕ, List, ap, arith, length, subst, ◌∙◌, flat_map}
use Rattle.std.specs.List.{range_with_len}
use Rattle.bl_policy.specs.Policy.{SecurityPolicy}
use Rattle.bl_wire.specs.Watch.{EndState, Puts, end_state}
use Rattle.bl_state.proofs.Putting.{on-err}
use Rattle.bl_rights_text.specs.Fronts.{IsFrontPut}
use Rattle.bl_rights_text.specs.Stretches.{listing_text, stretch_text}
use Rattle.bl_rights_text.specs.declared.stretches.Stretch.TheVariants.{Each}
use Rattle.bl_rights_text.proofs.Putting.{from-end, from-here, front-within, put-next, put-start, put-over}
use Rattle.bl_rights_text.proofs.stretches.put_listing.Goals as goal

pub loop-place-init : goal.loop-place-init
loop-place-init g c =
    let t = c.args.overview.now in
    put-start (λ s. stretch_text t (Each c.args.listing s)) (length t.setup.now.policy.subjects) (end_state g.W.Write.contents c.args.writer.now)

pub loop-place-preserved : goal.loop-place-preserved
loop-place-preserved g c =
    let t = c.args.overview.now in
    let place = c.loop-place.place in
    let n = length t.setup.now.policy.subjects in
    let piece : ℕ → List ℕ = λ s. stretch_text t (Each c.args.listing s) in
    let old : EndState = end_state g.W.Write.contents c.args.writer.now in
    let mid : EndState = end_state g.W.Write.contents c.loop-place.writer in
    let new : EndState = end_state g.W.Write.contents c.put_stretch.new.writer in
    let many : c.subjects-many.result ≡ n = c.subjects-many.ensures.value ∙ ap (λ (p : SecurityPolicy). length p.subjects) c.policy.ensures.value in
    let within : place < n = omega (arith, c.loop-place-test.true, many) in
    put-next (listing_text t c.args.listing) old (flat_map piece (range_with_len place (n - place))) (piece place)
    (flat_map piece (range_with_len (place + 1) (n - (place + 1)))) mid new (from-here piece place n within) c.loop-place.invariant
    (subst (λ s. Puts (piece s) mid new) c.new-subject.ensures c.in_ok-put_stretch.ensures.puts)

pub returns-in_err-put_stretch-clause-front : goal.returns-in_err-put_stretch-clause-front
returns-in_err-put_stretch-clause-front g c =
    let t = c.args.overview.now in
    let place = c.loop-place.place in
    let n = length t.setup.now.policy.subjects in
    let piece : ℕ → List ℕ = λ s. stretch_text t (Each c.args.listing s) in
    let old : EndState = end_state g.W.Write.contents c.args.writer.now in
    let mid : EndState = end_state g.W.Write.contents c.loop-place.writer in
    let new : EndState = end_state g.W.Write.contents c.put_stretch.new.writer in
    let many : c.subjects-many.result ≡ n = c.subjects-many.ensures.value ∙ ap (λ (p : SecurityPolicy). length p.subjects) c.policy.ensures.value in
    let within : place < n = omega (arith, c.loop-place-test.true, many) in
    on-err c.from_residual.result _
    (front-within (listing_text t c.args.listing) old (flat_map piece (range_with_len place (n - place))) (piece place)
    (flat_map piece (range_with_len (place + 1) (n - (place + 1)))) mid new (from-here piece place n within) c.loop-place.invariant
    (subst (λ s. IsFrontPut (piece s) mid new) c.new-subject.ensures c.in_err-put_stretch.ensures.front))

pub returns-clause-puts : goal.returns-clause-puts
returns-clause-puts g c =
    let t = c.args.overview.now in
    let place = c.loop-place.place in
    let n = length t.setup.now.policy.subjects in
    let piece : ℕ → List ℕ = λ s. stretch_text t (Each c.args.listing s) in
    let many : c.subjects-many.result ≡ n = c.subjects-many.ensures.value ∙ ap (λ (p : SecurityPolicy). length p.subjects) c.policy.ensures.value in
    let over : n ≤ place = omega (arith, c.loop-place-test.false, many) in
    put-over (listing_text t c.args.listing) (end_state g.W.Write.contents c.args.writer.now) (flat_map piece (range_with_len place (n - place)))
    (end_state g.W.Write.contents c.loop-place.writer) (from-end piece place n over) c.loop-place.invariant
