use Rattle.std.proofs.Common.{◌≡◌, ◌<◌, ◌≤◌, ℕ, List, true, false, ap, arith, length, sym, ◌∙◌}
use Rattle.bl_policy.specs.Policy.{SecurityPolicy}
use Rattle.bl_rights_text.specs.Stretches.{stretch_text}
use Rattle.bl_rights_text.specs.Table.{is_told}
use Rattle.bl_rights_text.specs.declared.stretches.Stretch.TheVariants.{Each}
use Rattle.bl_rights_text.proofs.Told.{told-all, told-here, told-later, told-nowhere}
use Rattle.bl_rights_text.proofs.stretches.tells_any.Goals as goal

pub loop-place-init : goal.loop-place-init
loop-place-init c =
    let t = c.args.overview.now in
    told-all (λ s. stretch_text t (Each c.args.listing s)) (length t.setup.now.policy.subjects)

pub returns-then-some : goal.returns-then-some
returns-then-some c =
    let t = c.args.overview.now in
    let place = c.loop-place.place in
    let n = length t.setup.now.policy.subjects in
    let piece : ℕ → List ℕ = λ s. stretch_text t (Each c.args.listing s) in
    let many : c.subjects-many.result ≡ n = c.subjects-many.ensures.value ∙ ap (λ (p : SecurityPolicy). length p.subjects) c.policy.ensures.value in
    let within : place < n = omega (arith, c.loop-place-test.true, many) in
    let here : is_told (piece place) ≡ true = ap (λ s. is_told (piece s)) (sym c.new-subject.ensures) ∙ sym c.in_ok-some.ensures ∙ c.if-some.true in
    sym (c.loop-place.invariant ∙ told-here piece place n within here)

pub loop-place-preserved : goal.loop-place-preserved
loop-place-preserved c =
    let t = c.args.overview.now in
    let place = c.loop-place.place in
    let n = length t.setup.now.policy.subjects in
    let piece : ℕ → List ℕ = λ s. stretch_text t (Each c.args.listing s) in
    let many : c.subjects-many.result ≡ n = c.subjects-many.ensures.value ∙ ap (λ (p : SecurityPolicy). length p.subjects) c.policy.ensures.value in
    let within : place < n = omega (arith, c.loop-place-test.true, many) in
    let nothing : is_told (piece place) ≡ false = ap (λ s. is_told (piece s)) (sym c.new-subject.ensures) ∙ sym c.in_ok-some.ensures ∙ c.if-some.false in
    c.loop-place.invariant ∙ told-later piece place n within nothing

pub returns : goal.returns
returns c =
    let t = c.args.overview.now in
    let place = c.loop-place.place in
    let n = length t.setup.now.policy.subjects in
    let piece : ℕ → List ℕ = λ s. stretch_text t (Each c.args.listing s) in
    let many : c.subjects-many.result ≡ n = c.subjects-many.ensures.value ∙ ap (λ (p : SecurityPolicy). length p.subjects) c.policy.ensures.value in
    let over : n ≤ place = omega (arith, c.loop-place-test.false, many) in
    sym (c.loop-place.invariant ∙ told-nowhere piece place n over)
