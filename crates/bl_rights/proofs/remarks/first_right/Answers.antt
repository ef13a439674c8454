use Rattle.std.proofs.Common.{◌≡◌, ◌<◌, ◌≤◌, ℕ, Bool, true, false, ap, sym, ◌∙◌, arith, length, Some}
use Rattle.bl_rights.specs.Rows.{has_right}
use Rattle.bl_rights.proofs.Numbers.{find-here, find-next, find-none}
use Rattle.bl_rights.proofs.remarks.first_right.Goals as goal

pub returns-then-has_right : goal.returns-then-has_right
returns-then-has_right c =
    let p = c.args.policy.now in
    let place = c.loop-place.place in
    let test : ℕ → Bool = λ o. has_right p c.args.subject o in
    let within : place < length p.documents = omega (arith, c.loop-place-test.true, c.documents-many.ensures.value) in
    let holds : test place ≡ true = sym (ap test c.new-doc.ensures) ∙ sym c.has_right.ensures ∙ c.if-has_right.true in
    ap (λ x. Some x) c.new-doc.ensures ∙ sym (c.loop-place.invariant ∙ find-here test place (length p.documents) within holds)

pub loop-place-preserved : goal.loop-place-preserved
loop-place-preserved c =
    let p = c.args.policy.now in
    let place = c.loop-place.place in
    let test : ℕ → Bool = λ o. has_right p c.args.subject o in
    let within : place < length p.documents = omega (arith, c.loop-place-test.true, c.documents-many.ensures.value) in
    let fails : test place ≡ false = sym (ap test c.new-doc.ensures) ∙ sym c.has_right.ensures ∙ c.if-has_right.false in
    c.loop-place.invariant ∙ find-next test place (length p.documents) within fails

pub returns : goal.returns
returns c =
    let p = c.args.policy.now in
    let over : length p.documents ≤ c.loop-place.place = omega (arith, c.loop-place-test.false, c.documents-many.ensures.value) in
    sym (c.loop-place.invariant ∙ find-none (λ o. has_right p c.args.subject o) c.loop-place.place (length p.documents) over)
