use Rattle.std.proofs.Common.{◌≡◌, ◌<◌, ◌≤◌, ℕ, Bool, true, false, ap, sym, ◌∙◌, arith, length, Some}
use Rattle.bl_rights.specs.Remarks.{leads_down}
use Rattle.bl_rights.proofs.Numbers.{find-here, find-next, find-none}
use Rattle.bl_rights.proofs.remarks.way_down.Goals as goal

pub returns-then-leads_down-clause-value : goal.returns-then-leads_down-clause-value
returns-then-leads_down-clause-value c =
    let p = c.args.policy.now in
    let place = c.loop-place.place in
    let test : ℕ → Bool = λ from. leads_down p c.args.subject from in
    let within : place < length p.documents = omega (arith, c.loop-place-test.true, c.documents-many.ensures.value) in
    let holds : test place ≡ true = sym (ap test c.new-doc.ensures) ∙ sym c.leads_down.ensures ∙ c.if-leads_down.true in
    ap (λ x. Some x) c.new-doc.ensures ∙ sym (c.loop-place.invariant ∙ find-here test place (length p.documents) within holds)

pub loop-place-preserved : goal.loop-place-preserved
loop-place-preserved c =
    let p = c.args.policy.now in
    let place = c.loop-place.place in
    let test : ℕ → Bool = λ from. leads_down p c.args.subject from in
    let within : place < length p.documents = omega (arith, c.loop-place-test.true, c.documents-many.ensures.value) in
    let fails : test place ≡ false = sym (ap test c.new-doc.ensures) ∙ sym c.leads_down.ensures ∙ c.if-leads_down.false in
    c.loop-place.invariant ∙ find-next test place (length p.documents) within fails

pub returns-clause-value : goal.returns-clause-value
returns-clause-value c =
    let p = c.args.policy.now in
    let over : length p.documents ≤ c.loop-place.place = omega (arith, c.loop-place-test.false, c.documents-many.ensures.value) in
    sym (c.loop-place.invariant ∙ find-none (λ from. leads_down p c.args.subject from) c.loop-place.place (length p.documents) over)
