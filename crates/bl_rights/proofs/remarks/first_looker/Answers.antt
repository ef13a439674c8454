use Rattle.std.proofs.Common.{◌≡◌, ◌<◌, ◌≤◌, ℕ, Bool, true, false, ap, sym, ◌∙◌, arith, length, Some}
use Rattle.bl_rights.specs.Remarks.{can_look}
use Rattle.bl_rights.proofs.Numbers.{find-here, find-next, find-none}
use Rattle.bl_rights.proofs.remarks.first_looker.Goals as goal

pub returns-then-can_look : goal.returns-then-can_look
returns-then-can_look c =
    let p = c.args.policy.now in
    let place = c.loop-place.place in
    let test : ℕ → Bool = λ s. can_look p s c.args.doc in
    let within : place < length p.subjects = omega (arith, c.loop-place-test.true, c.subjects-many.ensures.value) in
    let holds : test place ≡ true = sym (ap test c.new-subject.ensures) ∙ sym c.can_look.ensures ∙ c.if-can_look.true in
    ap (λ x. Some x) c.new-subject.ensures ∙ sym (c.loop-place.invariant ∙ find-here test place (length p.subjects) within holds)

pub loop-place-preserved : goal.loop-place-preserved
loop-place-preserved c =
    let p = c.args.policy.now in
    let place = c.loop-place.place in
    let test : ℕ → Bool = λ s. can_look p s c.args.doc in
    let within : place < length p.subjects = omega (arith, c.loop-place-test.true, c.subjects-many.ensures.value) in
    let fails : test place ≡ false = sym (ap test c.new-subject.ensures) ∙ sym c.can_look.ensures ∙ c.if-can_look.false in
    c.loop-place.invariant ∙ find-next test place (length p.subjects) within fails

pub returns : goal.returns
returns c =
    let p = c.args.policy.now in
    let over : length p.subjects ≤ c.loop-place.place = omega (arith, c.loop-place-test.false, c.subjects-many.ensures.value) in
    sym (c.loop-place.invariant ∙ find-none (λ s. can_look p s c.args.doc) c.loop-place.place (length p.subjects) over)
