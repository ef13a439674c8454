use Rattle.std.proofs.Common.{◌≡◌, ◌<◌, ◌∙◌, length, arith, subst, sym, ap, None, Some}
use Rattle.bl_policy.specs.declared.access.Access.{Access}
use Rattle.bl_policy.specs.FirstFault.{fault_of}
use Rattle.bl_policy.specs.Properties.{IsGranted}
use Rattle.bl_policy.proofs.Decisions.{first_fault-next, each_more}
use Rattle.bl_explain.specs.Tests.{fails_first, in_order, refused, tests_of}
use Rattle.bl_explain.proofs.Deciding.{at_place, found_there, decided_here}
use Rattle.bl_explain.proofs.several.first_refused.Goals as goal

pub returns-in-Some : goal.returns-in-Some
returns-in-Some c =
    let p = c.args.policy.now in
    let s = c.args.subject in
    let carried = c.args.carried.now in
    let accesses = c.args.accesses.now in
    let place = c.loop-place.place in
    let access = c.index-accesses-place.result in
    let clause = c.in-Some.clause in
    let within : place < length accesses = first_of (omega arith, omega (arith, c.loop-place-test.true)) in
    let named : fails_first (in_order (tests_of p s carried access)) ≡ Some clause =
    sym (c.fails_first.ensures ∙ ap (λ t. fails_first (in_order t)) c.explain.ensures.tests) ∙ c.in-Some.is in
    let fault : fault_of p s carried access ≡ refused s access (Some clause) =
    c.what_fails_first_decides.ensures.denial p s carried access ∙ ap (λ x. refused s access x) named in
    record {
      access = access;
      at = at_place accesses place access within c.index-accesses-place.is;
      granted_before = λ k earlier h at.
          subst (λ (a : Access). IsGranted p s carried a.doc a.mode) (found_there accesses k earlier earlier at) (c.loop-place.invariant.granted_before k earlier h);
      fails = c.what_fails_first_decides.ensures.fails p s carried access clause named;
      decision = c.loop-place.invariant.none_before ∙ decided_here p s carried accesses place access clause within c.index-accesses-place.is fault;
    }

pub loop-place-preserved : goal.loop-place-preserved
loop-place-preserved c =
    let p = c.args.policy.now in
    let s = c.args.subject in
    let carried = c.args.carried.now in
    let accesses = c.args.accesses.now in
    let place = c.loop-place.place in
    let access = c.index-accesses-place.result in
    let within : place < length accesses = first_of (omega arith, omega (arith, c.loop-place-test.true)) in
    let none : fails_first (in_order (tests_of p s carried access)) ≡ None =
    sym (c.fails_first.ensures ∙ ap (λ t. fails_first (in_order t)) c.explain.ensures.tests) ∙ c.in-None.is in
    let faultless : fault_of p s carried access ≡ None = c.what_fails_first_decides.ensures.denial p s carried access ∙ ap (λ x. refused s access x) none in
    let granted : IsGranted p s carried access.doc access.mode = (c.what_fails_first_decides.ensures.granted p s carried access).0 none in
    record {
      none_before = c.loop-place.invariant.none_before ∙ first_fault-next p s carried accesses place access within c.index-accesses-place.is faultless;
      granted_before = each_more (λ access. IsGranted p s carried access.doc access.mode) accesses place access within c.index-accesses-place.is
          c.loop-place.invariant.granted_before granted;
    }
