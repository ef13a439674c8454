use Rattle.std.proofs.Common.{◌≡◌, ◌<◌, ◌∙◌, length, arith, subst, None, Option, sym, rules}
use Rattle.std.specs.Prelude.{IfNone}
use Rattle.bl_policy.specs.declared.denial.Denial.{Denial}
use Rattle.bl_policy.specs.Properties.{IsGranted}
use Rattle.bl_policy.proofs.Decisions.{None-of_no_some, first_fault-next, each_more}
use Rattle.bl_policy.proofs.policy.Policy.decide.Goals as goal

pub loop-access-preserved : goal.loop-access-preserved
loop-access-preserved c =
    let within : c.loop-access.access-index < length c.args.accesses.now = omega arith in
    let none : c.fault-found.result ≡ None = None-of_no_some c.fault-found.result (search rules) in
    let granted : IsGranted c.args.self.now c.args.subject c.args.carried.now c.access-item.result.doc c.access-item.result.mode =
    subst (λ (o : Option Denial). IfNone o (IsGranted c.args.self.now c.args.subject c.args.carried.now c.access-item.result.doc c.access-item.result.mode)) none c.fault-found.ensures.granted in
    record {
      none_before = c.loop-access.invariant.none_before ∙ first_fault-next c.args.self.now c.args.subject c.args.carried.now c.args.accesses.now c.loop-access.access-index c.access-item.result within c.access-item.is (sym c.fault-found.ensures.first ∙ none);
      granted_before = each_more (λ access. IsGranted c.args.self.now c.args.subject c.args.carried.now access.doc access.mode) c.args.accesses.now c.loop-access.access-index c.access-item.result within c.access-item.is c.loop-access.invariant.granted_before granted;
    }

pub returns-clause-secure : goal.returns-clause-secure
returns-clause-secure c = λ k d h. (c.loop-access.invariant.granted_before k d (omega (arith, h, c.loop-access-test.false))).secure

pub returns-clause-granted : goal.returns-clause-granted
returns-clause-granted c = λ k d h. c.loop-access.invariant.granted_before k d (omega (arith, h, c.loop-access-test.false))
