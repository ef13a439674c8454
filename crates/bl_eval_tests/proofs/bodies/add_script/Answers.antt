use Rattle.std.proofs.Common.{◌≡◌, ◌≤◌, [], ◌∷◌, ap, sym, subst, lit≤}
use Rattle.bl_work.specs.Statements.{Part}
use Rattle.bl_work.specs.Nesting.{spawned, depth_at}
use Rattle.bl_work.specs.Script.{IsBehaviour}
use Rattle.bl_eval_tests.proofs.Handmade.{add_part, add-right}
use Rattle.bl_eval_tests.proofs.bodies.add_script.Goals as goal

pub one-requires-clause-behaviour : goal.one-requires-clause-behaviour
one-requires-clause-behaviour c =
    let made : Part = record { accesses = c.add_accesses-accesses.result; body = c.in_ok-body.body } in
    let e : made ≡ add_part = λ i. record { accesses = c.add_accesses-accesses.ensures i; body = c.in_ok-body.ensures i } in
    subst (λ (p : Part). IsBehaviour p) (sym e) add-right

pub one-requires-clause-alone : goal.one-requires-clause-alone
one-requires-clause-alone c = ap spawned c.in_ok-body.ensures

pub one-requires-clause-shallow : goal.one-requires-clause-shallow
one-requires-clause-shallow c =
    let made : Part = record { accesses = c.add_accesses-accesses.result; body = c.in_ok-body.body } in
    let e : made ≡ add_part = λ i. record { accesses = c.add_accesses-accesses.ensures i; body = c.in_ok-body.ensures i } in
    subst (λ (p : Part). depth_at (p ∷ []) 0 ≤ 8) (sym e) (lit≤ tt)
