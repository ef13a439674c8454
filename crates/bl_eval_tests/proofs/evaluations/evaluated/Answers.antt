use Rattle.std.proofs.Common.{List, ap, sym, ◌∙◌, subst, arith}
use Rattle.std.specs.Prelude.{slice_index_or}
use Rattle.bl_policy.specs.declared.access.Access.{Access}
use Rattle.bl_work.specs.Statements.{Part, no_part}
use Rattle.bl_grant.specs.Loaned.{Loaned}
use Rattle.bl_grant.specs.Loans.{entry_of}
use Rattle.bl_eval.specs.Loan.{AreFor}
use Rattle.bl_eval_tests.proofs.Handmade.{for-loans}
use Rattle.bl_eval_tests.proofs.evaluations.evaluated.Goals as goal

pub new-lent-requires-clause-grants : goal.new-lent-requires-clause-grants
new-lent-requires-clause-grants g c =
    let f = for-loans 7 c.accesses_for-accesses.result.now c.args.documents.now (omega arith) (omega arith) in
    let e = c.accesses_for-accesses.ensures.accesses ∙ ap (λ (s : List Part). (slice_index_or s 0 no_part).accesses) (sym c.in_ok-own.ensures) in
    subst (λ (xs : List Access). AreFor (entry_of c.in_ok-grants.grants) xs c.in_ok-grants.grants) e
    (subst (λ (gs : List Loaned). AreFor (entry_of gs) c.accesses_for-accesses.result.now gs) (sym c.in_ok-grants.ensures) f.1)
