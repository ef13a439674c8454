use Rattle.std.proofs.Common.{rules, ◌≡◌, List, [], ◌∷◌, true, length, refl, sym, ◌∙◌, ap, subst, arith}
use Rattle.std.specs.Vec.Iter.{into_iter_items}
use Rattle.bl_core.specs.Answers.{loan_at}
use Rattle.bl_eval.specs.Loan.{Loan}
use Rattle.bl_hall.proofs.Trails.{reached-now}
use Rattle.bl_hall.specs.Chronicle.{state_now}
use Rattle.bl_order.specs.Machine.{Ends, change, runs}
use Rattle.bl_rebuild.specs.Unfinished.{loans_now}
use Rattle.bl_record.proofs.Going.{and-on, none-more, one-more, state-on}
use Rattle.bl_record.proofs.Loans.{first-lent, first-runs, none-lent, rest-lent}
use Rattle.bl_record.proofs.ending.end_running.Goals as goal

pub end_lent-requires-clause-running : goal.end_lent-requires-clause-running
end_lent-requires-clause-running c =
    let at = c.loop-unfinished in
    let steps : loans_now (state_now at.hall) ≡ c.in-Some.unfinished ∷ into_iter_items c.next.new.self = sym at.invariant.2 ∙ c.in-Some.ensures.steps.0 in
    subst (λ (l : Loan). runs (state_now at.hall) l.entry ≡ true) (sym c.into_lent.ensures)
    (first-runs (state_now at.hall) (reached-now at.hall at.invariant.0.trail) c.in-Some.unfinished (into_iter_items c.next.new.self) steps)

pub end_lent-requires-clause-lent : goal.end_lent-requires-clause-lent
end_lent-requires-clause-lent c =
    let at = c.loop-unfinished in
    let steps : loans_now (state_now at.hall) ≡ c.in-Some.unfinished ∷ into_iter_items c.next.new.self = sym at.invariant.2 ∙ c.in-Some.ensures.steps.0 in
    subst (λ (l : Loan). l ≡ loan_at (state_now at.hall) l.entry) (sym c.into_lent.ensures)
    (first-lent (state_now at.hall) (reached-now at.hall at.invariant.0.trail) c.in-Some.unfinished (into_iter_items c.next.new.self) steps)

pub loop-unfinished-init : goal.loop-unfinished-init
loop-unfinished-init c = (none-more c.args.hall.now c.requires.trail, search rules, search rules)

pub loop-unfinished-preserved : goal.loop-unfinished-preserved
loop-unfinished-preserved c =
    let at = c.loop-unfinished in
    let steps : loans_now (state_now at.hall) ≡ c.in-Some.unfinished ∷ into_iter_items c.next.new.self = sym at.invariant.2 ∙ c.in-Some.ensures.steps.0 in
    let gone = c.in-Some.ensures.steps.1 in
    let short = ap length c.in-Some.ensures.steps.0 in
    let was = at.invariant.1 in (
      and-on c.args.hall.now at.hall c.end_lent.new.hall at.invariant.0
          (one-more at.hall c.end_lent.new.hall (Ends c.into_lent.result.entry) c.in_ok-end_lent.ensures.change c.in_ok-end_lent.ensures.trail tt),
      omega arith,
      sym (
          ap loans_now (state-on at.hall c.end_lent.new.hall (Ends c.into_lent.result.entry) c.in_ok-end_lent.ensures.change)
          ∙ ap (λ (l : Loan). loans_now (change (state_now at.hall) (Ends l.entry))) c.into_lent.ensures
          ∙ rest-lent (state_now at.hall) (reached-now at.hall at.invariant.0.trail) c.in-Some.unfinished (into_iter_items c.next.new.self) steps
          ),
    )

no-items : (l : List Loan) → length l ≡ 0 → l ≡ []
no-items [] h = refl
no-items (x ∷ l) h = absurd (omega (arith, h))

pub returns-clause-idle : goal.returns-clause-idle
returns-clause-idle c =
    let at = c.loop-unfinished in
    let none : into_iter_items at.unfinished-iterator ≡ [] = no-items (into_iter_items at.unfinished-iterator) (sym at.invariant.1 ∙ c.in-None.ensures.steps.0) in
    none-lent (state_now at.hall) (reached-now at.hall at.invariant.0.trail) (sym at.invariant.2 ∙ none)
