use Rattle.std.proofs.Common.{◌≡◌, ℕ, true, false, sym, ◌∙◌, ap, subst}
use Rattle.std.specs.Prelude.{OnOk, Result, Ok, Err}
use Rattle.bl_core.specs.Answers.{IsStarted, loan_at}
use Rattle.bl_eval.specs.Loan.{Loan}
use Rattle.bl_hall.proofs.Trails.{reached-now}
use Rattle.bl_hall.specs.Chronicle.{Chronicle, HasTrail, state_now, with_event}
use Rattle.bl_order.specs.Machine.{Starts, Ends, MayStart, change, past_at, runs}
use Rattle.bl_order.specs.Past.{is_done}
use Rattle.bl_record.proofs.Going.{and-on, nearer, nearer-still, one-more, state-on}
use Rattle.bl_record.proofs.Idle.{begun-goes, begun-lent, idle-begun, idle-ended, only-begun}
use Rattle.bl_record.proofs.ending.run_ready.Goals as goal
use Rattle.bl_record.specs.Nearing.{IsIdle}

on-ok : {A E : Type 0} (r : Result A E) (P Q R : Type 0) → OnOk r P → OnOk r Q → (P → Q → R) → OnOk r R
on-ok (Ok v) P Q R p q f = f p q
on-ok (Err e) P Q R p q f = tt

-- what runs from its start, in the hall that goes on
module _ (h d : Chronicle) (n : ℕ) (l : Loan) (trail : HasTrail h) (may : MayStart (state_now h) n) (is : d ≡ with_event h (Starts n))
    (done : is_done (past_at (state_now h) n).answer ≡ true) (lent : l ≡ loan_at (state_now h) n) where
  now : state_now d ≡ change (state_now h) (Starts n)
  now = state-on h d (Starts n) is

  entry : l.entry ≡ n
  entry = ap (λ (m : Loan). m.entry) lent

  started-runs : runs (state_now d) l.entry ≡ true
  started-runs =
      subst (λ k. runs (state_now d) k ≡ true) (sym entry)
      (subst (λ y. runs y n ≡ true) (sym now) (begun-goes (state_now h) (reached-now h trail) n may done).running)

  started-lent : l ≡ loan_at (state_now d) l.entry
  started-lent =
      subst (λ k. l ≡ loan_at (state_now d) k) (sym entry)
      (subst (λ y. l ≡ loan_at y n) (sym now) (lent ∙ sym (begun-lent (state_now h) (reached-now h trail) n may done)))

  -- and then ends
  ended-idle : HasTrail d → (e : Chronicle) → e ≡ with_event d (Ends l.entry) → IsIdle (state_now h) → IsIdle (state_now e)
  ended-idle after e ends idle =
      subst IsIdle (sym (state-on d e (Ends l.entry) ends))
      (subst (λ k. IsIdle (change (state_now d) (Ends k))) (sym entry)
      (idle-ended (state_now d) (reached-now d after) n (subst (λ k. runs (state_now d) k ≡ true) entry started-runs)
      (λ m ne. subst (λ y. runs y m ≡ false) (sym now) (only-begun (state_now h) (reached-now h trail) n may idle m ne))))

pub end_lent-requires-clause-running : goal.end_lent-requires-clause-running
end_lent-requires-clause-running c =
    let begun = subst (IsStarted (state_now c.args.hall.now) c.args.n) c.in-Ok-Run.field-0-is c.in-Ok-Run.ensures.ok.0 in
    started-runs c.args.hall.now c.start.new.self c.args.n c.in-Ok-Run.lent c.requires.trail c.requires.may c.in-Ok-Run.ensures.ok.1 begun.0 begun.1

pub end_lent-requires-clause-lent : goal.end_lent-requires-clause-lent
end_lent-requires-clause-lent c =
    let begun = subst (IsStarted (state_now c.args.hall.now) c.args.n) c.in-Ok-Run.field-0-is c.in-Ok-Run.ensures.ok.0 in
    started-lent c.args.hall.now c.start.new.self c.args.n c.in-Ok-Run.lent c.requires.trail c.requires.may c.in-Ok-Run.ensures.ok.1 begun.0 begun.1

pub returns-in-Ok-Run-clause-idle : goal.returns-in-Ok-Run-clause-idle
returns-in-Ok-Run-clause-idle c =
    let begun = subst (IsStarted (state_now c.args.hall.now) c.args.n) c.in-Ok-Run.field-0-is c.in-Ok-Run.ensures.ok.0 in
    on-ok c.end_lent.result _ _ _ c.end_lent.ensures.change c.end_lent.ensures.trail
    (λ ends after. ended-idle c.args.hall.now c.start.new.self c.args.n c.in-Ok-Run.lent c.requires.trail c.requires.may c.in-Ok-Run.ensures.ok.1 begun.0 begun.1
    c.start.ensures.continues.trail c.end_lent.new.hall ends c.requires.idle)

pub returns-in-Ok-Run-clause-on : goal.returns-in-Ok-Run-clause-on
returns-in-Ok-Run-clause-on c =
    on-ok c.end_lent.result _ _ _ c.end_lent.ensures.change c.end_lent.ensures.trail
    (λ ends after. and-on c.args.hall.now c.start.new.self c.end_lent.new.hall
    (one-more c.args.hall.now c.start.new.self (Starts c.args.n) c.in-Ok-Run.ensures.ok.1 c.start.ensures.continues.trail tt)
    (one-more c.start.new.self c.end_lent.new.hall (Ends c.in-Ok-Run.lent.entry) ends after tt))

pub returns-in-Ok-Run-clause-nearer : goal.returns-in-Ok-Run-clause-nearer
returns-in-Ok-Run-clause-nearer c =
    let begun = subst (IsStarted (state_now c.args.hall.now) c.args.n) c.in-Ok-Run.field-0-is c.in-Ok-Run.ensures.ok.0 in
    on-ok c.end_lent.result _ _ _ c.end_lent.ensures.change c.end_lent.ensures.trail
    (λ ends after. nearer-still c.args.hall.now c.start.new.self c.end_lent.new.hall
    (nearer c.the_order_has_room.ensures.order c.args.hall.now c.start.new.self (Starts c.args.n) c.requires.trail c.start.ensures.continues.trail c.in-Ok-Run.ensures.ok.1 c.requires.may)
    (nearer c.the_order_has_room.ensures.order c.start.new.self c.end_lent.new.hall (Ends c.in-Ok-Run.lent.entry) c.start.ensures.continues.trail after ends
    (started-runs c.args.hall.now c.start.new.self c.args.n c.in-Ok-Run.lent c.requires.trail c.requires.may c.in-Ok-Run.ensures.ok.1 begun.0 begun.1)))

pub returns-in-Ok-Denied-clause-on : goal.returns-in-Ok-Denied-clause-on
returns-in-Ok-Denied-clause-on c =
    one-more c.args.hall.now c.start.new.self (Starts c.args.n) c.in-Ok-Denied.ensures.ok.1 c.start.ensures.continues.trail tt

pub returns-in-Ok-RuleDone-clause-on : goal.returns-in-Ok-RuleDone-clause-on
returns-in-Ok-RuleDone-clause-on c =
    one-more c.args.hall.now c.start.new.self (Starts c.args.n) c.in-Ok-RuleDone.ensures.ok.1 c.start.ensures.continues.trail tt

pub returns-in-Ok-Denied-clause-idle : goal.returns-in-Ok-Denied-clause-idle
returns-in-Ok-Denied-clause-idle c =
    let h = c.args.hall.now in
    let begun = subst (IsStarted (state_now h) c.args.n) c.in-Ok-Denied.field-0-is c.in-Ok-Denied.ensures.ok.0 in
    subst IsIdle (sym (state-on h c.start.new.self (Starts c.args.n) c.in-Ok-Denied.ensures.ok.1))
    (idle-begun (state_now h) (reached-now h c.requires.trail) c.args.n c.requires.may (ap is_done begun) c.requires.idle)

pub returns-in-Ok-RuleDone-clause-idle : goal.returns-in-Ok-RuleDone-clause-idle
returns-in-Ok-RuleDone-clause-idle c =
    let h = c.args.hall.now in
    let begun = subst (IsStarted (state_now h) c.args.n) c.in-Ok-RuleDone.field-0-is c.in-Ok-RuleDone.ensures.ok.0 in
    subst IsIdle (sym (state-on h c.start.new.self (Starts c.args.n) c.in-Ok-RuleDone.ensures.ok.1))
    (idle-begun (state_now h) (reached-now h c.requires.trail) c.args.n c.requires.may (ap is_done begun) c.requires.idle)

pub returns-in-Ok-Denied-clause-nearer : goal.returns-in-Ok-Denied-clause-nearer
returns-in-Ok-Denied-clause-nearer c =
    nearer c.the_order_has_room.ensures.order c.args.hall.now c.start.new.self (Starts c.args.n) c.requires.trail c.start.ensures.continues.trail c.in-Ok-Denied.ensures.ok.1 c.requires.may

pub returns-in-Ok-RuleDone-clause-nearer : goal.returns-in-Ok-RuleDone-clause-nearer
returns-in-Ok-RuleDone-clause-nearer c =
    nearer c.the_order_has_room.ensures.order c.args.hall.now c.start.new.self (Starts c.args.n) c.requires.trail c.start.ensures.continues.trail c.in-Ok-RuleDone.ensures.ok.1 c.requires.may
