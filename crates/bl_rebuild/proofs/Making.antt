-- An event is made.
use Rattle.std.proofs.Common.{◌≡◌, ℕ, true, cond, List, sym, ◌∙◌, ap, subst}
use Rattle.std.specs.Prelude.{◌==◌, Option, Some, None}
use Rattle.bl_eval.specs.Loan.{Loan}
use Rattle.bl_order.specs.Headline.{IsReached}
use Rattle.bl_order.specs.Machine.{Event, Ends, Loses, Needs, change, runs}
use Rattle.bl_core.specs.Answers.{loan_at}
use Rattle.bl_hall.specs.Chronicle.{HasTrail, state_now, with_event}
use Rattle.bl_hall.proofs.Trails.{reached-now, state-next, trail-next}
use Rattle.bl_rebuild.specs.Remaking.{IsMade, IsWhole}
use Rattle.bl_rebuild.specs.Unfinished.{AreLent, slot_at}
use Rattle.bl_rebuild.specs.declared.remade.Remade.{Remade}
use Rattle.bl_rebuild.proofs.Lending.{lent-ended, lent-lost, lent-runs}

-- the slot of a place has been emptied
abbrev pub AreWithout : ℕ → List (Option Loan) → List (Option Loan) → Type 0
AreWithout n slots later = (m : ℕ) → slot_at later m ≡ cond (m == n) None (slot_at slots m)

module _ (r : Remade) (whole : IsWhole r) where
  pub reached : IsReached (state_now r.hall)
  reached = reached-now r.hall whole.trail

  pub made : (d : Remade) (e : Event) → Needs (state_now r.hall) e → d.hall ≡ with_event r.hall e → AreLent (change (state_now r.hall) e) d.slots.slots.items → IsMade r e d
  made d e needs is lent = record {
    hall = is;
    whole = record {
      trail = subst HasTrail (sym is) (trail-next r.hall e whole.trail needs);
      lent = subst (λ x. AreLent x d.slots.slots.items) (sym (ap state_now is ∙ state-next r.hall e)) lent;
    };
  }

  -- what is taken out of a slot is the loan of a running place
  pub taken : (n : ℕ) (lent : Loan) → Some lent ≡ slot_at r.slots.slots.items n → (runs (state_now r.hall) n ≡ true) × (lent ≡ loan_at (state_now r.hall) n)
  taken n lent is = lent-runs (state_now r.hall) n lent (sym (whole.lent n) ∙ sym is)

  pub made-ended : (d : Remade) (n : ℕ) (loan : Loan) → Some loan ≡ slot_at r.slots.slots.items n → d.hall ≡ with_event r.hall (Ends loan.entry)
      → AreWithout n r.slots.slots.items d.slots.slots.items → IsMade r (Ends n) d
  made-ended d n loan is hall rest =
      let t : (runs (state_now r.hall) n ≡ true) × (loan ≡ loan_at (state_now r.hall) n) = taken n loan is in
      made d (Ends n) t.0 (hall ∙ ap (λ (l : Loan). with_event r.hall (Ends l.entry)) t.1)
      (lent-ended (state_now r.hall) reached n r.slots.slots.items d.slots.slots.items t.0 whole.lent rest)

  pub made-lost : (d : Remade) (n : ℕ) → Needs (state_now r.hall) (Loses n) → d.hall ≡ with_event r.hall (Loses n)
      → AreWithout n r.slots.slots.items d.slots.slots.items → IsMade r (Loses n) d
  made-lost d n needs hall rest =
      made d (Loses n) needs hall (lent-lost (state_now r.hall) reached n r.slots.slots.items d.slots.slots.items needs whole.lent rest)
