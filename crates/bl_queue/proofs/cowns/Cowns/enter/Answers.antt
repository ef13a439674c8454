use Rattle.std.proofs.Common.{◌≡◌, ℕ, ◌+◌, ◌<◌, ◌≤◌, Bool, true, false, if◌then◌else◌, length, slice_index_or, ap, sym, subst, ◌∙◌, arith, add-zero}
use Rattle.std.proofs.lemmas.List.{get_or_default}
use Rattle.bl_queue.specs.declared.claim.Claim.{Claim}
use Rattle.bl_queue.specs.Holders.{Holders, cown_at, is_held_at_once, joined, AreHeld, AreSettled, HasEntered}
use Rattle.bl_queue.specs.Queued.{no_claim}
use Rattle.bl_queue.proofs.Release.{no_more_free}
use Rattle.bl_queue.proofs.Enter.{IsEntering, entering_start, entering_step, entered_held, has_entered, can_join}
use Rattle.bl_queue.proofs.cowns.Cowns.enter.Goals as goal
use Rattle.bl_queue.proofs.cowns.Cowns.enter.Goals.{then-not-is_held, else-not-is_held}

-- at most one claim more waits
few : (after before i : ℕ) (is_held : Bool) → before ≤ i → after ≡ before + (if is_held then 0 else 1) → after ≤ i + 1
few after before i true le is = omega (arith, le, is)
few after before i false le is = omega (arith, le, is)

pub loop-claim-init : goal.loop-claim-init
loop-claim-init c = (entering_start c.args.self.now c.args.claims.now c.requires.kept c.requires.settled, omega arith)

pub join-is_held-requires-clause-held : goal.join-is_held-requires-clause-held
join-is_held-requires-clause-held c =
    let lt : c.loop-claim.claim-index < length c.args.claims.now = omega arith in
    let item : Claim = slice_index_or c.args.claims.now c.loop-claim.claim-index no_claim in
    let can = can_join c.args.self.now c.loop-claim.self c.args.claims.now c.loop-claim.claim-index c.loop-claim.waits item c.loop-claim.invariant.0 c.requires.claims lt
    (get_or_default c.args.claims.now c.loop-claim.claim-index no_claim item lt) c.requires.room c.requires.places c.requires.limit in
    can.held

pub join-is_held-requires-clause-last : goal.join-is_held-requires-clause-last
join-is_held-requires-clause-last c =
    let lt : c.loop-claim.claim-index < length c.args.claims.now = omega arith in
    let item : Claim = slice_index_or c.args.claims.now c.loop-claim.claim-index no_claim in
    let can = can_join c.args.self.now c.loop-claim.self c.args.claims.now c.loop-claim.claim-index c.loop-claim.waits item c.loop-claim.invariant.0 c.requires.claims lt
    (get_or_default c.args.claims.now c.loop-claim.claim-index no_claim item lt) c.requires.room c.requires.places c.requires.limit in
    can.last

pub join-is_held-requires-clause-small : goal.join-is_held-requires-clause-small
join-is_held-requires-clause-small c =
    let lt : c.loop-claim.claim-index < length c.args.claims.now = omega arith in
    let item : Claim = slice_index_or c.args.claims.now c.loop-claim.claim-index no_claim in
    let can = can_join c.args.self.now c.loop-claim.self c.args.claims.now c.loop-claim.claim-index c.loop-claim.waits item c.loop-claim.invariant.0 c.requires.claims lt
    (get_or_default c.args.claims.now c.loop-claim.claim-index no_claim item lt) c.requires.room c.requires.places c.requires.limit in
    omega (arith, can.small)

pub overflow_add-waits : goal.overflow_add-waits
overflow_add-waits c = omega (arith, c.loop-claim.invariant.1, c.requires.claims.few)

pub loop-claim-preserved : goal.loop-claim-preserved
loop-claim-preserved c =
    let lt : c.loop-claim.claim-index < length c.args.claims.now = omega arith in
    let item : Claim = slice_index_or c.args.claims.now c.loop-claim.claim-index no_claim in
    let is = get_or_default c.args.claims.now c.loop-claim.claim-index no_claim item lt in
    let can = can_join c.args.self.now c.loop-claim.self c.args.claims.now c.loop-claim.claim-index c.loop-claim.waits item c.loop-claim.invariant.0 c.requires.claims lt
    is c.requires.room c.requires.places c.requires.limit in
    let count : c.if-not-is_held.waits ≡ c.loop-claim.waits + (if is_held_at_once (cown_at c.loop-claim.self.cowns item.cown) item.shared then 0 else 1) =
    elim c.if-not-is_held.branch [
      | then-not-is_held w ↦
          w.waits-is ∙ ap (λ (b : Bool). c.loop-claim.waits + (if b then 0 else 1)) (sym (sym c.join-is_held.ensures.value ∙ w.if-not-is_held.true))
      | else-not-is_held w ↦
          w.waits-is ∙ sym (add-zero c.loop-claim.waits)
          ∙ ap (λ (b : Bool). c.loop-claim.waits + (if b then 0 else 1)) (sym (sym c.join-is_held.ensures.value ∙ w.if-not-is_held.false))
    ] in (
      subst (λ (s : Holders). IsEntering c.args.self.now c.args.claims.now (c.loop-claim.claim-index + 1) c.if-not-is_held.waits s) (sym c.join-is_held.ensures.after)
          (subst (λ (n : ℕ). IsEntering c.args.self.now c.args.claims.now (c.loop-claim.claim-index + 1) c.if-not-is_held.waits
          (joined c.loop-claim.self (record { cown = item.cown; shared = item.shared; entry = n }))) (sym c.entry_count-entry.ensures)
          (entering_step c.args.self.now c.loop-claim.self c.args.claims.now c.loop-claim.claim-index c.loop-claim.waits c.if-not-is_held.waits item c.loop-claim.invariant.0 lt is
          can.cown can.small count)),
      few c.if-not-is_held.waits c.loop-claim.waits c.loop-claim.claim-index (is_held_at_once (cown_at c.loop-claim.self.cowns item.cown) item.shared) c.loop-claim.invariant.1 count,
    )

pub list-requires-clause-free : goal.list-requires-clause-free
list-requires-clause-free c =
    let few = no_more_free c.loop-claim.self.waits c.loop-claim.self.free c.loop-claim.invariant.0.kept.free in
    omega (arith, few, ap length c.loop-claim.invariant.0.waits, c.loop-claim.invariant.0.limit, c.requires.room)

pub returns-clause-kept : goal.returns-clause-kept
returns-clause-kept c =
    subst (λ (s : Holders). AreHeld s (length s.waits)) (sym c.list.ensures)
    (entered_held c.args.self.now c.loop-claim.self c.args.claims.now c.loop-claim.claim-index c.loop-claim.waits c.loop-claim.invariant.0)

pub returns-clause-settled : goal.returns-clause-settled
returns-clause-settled c = subst (λ (s : Holders). AreSettled s) (sym c.list.ensures) c.loop-claim.invariant.0.settled

pub returns-clause-entered : goal.returns-clause-entered
returns-clause-entered c =
    let all : c.loop-claim.claim-index ≡ length c.args.claims.now = omega arith in
    subst (λ (s : Holders). HasEntered c.args.self.now s c.args.claims.now) (sym c.list.ensures)
    (has_entered c.args.self.now c.loop-claim.self c.args.claims.now c.loop-claim.claim-index c.loop-claim.waits c.loop-claim.invariant.0 all)
