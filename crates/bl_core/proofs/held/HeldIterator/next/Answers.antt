use Rattle.std.proofs.Common.{◌≡◌, ℕ, Option, MatchOption, [], ◌∷◌, sym, subst, ap, ◌∙◌, get_or}
use Rattle.bl_policy.specs.declared.access.Mode.{Mode}
use Rattle.std.proofs.lemmas.List.{get_or_default}
use Rattle.bl_place.specs.Places.{no_place}
use Rattle.bl_place.specs.declared.place.Place.{Place}
use Rattle.bl_core.proofs.HeldLaws.{left_none, left_next, none_of, fewer}
use Rattle.bl_core.proofs.HeldQueues.{there-running, place-running, passed-to, passed-all}
use Rattle.bl_core.proofs.held.HeldIterator.next.Goals as goal

-- no place is left that runs
pub returns-in_err-n-clause-steps : goal.returns-in_err-n-clause-steps
returns-in_err-n-clause-steps c =
    let h = c.self.inside in
    let empty : c.args.self.now ≡ [] =
    sym c.self.view_is
    ∙ left_none h (none_of h.accesses.now c.in_default.ensures.cases)
    (passed-all h.queues.now.cowns h.queues.now.limit h.places.now h.queues.now c.self.invariant.queued h.next c.self.invariant.within c.in_err-n.ensures) in
    subst (λ (o : Option (ℕ × ℕ × Mode)). MatchOption o ((c.args.self.now ≡ []) × (c.args.self.now ≡ [])) (λ item. c.args.self.now ≡ item ∷ c.args.self.now))
    (sym c.from_residual.ensures) (empty, empty)

pub declared-requires : goal.declared-requires
declared-requires c =
    let h = c.self.inside in
    let told = c.self.invariant.queued in
    let runs = c.in_ok-n.ensures.runs in
    let there = there-running h.queues.now.cowns h.queues.now.limit h.places.now h.queues.now told c.in_ok-n.n runs in
    record {
      there = there;
      task = (c.self.invariant.behaviours c.in_ok-n.n there (place-running h.queues.now.cowns h.queues.now.limit h.places.now h.queues.now told c.in_ok-n.n runs)).0;
    }

pub returns-clause-steps : goal.returns-clause-steps
returns-clause-steps c =
    let h = c.self.inside in
    let told = c.self.invariant.queued in
    let runs = c.in_ok-n.ensures.runs in
    let there = there-running h.queues.now.cowns h.queues.now.limit h.places.now h.queues.now told c.in_ok-n.n runs in
    (sym c.self.view_is
    ∙ left_next h c.in_ok-n.n (get_or h.places.now c.in_ok-n.n c.index-self-n.result).subject c.in_ok-declared.field-0.now c.in_ok-access.others.now c.in_ok-access.access.now
    (none_of h.accesses.now c.in_default.ensures.cases) there
    (place-running h.queues.now.cowns h.queues.now.limit h.places.now h.queues.now told c.in_ok-n.n runs)
    (passed-to h.queues.now.cowns h.queues.now.limit h.places.now h.queues.now told h.next c.in_ok-n.n c.in_ok-n.ensures)
    (ap (λ (s : Place). s.subject) (get_or_default h.places.now c.in_ok-n.n c.index-self-n.result no_place there))
    c.in_ok-declared.ensures.1 c.in_ok-access.ensures.cases.0)

pub returns-clause-goes : goal.returns-clause-goes
returns-clause-goes c = record {
  on = λ _. (tt, tt, fewer _ _ _ (returns-clause-steps c));
  keeps = tt;
  rests = λ _. tt;
}
