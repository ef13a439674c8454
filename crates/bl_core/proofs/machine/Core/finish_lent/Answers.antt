use Rattle.std.proofs.Common.{◌≡◌, ◌<◌, ◌≤◌, ◌+◌, ◌++◌, ℕ, List, length, get_or, set, length-append, length-set, sym, subst, ap, ◌∙◌, refl, arith, inr}
use Rattle.std.specs.Prelude.{All, map}
use Rattle.std.specs.Vec.{with_items}
use Rattle.std.proofs.lemmas.List.{get_or_read}
use Rattle.bl_level.specs.Level.{SecurityLevel, join_of}
use Rattle.bl_policy.specs.Policy.{current_of}
use Rattle.bl_work.specs.declared.answer.Answer.TheVariants as answers
use Rattle.bl_work.specs.Effects.{children, outputs}
use Rattle.bl_order.specs.Machine.{State, change, Ends}
use Rattle.bl_grant.specs.Loaned.{Back, back_of}
use Rattle.bl_eval.specs.Loan.{Loan, backs, part_of, effects_on}
use Rattle.bl_core.specs.Answers.{loan_at}
use Rattle.bl_place.specs.Places.{child_places, no_place}
use Rattle.bl_place.specs.Shelves.{put_back}
use Rattle.bl_queue.specs.Queues.{Queue}
use Rattle.bl_place.specs.Queueing.{MayEnter, QueuesTell}
use Rattle.bl_core.specs.View.{state_of}
use Rattle.bl_place.specs.declared.place.Place.{Place}
use Rattle.bl_place.specs.declared.place.Stand.{Stand}
use Rattle.bl_place.specs.declared.place.Stand.TheVariants as stands
use Rattle.bl_place.specs.declared.shelf.Shelf.{Shelf}
use Rattle.bl_core.specs.declared.machine.Core.TheInside.{Inside}
use Rattle.bl_core.proofs.Written.{Written, stands_at}
use Rattle.bl_core.proofs.Backs.{length-put_back}
use Rattle.bl_core.proofs.Lending.{written_items}
use Rattle.bl_core.proofs.Lent.{runs-here, backs-here, outputs-here, children-here}
use Rattle.bl_core.proofs.Queueing.{queue-runs, tell-as, tell-own}
use Rattle.bl_core.proofs.Ending.{length-child_places, siblings_of}
use Rattle.bl_core.proofs.Finishing.{end_there, end_speaks, end_shelves, end_room, end_tell, end_enters, end-state, end-kept}
use Rattle.bl_core.proofs.machine.Core.finish_lent.Goals as goal
use Rattle.bl_core.proofs.machine.Core.finish_lent.Goals.{After-as_slice, After-as_slice-2}

-- the places after the children entered
entered : (c : Inside) (n : ℕ) (new : List Place) (s : Place) (v : Stand) (carried : SecurityLevel) (ks : List ℕ) → n < length c.places.items → s ≡ get_or c.places.items n s
    → carried ≡ join_of (current_of c.policy s.subject) s.carried
    → new ≡ set c.places.items n (stands_at s v) ++ child_places (record { parent = n; root = s.root; subject = s.subject; carried = carried }) 1 ks
    → new ≡ set c.places.items n (stands_at s v) ++ child_places (siblings_of c n) 1 ks
entered c n new s v carried ks lt at joined is =
    is
    ∙ ap (λ (l : SecurityLevel). set c.places.items n (stands_at s v) ++ child_places (record { parent = n; root = s.root; subject = s.subject; carried = l }) 1 ks) joined
    ∙ ap (λ (p : Place). set c.places.items n (stands_at s v)
    ++ child_places (record { parent = n; root = p.root; subject = p.subject; carried = join_of (current_of c.policy p.subject) p.carried }) 1 ks)
    (get_or_read c.places.items n s lt at no_place)

pub take_back-requires : goal.take_back-requires
take_back-requires c =
    subst (λ (bs : List Back). All (λ (b : Back). b.access.doc < length c.as_mut_slice.result.now) bs)
    (sym (c.into_parts-entry.ensures.returned ∙ backs-here c.self.inside c.args.self.now c.self.view_is c.args.done c.into_parts-entry.result.entry (ap (λ (l : Loan). l.entry) c.into_parts-entry.ensures.loan) c.requires.lent))
    (subst (λ (h : List Shelf). All (λ (b : Back). b.access.doc < length h)
    (backs c.into_parts-entry.result.entry (part_of (loan_at (state_of c.self.inside) c.into_parts-entry.result.entry)).accesses (loan_at (state_of c.self.inside) c.into_parts-entry.result.entry).inputs (effects_on (loan_at (state_of c.self.inside) c.into_parts-entry.result.entry))))
    (sym c.as_mut_slice.ensures.value)
    (end_shelves c.self.inside c.self.invariant c.into_parts-entry.result.entry (runs-here c.self.inside c.args.self.now c.self.view_is c.args.done c.into_parts-entry.result.entry (ap (λ (l : Loan). l.entry) c.into_parts-entry.ensures.loan) c.requires.running) (effects_on (loan_at (state_of c.self.inside) c.into_parts-entry.result.entry))))

named : (c : After-as_slice) → c.as_slice.result.now ≡ children (effects_on (loan_at (state_of c.self.inside) c.into_parts-entry.result.entry))
named c = c.as_slice.ensures.value ∙ c.into_parts-entry.ensures.spawned ∙ children-here c.self.inside c.args.self.now c.self.view_is c.args.done c.into_parts-entry.result.entry (ap (λ (l : Loan). l.entry) c.into_parts-entry.ensures.loan) c.requires.lent

shown : (c : After-as_slice) → c.into_parts-entry.result.outputs ≡ outputs (effects_on (loan_at (state_of c.self.inside) c.into_parts-entry.result.entry))
shown c = c.into_parts-entry.ensures.outputs ∙ outputs-here c.self.inside c.args.self.now c.self.view_is c.args.done c.into_parts-entry.result.entry (ap (λ (l : Loan). l.entry) c.into_parts-entry.ensures.loan) c.requires.lent

-- there is room for the children
fits : (c : After-as_slice) → length c.self.inside.places.items + length c.as_slice.result.now ≤ c.self.inside.limit
fits c =
    end_room c.self.inside c.self.invariant c.into_parts-entry.result.entry (runs-here c.self.inside c.args.self.now c.self.view_is c.args.done c.into_parts-entry.result.entry (ap (λ (l : Loan). l.entry) c.into_parts-entry.ensures.loan) c.requires.running) (length c.as_slice.result.now)
    (c.the_order_has_room.ensures.children (state_of c.self.inside) c.into_parts-entry.result.entry c.self.invariant.reached (runs-here c.self.inside c.args.self.now c.self.view_is c.args.done c.into_parts-entry.result.entry (ap (λ (l : Loan). l.entry) c.into_parts-entry.ensures.loan) c.requires.running))
    (ap length (named c))

pub enter_children-requires-clause-room : goal.enter_children-requires-clause-room
enter_children-requires-clause-room c = omega (arith, fits c, c.self.invariant.reserved, c.self.inside.places.ok.0)

pub enter_children-requires-clause-few : goal.enter_children-requires-clause-few
enter_children-requires-clause-few c = omega (arith, fits c)

pub current-level-requires : goal.current-level-requires
current-level-requires c =
    end_speaks c.self.inside c.self.invariant c.into_parts-entry.result.entry
    (runs-here c.self.inside c.args.self.now c.self.view_is c.args.done c.into_parts-entry.result.entry (ap (λ (l : Loan). l.entry) c.into_parts-entry.ensures.loan) c.requires.running)
    c.index_mut-place.result.now c.index_mut-place.ensures.value

pub end-requires : goal.end-requires
end-requires c = inr (queue-runs c.self.inside c.self.invariant c.into_parts-entry.result.entry (end_there c.self.inside c.self.invariant c.into_parts-entry.result.entry (runs-here c.self.inside c.args.self.now c.self.view_is c.args.done c.into_parts-entry.result.entry (ap (λ (l : Loan). l.entry) c.into_parts-entry.ensures.loan) c.requires.running)) (runs-here c.self.inside c.args.self.now c.self.view_is c.args.done c.into_parts-entry.result.entry (ap (λ (l : Loan). l.entry) c.into_parts-entry.ensures.loan) c.requires.running))

-- the places as the children enter the queues
listed : (c : After-as_slice-2) → c.as_slice-2.result.now ≡ (set c.self.inside.places.items c.into_parts-entry.result.entry (stands_at c.index_mut-place.result.now (stands.Ended (answers.Done c.into_parts-entry.result.outputs))) ++ child_places (siblings_of c.self.inside c.into_parts-entry.result.entry) 1 c.as_slice.result.now)
listed c = c.as_slice-2.ensures.value ∙ (entered c.self.inside c.into_parts-entry.result.entry c.enter_children.new.places.items c.index_mut-place.result.now (stands.Ended (answers.Done c.into_parts-entry.result.outputs)) c.join.result c.as_slice.result.now (end_there c.self.inside c.self.invariant c.into_parts-entry.result.entry (runs-here c.self.inside c.args.self.now c.self.view_is c.args.done c.into_parts-entry.result.entry (ap (λ (l : Loan). l.entry) c.into_parts-entry.ensures.loan) c.requires.running)) c.index_mut-place.ensures.value
    (c.join.ensures.value ∙ ap (λ (l : SecurityLevel). join_of l c.index_mut-place.result.now.carried) c.current-level.ensures.value) c.enter_children.ensures.items)

count : (c : After-as_slice-2) → c.len-first.result ≡ length c.self.inside.places.items
count c = c.len-first.ensures ∙ c.self.inside.places.ok.0

longer : (c : After-as_slice-2) → length c.as_slice-2.result.now ≡ length c.self.inside.places.items + length c.as_slice.result.now
longer c =
    ap length (listed c)
    ∙ length-append (set c.self.inside.places.items c.into_parts-entry.result.entry (stands_at c.index_mut-place.result.now (stands.Ended (answers.Done c.into_parts-entry.result.outputs)))) (child_places (siblings_of c.self.inside c.into_parts-entry.result.entry) 1 c.as_slice.result.now)
    ∙ ap (λ (m : ℕ). m + length (child_places (siblings_of c.self.inside c.into_parts-entry.result.entry) 1 c.as_slice.result.now)) (length-set c.self.inside.places.items c.into_parts-entry.result.entry (stands_at c.index_mut-place.result.now (stands.Ended (answers.Done c.into_parts-entry.result.outputs))))
    ∙ ap (λ (m : ℕ). length c.self.inside.places.items + m) (length-child_places (siblings_of c.self.inside c.into_parts-entry.result.entry) 1 c.as_slice.result.now)

within : (c : After-as_slice-2) → length c.self.inside.places.items + length c.as_slice.result.now ≤ c.self.inside.limit
within c =
    end_room c.self.inside c.self.invariant c.into_parts-entry.result.entry (runs-here c.self.inside c.args.self.now c.self.view_is c.args.done c.into_parts-entry.result.entry (ap (λ (l : Loan). l.entry) c.into_parts-entry.ensures.loan) c.requires.running) (length c.as_slice.result.now)
    (c.the_order_has_room.ensures.children (state_of c.self.inside) c.into_parts-entry.result.entry c.self.invariant.reached (runs-here c.self.inside c.args.self.now c.self.view_is c.args.done c.into_parts-entry.result.entry (ap (λ (l : Loan). l.entry) c.into_parts-entry.ensures.loan) c.requires.running))
    (ap length (c.as_slice.ensures.value ∙ c.into_parts-entry.ensures.spawned ∙ children-here c.self.inside c.args.self.now c.self.view_is c.args.done c.into_parts-entry.result.entry (ap (λ (l : Loan). l.entry) c.into_parts-entry.ensures.loan) c.requires.lent))

pub enter_queues-requires-clause-before : goal.enter_queues-requires-clause-before
enter_queues-requires-clause-before c =
    tell-own (length c.self.inside.setup.policy.documents + 1) c.self.inside.limit c.as_slice-2.result.now c.len-first.result c.end.new.self
    (subst (λ (m : ℕ). QueuesTell (length c.self.inside.setup.policy.documents + 1) c.self.inside.limit c.as_slice-2.result.now m c.end.new.self) (sym (count c))
    (subst (λ (l : List Place). QueuesTell (length c.self.inside.setup.policy.documents + 1) c.self.inside.limit l (length c.self.inside.places.items) c.end.new.self) (sym (listed c))
    (subst (QueuesTell (length c.self.inside.setup.policy.documents + 1) c.self.inside.limit (set c.self.inside.places.items c.into_parts-entry.result.entry (stands_at c.index_mut-place.result.now (stands.Ended (answers.Done c.into_parts-entry.result.outputs))) ++ child_places (siblings_of c.self.inside c.into_parts-entry.result.entry) 1 c.as_slice.result.now) (length c.self.inside.places.items)) (sym c.end.ensures)
    (end_tell c.self.inside c.self.invariant c.into_parts-entry.result.entry (runs-here c.self.inside c.args.self.now c.self.view_is c.args.done c.into_parts-entry.result.entry (ap (λ (l : Loan). l.entry) c.into_parts-entry.ensures.loan) c.requires.running) c.index_mut-place.result.now (answers.Done c.into_parts-entry.result.outputs)
    (child_places (siblings_of c.self.inside c.into_parts-entry.result.entry) 1 c.as_slice.result.now) c.index_mut-place.ensures.value))))

pub enter_queues-requires-clause-from : goal.enter_queues-requires-clause-from
enter_queues-requires-clause-from c = omega (arith, count c, longer c)

pub enter_queues-requires-clause-room : goal.enter_queues-requires-clause-room
enter_queues-requires-clause-room c = omega (arith, longer c, within c, ap (λ (q : Queue). q.limit) c.end.ensures, c.self.invariant.queued.limit_is)

pub enter_queues-requires-clause-few : goal.enter_queues-requires-clause-few
enter_queues-requires-clause-few c = omega (arith, longer c, within c)

pub enter_queues-requires-clause-may : goal.enter_queues-requires-clause-may
enter_queues-requires-clause-may c m ge lt =
    subst (λ (k : ℕ). MayEnter k c.as_slice-2.result.now m) (sym (ap (λ (q : Queue). q.cowns) c.end.ensures ∙ c.self.invariant.queued.cowns_are))
    (subst (λ (l : List Place). MayEnter (length c.self.inside.setup.policy.documents + 1) l m) (sym (listed c))
    (end_enters c.self.inside c.self.invariant c.into_parts-entry.result.entry (runs-here c.self.inside c.args.self.now c.self.view_is c.args.done c.into_parts-entry.result.entry (ap (λ (l : Loan). l.entry) c.into_parts-entry.ensures.loan) c.requires.running) c.index_mut-place.result.now c.into_parts-entry.result.outputs c.as_slice.result.now c.index_mut-place.ensures.value
    (c.as_slice.ensures.value ∙ c.into_parts-entry.ensures.spawned ∙ children-here c.self.inside c.args.self.now c.self.view_is c.args.done c.into_parts-entry.result.entry (ap (λ (l : Loan). l.entry) c.into_parts-entry.ensures.loan) c.requires.lent) c.tasks_are_of_scripts.ensures m (omega (arith, ge, count c)) (subst (λ (l : List Place). m < length l) (listed c) lt)))

-- the fields at the end
abbrev after : goal.After-drop-spawned → Inside
after c = record {
  alloc = c.self.inside.alloc;
  setup = c.self.inside.setup;
  limit = c.self.inside.limit;
  weight = c.self.inside.weight;
  sessions = c.self.inside.sessions;
  places = c.enter_children.new.places;
  queues = c.enter_queues.new.queues;
  policy = c.self.inside.policy;
  shelves = with_items c.self.inside.shelves c.take_back.new.shelves;
}

shelved : (c : goal.After-drop-spawned) → (with_items c.self.inside.shelves c.take_back.new.shelves).items
    ≡ put_back c.self.inside.shelves.items (backs c.into_parts-entry.result.entry (part_of (loan_at (state_of c.self.inside) c.into_parts-entry.result.entry)).accesses (loan_at (state_of c.self.inside) c.into_parts-entry.result.entry).inputs (effects_on (loan_at (state_of c.self.inside) c.into_parts-entry.result.entry)))
shelved c =
    let e : c.take_back.new.shelves ≡ put_back c.self.inside.shelves.items (backs c.into_parts-entry.result.entry (part_of (loan_at (state_of c.self.inside) c.into_parts-entry.result.entry)).accesses (loan_at (state_of c.self.inside) c.into_parts-entry.result.entry).inputs (effects_on (loan_at (state_of c.self.inside) c.into_parts-entry.result.entry))) =
    c.take_back.ensures ∙ ap (λ (h : List Shelf). put_back h (map back_of c.into_parts-entry.result.grants)) c.as_mut_slice.ensures.value
    ∙ ap (put_back c.self.inside.shelves.items) (c.into_parts-entry.ensures.returned ∙ backs-here c.self.inside c.args.self.now c.self.view_is c.args.done c.into_parts-entry.result.entry (ap (λ (l : Loan). l.entry) c.into_parts-entry.ensures.loan) c.requires.lent) in
    written_items c.self.inside c.take_back.new.shelves
    (omega (arith, ap length e, length-put_back c.self.inside.shelves.items (backs c.into_parts-entry.result.entry (part_of (loan_at (state_of c.self.inside) c.into_parts-entry.result.entry)).accesses (loan_at (state_of c.self.inside) c.into_parts-entry.result.entry).inputs (effects_on (loan_at (state_of c.self.inside) c.into_parts-entry.result.entry))), c.self.inside.shelves.ok.0)) ∙ e

written : (c : goal.After-drop-spawned) → Written c.self.inside (after c) c.into_parts-entry.result.entry (stands_at c.index_mut-place.result.now (stands.Ended (answers.Done c.into_parts-entry.result.outputs))) (child_places (siblings_of c.self.inside c.into_parts-entry.result.entry) 1 c.as_slice.result.now)
written c = record {
  setup = refl;
  limit = refl;
  weight = refl;
  sessions = refl;
  rooms = refl;
  places = (entered c.self.inside c.into_parts-entry.result.entry c.enter_children.new.places.items c.index_mut-place.result.now (stands.Ended (answers.Done c.into_parts-entry.result.outputs)) c.join.result c.as_slice.result.now (end_there c.self.inside c.self.invariant c.into_parts-entry.result.entry (runs-here c.self.inside c.args.self.now c.self.view_is c.args.done c.into_parts-entry.result.entry (ap (λ (l : Loan). l.entry) c.into_parts-entry.ensures.loan) c.requires.running)) c.index_mut-place.ensures.value
      (c.join.ensures.value ∙ ap (λ (l : SecurityLevel). join_of l c.index_mut-place.result.now.carried) c.current-level.ensures.value) c.enter_children.ensures.items);
  capacity = c.enter_children.ensures.room;
  queued = tell-as (length c.self.inside.setup.policy.documents + 1) c.self.inside.limit c.enter_children.new.places.items (length c.enter_children.new.places.items) c.end.new.self c.enter_queues.new.queues
      (ap (λ (q : Queue). q.cowns) c.end.ensures ∙ c.self.invariant.queued.cowns_are) (ap (λ (q : Queue). q.limit) c.end.ensures ∙ c.self.invariant.queued.limit_is)
      (subst (λ (l : List Place). QueuesTell c.end.new.self.cowns c.end.new.self.limit l (length l) c.enter_queues.new.queues) c.as_slice-2.ensures.value c.enter_queues.ensures);
}

pub invariant_of-self : goal.invariant_of-self
invariant_of-self c =
    end-kept c.self.inside c.self.invariant c.into_parts-entry.result.entry (runs-here c.self.inside c.args.self.now c.self.view_is c.args.done c.into_parts-entry.result.entry (ap (λ (l : Loan). l.entry) c.into_parts-entry.ensures.loan) c.requires.running)
    (after c) c.index_mut-place.result.now c.index_mut-place.ensures.value c.into_parts-entry.result.outputs
    (c.into_parts-entry.ensures.outputs ∙ outputs-here c.self.inside c.args.self.now c.self.view_is c.args.done c.into_parts-entry.result.entry (ap (λ (l : Loan). l.entry) c.into_parts-entry.ensures.loan) c.requires.lent)
    c.as_slice.result.now (c.as_slice.ensures.value ∙ c.into_parts-entry.ensures.spawned ∙ children-here c.self.inside c.args.self.now c.self.view_is c.args.done c.into_parts-entry.result.entry (ap (λ (l : Loan). l.entry) c.into_parts-entry.ensures.loan) c.requires.lent)
    (written c) refl (shelved c) c.tasks_are_of_scripts.ensures

pub returns : goal.returns
returns c =
    end-state c.self.inside c.self.invariant c.into_parts-entry.result.entry (runs-here c.self.inside c.args.self.now c.self.view_is c.args.done c.into_parts-entry.result.entry (ap (λ (l : Loan). l.entry) c.into_parts-entry.ensures.loan) c.requires.running)
    (after c) c.index_mut-place.result.now c.index_mut-place.ensures.value c.into_parts-entry.result.outputs
    (c.into_parts-entry.ensures.outputs ∙ outputs-here c.self.inside c.args.self.now c.self.view_is c.args.done c.into_parts-entry.result.entry (ap (λ (l : Loan). l.entry) c.into_parts-entry.ensures.loan) c.requires.lent)
    c.as_slice.result.now (c.as_slice.ensures.value ∙ c.into_parts-entry.ensures.spawned ∙ children-here c.self.inside c.args.self.now c.self.view_is c.args.done c.into_parts-entry.result.entry (ap (λ (l : Loan). l.entry) c.into_parts-entry.ensures.loan) c.requires.lent)
    (written c) refl (shelved c)
    ∙ ap (λ (m : ℕ). change (state_of c.self.inside) (Ends m)) (sym (ap (λ (l : Loan). l.entry) c.into_parts-entry.ensures.loan))
    ∙ ap (λ (x : State). change x (Ends c.args.done.entry)) c.self.view_is
