-- A core in which nothing has happened yet.
use Rattle.std.proofs.Common.{◌≡◌, ℕ, ◌<◌, [], length, get_or, ap, sym, ◌∙◌, subst, arith, true≢false}
use Rattle.std.specs.Prelude.{map}
use Rattle.std.proofs.lemmas.List.{length-map, get_or-map}
use Rattle.bl_policy.specs.Policy.{SecurityPolicy}
use Rattle.bl_order.specs.Machine.{State, start}
use Rattle.bl_order.proofs.Reached.{reached-first}
use Rattle.bl_place.specs.Places.{entry_of, phase_of}
use Rattle.bl_place.specs.Shelves.{new_shelf, shelf_in}
use Rattle.bl_queue.specs.Queues.{Queue}
use Rattle.bl_core.specs.View.{state_of}
use Rattle.bl_core.specs.Beginning.{Begins}
use Rattle.bl_core.specs.Keeps.{Keeps, KeepsAt, AreShelved}
use Rattle.bl_place.specs.declared.place.Place.{Place}
use Rattle.bl_core.specs.declared.session.Session.{Session}
use Rattle.bl_place.specs.declared.shelf.Shelf.{Shelf}
use Rattle.bl_core.specs.declared.machine.Core.TheInside.{Inside}

pub record Begun (d : Inside) : Type 0 where
  pub begins : Begins d.setup d.limit (record { sessions = d.sessions; places = d.places; queues = d.queues; policy = d.policy; shelves = d.shelves })
  pub weight : d.weight ≡ 0

module _ (d : Inside) (b : Begun d) where
  pub state-begun : state_of d ≡ start d.setup d.limit
  state-begun = λ j. record {
    setup = d.setup;
    limit = d.limit;
    sessions = map (λ (s : Session). record { subject = s.subject; last = s.last }) (b.begins.sessions j);
    order = map entry_of (b.begins.places j);
    phases = map (λ (p : Place). phase_of p.stand) (b.begins.places j);
  }

  shelf-begun : (doc : ℕ) → doc < length (map new_shelf d.setup.contents) → shelf_in (map new_shelf d.setup.contents) doc ≡ new_shelf (get_or d.setup.contents doc [])
  shelf-begun doc lt = get_or-map new_shelf d.setup.contents doc [] (new_shelf []) (omega (arith, lt, length-map d.setup.contents new_shelf))

  shelved : AreShelved (start d.setup d.limit) (map new_shelf d.setup.contents)
  shelved = record {
    contents = λ doc lt. ap (λ (s : Shelf). s.content) (shelf-begun doc lt);
    away = λ doc lt is. absurd (true≢false (sym is ∙ ap (λ (s : Shelf). s.lent) (shelf-begun doc lt)));
    home = λ doc lt is n r. absurd (true≢false (sym r));
  }

  none : (m : ℕ) → m < length d.places.items → ⊥
  none m lt = omega (arith, lt, ap length b.begins.places)

  keeps_at : KeepsAt (start d.setup d.limit) d
  keeps_at = record {
    reached = reached-first d.setup d.limit;
    agree = b.begins.agree;
    two = b.begins.two;
    policy = b.begins.policy;
    subjects = ap (λ (p : SecurityPolicy). length p.subjects) b.begins.policy;
    documents = ap (λ (p : SecurityPolicy). length p.documents) b.begins.policy;
    told = λ m lt. absurd (none m lt);
    speakers = λ i s lt. absurd (omega (arith, lt, ap length b.begins.sessions));
    as_many = ap length b.begins.shelves ∙ length-map d.setup.contents new_shelf;
    shelved = subst (AreShelved (start d.setup d.limit)) (sym b.begins.shelves) shelved;
    weight = b.weight;
    queued = record {
      cowns_are = ap (λ (q : Queue). q.cowns) b.begins.queues;
      limit_is = ap (λ (q : Queue). q.limit) b.begins.queues;
      as_many = ap (λ (q : Queue). length q.entries) b.begins.queues ∙ ap length (sym b.begins.places);
      each = λ m lt. absurd (none m lt);
    };
    reserved = b.begins.reserved;
    rooms = b.begins.rooms;
  }

  pub kept-begun : Keeps d
  kept-begun = subst (λ (y : State). KeepsAt y d) (sym state-begun) keeps_at
