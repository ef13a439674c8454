-- One place stands otherwise, and others may follow.
use Rattle.std.proofs.Common.{◌≡◌, ◌≢◌, ℕ, ◌<◌, ◌≤◌, ◌+◌, ◌⊎◌, inl, inr, List, [], ◌∷◌, ◌++◌, length, get_or, set, refl, ap, sym, ◌∙◌, subst, arith, length-set, get_or-set_same, get_or-set_other}
use Rattle.std.specs.Prelude.{sum_by, map, All}
use Rattle.std.specs.Vec.{vec_capacity}
use Rattle.std.proofs.Math.ListN.{get_or-append}
use Rattle.std.proofs.Math.Seq.{map-set_same}
use Rattle.std.proofs.lemmas.List.{map-set, get_or_read}
use Rattle.bl_work.specs.declared.answer.Answer.{Answer}
use Rattle.bl_order.specs.Machine.{Phase, Event, change, past_at, with_phase, entry_weight}
use Rattle.bl_order.specs.Now.{policy_now}
use Rattle.bl_place.specs.Places.{no_place, place_in, entry_by, entry_of, phase_of}
use Rattle.bl_place.specs.Queueing.{QueuesTell}
use Rattle.bl_core.specs.View.{state_of}
use Rattle.bl_core.specs.Keeps.{Keeps, Tells, AreShelved}
use Rattle.bl_place.specs.declared.place.Descent.{Descent}
use Rattle.bl_place.specs.declared.place.Place.{Place}
use Rattle.bl_place.specs.declared.place.Stand.{Stand}
use Rattle.bl_place.specs.declared.place.Stand.TheVariants.{Ended}
use Rattle.bl_core.specs.declared.session.Session.{Session}
use Rattle.bl_core.specs.declared.machine.Core.TheInside.{Inside}
use Rattle.bl_core.proofs.Grown.{Same, Grows, grows-set, grows-append, grows-both, equal_or_not}
use Rattle.bl_core.proofs.Moved.{Moved}

-- what the fields are after, but for the policy and the shelves
pub record Written (c d : Inside) (n : ℕ) (t : Place) (more : List Place) : Type 0 where
  pub setup : d.setup ≡ c.setup
  pub limit : d.limit ≡ c.limit
  pub weight : d.weight ≡ c.weight
  pub sessions : d.sessions.items ≡ c.sessions.items
  pub rooms : vec_capacity d.sessions ≡ vec_capacity c.sessions
  pub places : d.places.items ≡ set c.places.items n t ++ more
  pub capacity : vec_capacity d.places ≡ vec_capacity c.places
  pub queued : QueuesTell (length d.setup.policy.documents + 1) d.limit d.places.items (length d.places.items) d.queues

-- the place, standing otherwise
abbrev pub stands_at : Place → Stand → Place
stands_at s v = record { descent = s.descent; root = s.root; index = s.index; subject = s.subject; carried = s.carried; stand = v }

pub same-read : (places : List Place) (n : ℕ) (s : Place) (v : Stand) → n < length places → s ≡ get_or places n s → Same (place_in places n) (stands_at s v)
same-read places n s v lt at =
    let e : s ≡ get_or places n no_place = get_or_read places n s lt at no_place in
    record { descent = ap (λ (t : Place). t.descent) e; root = ap (λ (t : Place). t.root) e; index = ap (λ (t : Place). t.index) e; subject = ap (λ (t : Place). t.subject) e; carried = ap (λ (t : Place). t.carried) e }

pub append_nil : {X : Type 0} (xs : List X) → xs ++ [] ≡ xs
append_nil [] = refl
append_nil (x ∷ xs) = ap (λ l. x ∷ l) (append_nil xs)

module _ (S : List Place) (n : ℕ) (t : Place) (more : List Place) (lt : n < length S) where
  -- the stand of a place that was there
  pub stand-written : (m : ℕ) → m < length S
      → ((m ≡ n) × ((place_in (set S n t ++ more) m).stand ≡ t.stand)) ⊎ ((place_in (set S n t ++ more) m).stand ≡ (place_in S m).stand)
  stand-written m within = go (equal_or_not m n)
    where
      go : (m ≡ n) ⊎ (m ≢ n) → ((m ≡ n) × ((get_or (set S n t ++ more) m no_place).stand ≡ t.stand)) ⊎ ((get_or (set S n t ++ more) m no_place).stand ≡ (get_or S m no_place).stand)
      go (inl e) =
          inl (e, ap (λ (s : Place). s.stand) (get_or-append (set S n t) more no_place m (omega (arith, length-set S n t)) ∙ ap (λ (j : ℕ). get_or (set S n t) j no_place) e ∙ get_or-set_same S n t no_place lt))
      go (inr ne) =
          inr (ap (λ (s : Place). s.stand) (get_or-append (set S n t) more no_place m (omega (arith, length-set S n t)) ∙ get_or-set_other S n m t no_place ne))

pub same-entry : (s t : Place) → Same s t → entry_of t ≡ entry_of s
same-entry s t e = ap (λ (o : Descent). entry_by t.subject o) e.descent ∙ ap (λ (u : ℕ). entry_by u s.descent) e.subject

module _ (c d : Inside) (n : ℕ) (t : Place) (more : List Place) (w : Written c d n t more) (lt : n < length c.places.items) (same : Same (place_in c.places.items n) t) where
  grows : Grows c.places.items d.places.items
  grows = subst (Grows c.places.items) (sym w.places) (grows-both c.places.items (set c.places.items n t) (set c.places.items n t ++ more) (grows-set c.places.items n t lt same) (grows-append (set c.places.items n t) more))

  module _ (k : Keeps c) (e : Event) (view : state_of d ≡ change (state_of c) e)
      (answer : (a : Answer) → t.stand ≡ Ended a → (past_at (change (state_of c) e) n).answer ≡ a)
      (new : (m : ℕ) → length c.places.items ≤ m → m < length d.places.items → Tells c.setup d.places.items m (past_at (change (state_of c) e) m))
      (policy : d.policy ≡ policy_now (change (state_of c) e))
      (subjects : length d.policy.subjects ≡ length c.policy.subjects)
      (documents : length d.policy.documents ≡ length c.policy.documents)
      (as_many : length d.shelves.items ≡ length c.shelves.items)
      (shelved : AreShelved (change (state_of c) e) d.shelves.items)
      (weight : sum_by entry_weight (change (state_of c) e).order ≡ sum_by entry_weight (state_of c).order) where
    stands : (m : ℕ) → m < length c.places.items
        → ((place_in d.places.items m).stand ≡ (place_in c.places.items m).stand)
        ⊎ ((a : Answer) → (place_in d.places.items m).stand ≡ Ended a → (past_at (change (state_of c) e) m).answer ≡ a)
    stands m within = go (stand-written c.places.items n t more lt m within)
      where
        here : (place_in d.places.items m).stand ≡ (place_in (set c.places.items n t ++ more) m).stand
        here = ap (λ (l : List Place). (place_in l m).stand) w.places

        go : ((m ≡ n) × ((place_in (set c.places.items n t ++ more) m).stand ≡ t.stand)) ⊎ ((place_in (set c.places.items n t ++ more) m).stand ≡ (place_in c.places.items m).stand)
            → ((place_in d.places.items m).stand ≡ (place_in c.places.items m).stand)
            ⊎ ((a : Answer) → (place_in d.places.items m).stand ≡ Ended a → (past_at (change (state_of c) e) m).answer ≡ a)
        go (inr q) = inl (here ∙ q)
        go (inl q) = inr (λ a is. ap (λ (j : ℕ). (past_at (change (state_of c) e) j).answer) q.0 ∙ answer a (sym q.1 ∙ sym here ∙ is))

    pub moved-written : Moved c d e
    moved-written = record {
      view = view;
      setup = w.setup;
      grows = grows;
      stands = stands;
      new = new;
      policy = policy;
      subjects = subjects;
      documents = documents;
      speakers = subst (λ (l : List Session). All (λ (s : Session). s.subject < length c.setup.policy.subjects) l) (sym w.sessions) k.speakers;
      as_many = as_many;
      shelved = shelved;
      weight = w.weight ∙ k.weight ∙ sym weight;
      queued = w.queued;
      limit = w.limit;
      capacity = w.capacity;
      rooms = w.rooms;
    }

-- the state, where one place stands otherwise
pub state-written : (c d : Inside) (n : ℕ) (t : Place) (p : Phase) → Written c d n t [] → Same (place_in c.places.items n) t → phase_of t.stand ≡ p
    → state_of d ≡ with_phase (state_of c) n p
state-written c d n t p w same stands = λ j. record {
  setup = w.setup j;
  limit = w.limit j;
  sessions = map (λ (s : Session). record { subject = s.subject; last = s.last }) (w.sessions j);
  order = order j;
  phases = phases j;
}
  where
    order : map entry_of d.places.items ≡ map entry_of c.places.items
    order =
        ap (map entry_of) (w.places ∙ append_nil (set c.places.items n t))
        ∙ map-set_same entry_of c.places.items n t no_place (same-entry (place_in c.places.items n) t same)

    phases : map (λ (s : Place). phase_of s.stand) d.places.items ≡ set (map (λ (s : Place). phase_of s.stand) c.places.items) n p
    phases =
        ap (map (λ (s : Place). phase_of s.stand)) (w.places ∙ append_nil (set c.places.items n t))
        ∙ map-set (λ (s : Place). phase_of s.stand) c.places.items n t
        ∙ ap (set (map (λ (s : Place). phase_of s.stand) c.places.items) n) stands
