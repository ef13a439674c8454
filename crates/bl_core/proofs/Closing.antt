-- A place that may start ends at once: it is denied, its rule is applied, or it is lost.
use Rattle.std.proofs.Common.{◌≡◌, ℕ, ◌+◌, false, cond, ◌&&◌, Bool, List, [], length, get_or, set, refl, ap, sym, subst, ◌∙◌, arith}
use Rattle.std.specs.Vec.{with_item, with_items}
use Rattle.bl_policy.specs.Policy.{SecurityPolicy}
use Rattle.bl_work.specs.declared.answer.Answer.{Answer}
use Rattle.bl_work.specs.declared.answer.Answer.TheVariants as answers
use Rattle.bl_order.specs.Past.{is_done, is_rule_done, has_deleted, may_alter, changed}
use Rattle.bl_order.specs.Machine.{Running, Ended, MayStart, Starts, Loses, change, past_at}
use Rattle.bl_place.specs.Places.{place_in, phase_of}
use Rattle.bl_place.specs.Queueing.{QueuesTell}
use Rattle.bl_place.specs.Shelves.{AreEmptied, emptied, shelf_in}
use Rattle.bl_queue.specs.Queues.{Queue, with_stand}
use Rattle.bl_queue.specs.declared.entry.Stand.TheVariants as queues
use Rattle.bl_core.specs.View.{state_of}
use Rattle.bl_core.specs.Keeps.{Keeps, AreShelved}
use Rattle.bl_place.specs.declared.place.Place.{Place}
use Rattle.bl_place.specs.declared.place.Stand.TheVariants as stands
use Rattle.bl_place.specs.declared.shelf.Shelf.{Shelf}
use Rattle.bl_core.specs.declared.machine.Core.TheInside.{Inside}
use Rattle.bl_core.proofs.Grown.{Same}
use Rattle.bl_core.proofs.Views.{ended_of}
use Rattle.bl_core.proofs.Written.{Written, append_nil, stands_at, same-read}
use Rattle.bl_core.proofs.Queueing.{tell-set}
use Rattle.bl_core.proofs.Lending.{written_items}
use Rattle.bl_core.proofs.Starting.{there-may, state-started, kept-started, shelved-ended, state-lost, kept-lost}

-- the fields after a place ended, with this policy
abbrev pub closed : Inside → ℕ → Place → Answer → Queue → SecurityPolicy → Inside
closed c n s a q p = record c { places = with_item c.places n (stands_at s (stands.Ended a)); queues = q; policy = p }

-- and with these contents
abbrev pub clear : Inside → ℕ → Place → Answer → Queue → SecurityPolicy → List Shelf → Inside
clear c n s a q p h = record c { places = with_item c.places n (stands_at s (stands.Ended a)); queues = q; policy = p; shelves = with_items c.shelves h }

module _ (c : Inside) (k : Keeps c) (n : ℕ) (s : Place) (a : Answer) (may : MayStart (state_of c) n) (at : s ≡ get_or c.places.items n s) where
  module _ (q : Queue) (p : SecurityPolicy) (ended : q ≡ with_stand c.queues n queues.Ended) where
    written : Written c (closed c n s a q p) n (stands_at s (stands.Ended a)) []
    written = record {
      setup = refl;
      limit = refl;
      weight = refl;
      sessions = refl;
      rooms = refl;
      places = sym (append_nil (set c.places.items n (stands_at s (stands.Ended a))));
      capacity = refl;
      queued = subst
          (QueuesTell (length c.setup.policy.documents + 1) c.limit (set c.places.items n (stands_at s (stands.Ended a))) (length (set c.places.items n (stands_at s (stands.Ended a))))) (sym ended)
          (tell-set c.places.items n s (stands.Ended a) (length c.setup.policy.documents + 1) c.limit c.queues (there-may c n may) at (λ m lt. (k.told m lt).root) k.queued);
    }

    same : Same (place_in c.places.items n) (stands_at s (stands.Ended a))
    same = same-read c.places.items n s (stands.Ended a) (there-may c n may) at

    -- with the answer of its place
    module _ (is : (past_at (state_of c) n).answer ≡ a) (ends : phase_of (stands.Ended a) ≡ Ended) (idle : is_done a ≡ false)
        (policy : p ≡ changed (past_at (state_of c) n).answer (past_at (state_of c) n).task (past_at (state_of c) n).subject c.policy)
        (subjects : length p.subjects ≡ length c.policy.subjects) (documents : length p.documents ≡ length c.policy.documents) where
      not_done : is_done (past_at (state_of c) n).answer ≡ false
      not_done = ap is_done is ∙ idle

      stays : phase_of (stands.Ended a) ≡ cond (is_done (past_at (state_of c) n).answer) Running Ended
      stays = ends ∙ ap (λ (b : Bool). cond b Running Ended) (sym not_done)

      -- and each content is as it was
      module _ (kept : is_rule_done a ≡ false) where
        left : AreEmptied (has_deleted (past_at (state_of c) n)) c.shelves.items c.shelves.items
        left = record {
          as_many = refl;
          each = λ o. ap (λ (b : Bool). cond (b && may_alter (past_at (state_of c) n).task o) (emptied (shelf_in c.shelves.items o)) (shelf_in c.shelves.items o))
              (sym (ap is_rule_done is ∙ kept));
        }

        pub closed-state : state_of (closed c n s a q p) ≡ change (state_of c) (Starts n)
        closed-state =
            state-started c (closed c n s a q p) n (stands_at s (stands.Ended a)) written k may same stays (λ b e. is ∙ ended_of a b e) policy subjects documents refl
            (shelved-ended c (closed c n s a q p) n (stands_at s (stands.Ended a)) written k may same c.shelves.items not_done left)

        pub closed-kept : Keeps (closed c n s a q p)
        closed-kept =
            kept-started c (closed c n s a q p) n (stands_at s (stands.Ended a)) written k may same stays (λ b e. is ∙ ended_of a b e) policy subjects documents refl
            (shelved-ended c (closed c n s a q p) n (stands_at s (stands.Ended a)) written k may same c.shelves.items not_done left)

      -- and the content that it deletes is empty
      module _ (h : List Shelf) (left : AreEmptied (has_deleted (past_at (state_of c) n)) c.shelves.items h) where
        items : (with_items c.shelves h).items ≡ h
        items = written_items c h (omega (arith, left.as_many, c.shelves.ok.0))

        cleared : Written c (clear c n s a q p h) n (stands_at s (stands.Ended a)) []
        cleared = record {
          setup = refl;
          limit = refl;
          weight = refl;
          sessions = refl;
          rooms = refl;
          places = written.places;
          capacity = refl;
          queued = written.queued;
        }

        shelved : AreShelved (change (state_of c) (Starts n)) (with_items c.shelves h).items
        shelved =
            subst (AreShelved (change (state_of c) (Starts n))) (sym items)
            (shelved-ended c (clear c n s a q p h) n (stands_at s (stands.Ended a)) cleared k may same h not_done left)

        pub cleared-state : state_of (clear c n s a q p h) ≡ change (state_of c) (Starts n)
        cleared-state =
            state-started c (clear c n s a q p h) n (stands_at s (stands.Ended a)) cleared k may same stays (λ b e. is ∙ ended_of a b e) policy subjects documents
            (ap length items ∙ left.as_many) shelved

        pub cleared-kept : Keeps (clear c n s a q p h)
        cleared-kept =
            kept-started c (clear c n s a q p h) n (stands_at s (stands.Ended a)) cleared k may same stays (λ b e. is ∙ ended_of a b e) policy subjects documents
            (ap length items ∙ left.as_many) shelved

    -- lost
    module _ (lost : a ≡ answers.Lost) (policy : p ≡ c.policy) where
      pub lost-state : state_of (closed c n s a q p) ≡ change (state_of c) (Loses n)
      lost-state = state-lost c (closed c n s a q p) n (stands_at s (stands.Ended a)) written k may same (ap stands.Ended lost) policy refl

      pub lost-kept : Keeps (closed c n s a q p)
      lost-kept = kept-lost c (closed c n s a q p) n (stands_at s (stands.Ended a)) written k may same (ap stands.Ended lost) policy refl
