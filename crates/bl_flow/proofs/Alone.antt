-- What is kept of a history has its records, its policy and its low contents.
use Rattle.std.proofs.Common.{◌≡◌, ℕ, zero, suc, ◌-◌, ◌<◌, ◌≤◌, Bool, true, false, ◌&&◌, List, length, refl, sym, ◌∙◌, ap, inl, inr, arith, ◌⊎◌, true≢false, get_or}
use Rattle.std.specs.Prelude.{Some, None, slice_get, slice_index_or}
use Rattle.std.proofs.lemmas.Option.{slice_get-get_or}
use Rattle.bl_level.specs.Level.{SecurityLevel, join_of}
use Rattle.bl_policy.specs.Policy.{SecurityPolicy, is_trusted}
use Rattle.bl_work.specs.Effects.{children}
use Rattle.bl_work.specs.Modes.{declares, observes}
use Rattle.bl_setup.specs.Setup.{Setup}
use Rattle.bl_setup.specs.declared.version.Version.{Version}
use Rattle.bl_setup.specs.declared.version.Version.TheVariants.{One, Two}
use Rattle.bl_order.specs.Laws.{FollowsItsParent}
use Rattle.bl_order.specs.Order.{Entry, Line, Child, Task, Runs, Applies, accesses_of, is_rule}
use Rattle.bl_order.specs.Past.{Past, no_entry, changed, is_done, may_alter, leaves, child_task, deeds, judged, fault_of_task}
use Rattle.bl_flow.specs.Low.{History, AgreeLow, place_in, policy_in, content_in, is_low_place, is_low_document}
use Rattle.bl_flow.specs.Purge.{is_kept, kept_before, purged}
use Rattle.bl_flow.specs.Sealed.{IsPossible, IsSealed, LetsNothingDown, NoChildComesDown}
use Rattle.bl_flow.proofs.Down.{looks-low, alters-low, no-child-down}
use Rattle.bl_flow.proofs.Kept.{rank-kept, rank-purged, rank-below, of_kept-at, entry-kept}
use Rattle.bl_flow.proofs.LawsBelow.{LawsBelow}
use Rattle.bl_flow.proofs.Lists.{or_either, or_left, or_right, or_none, less_or_equal}
use Rattle.bl_flow.proofs.Records.{judged-alike, done_faultless, done_behaves, behaviour_answered, leaves-unwritten, child_rule, line-task, line-subject, deeds-alike}

module _ (laws : LawsBelow) (level : SecurityLevel) (h : History) (o : Setup) (possible : IsPossible h) (sealed : IsSealed level h) (agree : AgreeLow level h.setup o) where
  abbrev low : ℕ → Bool
  low = is_low_place level h

  abbrev kept : ℕ → Bool
  kept = is_kept level h

  abbrev rank : ℕ → ℕ
  rank = kept_before level h

  abbrev at : ℕ → Past
  at = place_in h

  -- the purged history
  abbrev p : History
  p = purged level h o

  -- what the task of a place would do there
  abbrev contents_at : ℕ → ℕ → List ℕ
  contents_at n doc = content_in h doc n

  abbrev contents_left : ℕ → ℕ → List ℕ
  contents_left n doc = content_in p doc n

  -- what is done lets nothing down
  nothing-down : (n : ℕ) → n < length h.order → is_done (at n).answer ≡ true → LetsNothingDown level h n
  nothing-down n lt done = go (is_trusted q (at n).subject) refl
    where
      q : SecurityPolicy
      q = policy_in h n

      faultless : fault_of_task q (at n).subject (at n).carried (at n).task ≡ None
      faultless = done_faultless (h.lost n) (fault_of_task q (at n).subject (at n).carried (at n).task) (at n).task (deeds (at n).task (contents_at n)) done

      behaves : is_rule (at n).task ≡ false
      behaves = done_behaves (h.lost n) (fault_of_task q (at n).subject (at n).carried (at n).task) (at n).task (deeds (at n).task (contents_at n)) done

      looks : is_trusted q (at n).subject ≡ false → (t : Task) → fault_of_task q (at n).subject (at n).carried t ≡ None
          → (doc : ℕ) → low n ≡ true → declares observes (accesses_of t) doc ≡ true → is_low_document level q doc ≡ true
      looks untrusted (Runs script index) none =
          looks-low laws.dominance level q (at n).subject (at n).carried untrusted (accesses_of (Runs script index))
          ((laws.granted q (at n).subject (at n).carried (accesses_of (Runs script index))).0 none)
      looks untrusted (Applies rule) none = λ doc now k. absurd (true≢false (sym k))

      alters : is_trusted q (at n).subject ≡ false → (t : Task) → is_rule t ≡ false → fault_of_task q (at n).subject (at n).carried t ≡ None
          → (doc : ℕ) → may_alter t doc ≡ true → is_low_document level q doc ≡ true → low n ≡ true
      alters untrusted (Runs script index) behaves none =
          alters-low laws.dominance level q (at n).subject (at n).carried untrusted (accesses_of (Runs script index))
          ((laws.granted q (at n).subject (at n).carried (accesses_of (Runs script index))).0 none)
      alters untrusted (Applies rule) behaves none = λ doc k low_doc. absurd (true≢false behaves)

      go : (b : Bool) → is_trusted q (at n).subject ≡ b → LetsNothingDown level h n
      go true trusted = sealed.trusted n lt trusted done
      go false untrusted = record { looks = looks untrusted (at n).task faultless; alters = alters untrusted (at n).task behaves faultless }

  -- no child comes down, whatever the version
  children-up : NoChildComesDown level h
  children-up = go h.setup.version refl
    where
      go : (v : Version) → h.setup.version ≡ v → NoChildComesDown level h
      go One one = sealed.children one
      go Two two = no-child-down laws.dominance level laws.children h possible two

  -- a child that is kept has its parent before it, which is kept
  module _ (n parent which : ℕ) (is : slice_get h.order n ≡ Some (Child parent which)) (k : kept n ≡ true) where
    pub parent-behind : parent < n
    parent-behind = (possible.legal.placed n parent which is).behind

    -- what the child says of its parent
    pub follows : FollowsItsParent h.setup h.lost h.order n parent which
    follows = laws.children h.setup h.lost h.order n parent which parent-behind is

    pub parent-kept : kept parent ≡ true
    parent-kept = go (or_either (is_rule (at n).task) (low n) k)
      where
        go : (is_rule (at n).task ≡ true) ⊎ (low n ≡ true) → kept parent ≡ true
        go (inl rule) =
            or_left (is_rule (at parent).task) (low parent)
            (sym (ap is_rule follows.task ∙ child_rule (at parent).task (slice_index_or (children (at parent).effects) (which - 1) 0)) ∙ rule)
        go (inr speaks) = or_right (is_rule (at parent).task) (low parent) (children-up n parent which is speaks)

  -- up to place n the purged history has the records of those that are kept, the policy, and the low contents
  record IsLeft (n : ℕ) : Type 0 where
    pub places : (m : ℕ) → m < n → kept m ≡ true → place_in p (rank m) ≡ at m
    pub policy : policy_in p (rank n) ≡ policy_in h n
    pub contents : (doc : ℕ) → is_low_document level (policy_in h n) doc ≡ true → content_in p doc (rank n) ≡ content_in h doc n

  module _ (n : ℕ) (lt : n < length h.order) (left : IsLeft n) where
    -- who speaks at a place that is kept, what it carries, and what it does, are what they were
    record IsSameEntry : Type 0 where
      pub subject : (place_in p (rank n)).subject ≡ (at n).subject
      pub carried : (place_in p (rank n)).carried ≡ (at n).carried
      pub task : (place_in p (rank n)).task ≡ (at n).task

    entry-left : kept n ≡ true → IsSameEntry
    entry-left k = go (get_or h.order n no_entry) (slice_get-get_or h.order n no_entry lt)
      where
        go : (e : Entry) → slice_get h.order n ≡ Some e → IsSameEntry
        go (Line session ordinal subject w) is = record {
          subject = line-subject p (rank n) session ordinal subject w there ∙ sym (line-subject h n session ordinal subject w is);
          carried =
              laws.lines p.setup p.lost p.order (rank n) session ordinal subject w there
              ∙ sym (laws.lines h.setup h.lost h.order n session ordinal subject w is);
          task = line-task p (rank n) session ordinal subject w there ∙ sym (line-task h n session ordinal subject w is);
        }
          where
            there : slice_get p.order (rank n) ≡ Some (Line session ordinal subject w)
            there = entry-kept level h n (Line session ordinal subject w) is k
        go (Child parent which) is = record {
          subject = there.subject ∙ ap (λ (q : Past). q.subject) same ∙ sym (follows n parent which is k).subject;
          carried = carries h.setup.version refl;
          task = there.task ∙ ap (λ (q : Past). child_task q.task (slice_index_or (children q.effects) (which - 1) 0)) same ∙ sym (follows n parent which is k).task;
        }
          where
            behind : parent < n
            behind = parent-behind n parent which is k

            same : place_in p (rank parent) ≡ at parent
            same = left.places parent behind (parent-kept n parent which is k)

            there : FollowsItsParent p.setup p.lost p.order (rank n) (rank parent) which
            there =
                laws.children p.setup p.lost p.order (rank n) (rank parent) which
                (rank-below level h parent n behind (parent-kept n parent which is k)) (entry-kept level h n (Child parent which) is k)

            carries : (v : Version) → h.setup.version ≡ v → (place_in p (rank n)).carried ≡ (at n).carried
            carries One one = there.carries_nothing (agree.version ∙ one) ∙ sym ((follows n parent which is k).carries_nothing one)
            carries Two two =
                there.carried (agree.version ∙ two) ∙ ap (λ (q : Past). join_of q.level q.carried) same
                ∙ sym ((follows n parent which is k).carried two)

    -- a place that is kept does the same on what is left
    deeds-left : kept n ≡ true → is_done (at n).answer ≡ true → deeds (at n).task (contents_at n) ≡ deeds (at n).task (contents_left (rank n))
    deeds-left k done =
        deeds-alike laws (at n).task (contents_at n) (contents_left (rank n)) (possible.scripts n lt)
        (λ behaves doc looks. sym (left.contents doc ((nothing-down n lt done).looks doc (speaks (or_either (is_rule (at n).task) (low n) k) behaves) looks)))
      where
        speaks : (is_rule (at n).task ≡ true) ⊎ (low n ≡ true) → is_rule (at n).task ≡ false → low n ≡ true
        speaks (inl rule) behaves = absurd (true≢false (sym rule ∙ behaves))
        speaks (inr now) behaves = now

    -- a place that is kept has its record on what is left
    place-left : kept n ≡ true → place_in p (rank n) ≡ at n
    place-left k =
        ap (λ b. judged b (policy_in p (rank n)) (deeds there.task (contents_left (rank n))) there.subject there.carried there.task) (of_kept-at level h h.lost false n (length h.order) lt k)
        ∙ ap (λ t. judged (h.lost n) (policy_in p (rank n)) (deeds t (contents_left (rank n))) there.subject there.carried t) (entry-left k).task
        ∙ ap (λ c. judged (h.lost n) (policy_in p (rank n)) (deeds (at n).task (contents_left (rank n))) there.subject c (at n).task) (entry-left k).carried
        ∙ ap (λ u. judged (h.lost n) (policy_in p (rank n)) (deeds (at n).task (contents_left (rank n))) u (at n).carried (at n).task) (entry-left k).subject
        ∙ ap (λ q. judged (h.lost n) q (deeds (at n).task (contents_left (rank n))) (at n).subject (at n).carried (at n).task) left.policy
        ∙ sym (judged-alike (h.lost n) (policy_in h n) (deeds (at n).task (contents_at n)) (deeds (at n).task (contents_left (rank n))) (at n).subject (at n).carried (at n).task (deeds-left k))
      where
        there : Past
        there = place_in p (rank n)

    -- a behaviour's place that is not low leaves each low content
    alters-nothing : is_rule (at n).task ≡ false → low n ≡ false → (doc : ℕ) → is_low_document level (policy_in h n) doc ≡ true → leaves (at n) doc (content_in h doc n) ≡ content_in h doc n
    alters-nothing behaves high doc low_doc = leaves-unwritten (at n) doc (content_in h doc n)
        (behaviour_answered (h.lost n) (fault_of_task (policy_in h n) (at n).subject (at n).carried (at n).task) (at n).task (deeds (at n).task (contents_at n)) behaves)
        (go (is_done (at n).answer) (may_alter (at n).task doc) refl refl)
      where
        go : (b c : Bool) → is_done (at n).answer ≡ b → may_alter (at n).task doc ≡ c → (b && c) ≡ false
        go true true done alters = absurd (true≢false (sym ((nothing-down n lt done).alters doc alters low_doc) ∙ high))
        go true false done alters = refl
        go false c done alters = refl

    -- a place that is kept goes on in both histories
    left-kept : kept n ≡ true → IsLeft (suc n)
    left-kept k = record {
      places = λ m below i. before m i (less_or_equal m n below);
      policy =
          ap (λ r. policy_in p r) (rank-kept level h n k)
          ∙ ap (λ (q : Past). changed q.answer q.task q.subject (policy_in p (rank n))) (place-left k)
          ∙ ap (changed (at n).answer (at n).task (at n).subject) left.policy;
      contents = λ doc low_doc.
          ap (λ r. content_in p doc r) (rank-kept level h n k)
          ∙ ap (λ (q : Past). leaves q doc (content_in p doc (rank n))) (place-left k)
          ∙ ap (leaves (at n) doc) (left.contents doc (sealed.documents n doc lt low_doc));
    }
      where
        before : (m : ℕ) → kept m ≡ true → (m < n) ⊎ (m ≡ n) → place_in p (rank m) ≡ at m
        before m i (inl below) = left.places m below i
        before m i (inr same) = ap (λ j. place_in p (rank j)) same ∙ place-left k ∙ ap at (sym same)

    -- another place is passed over
    left-purged : kept n ≡ false → IsLeft (suc n)
    left-purged k = record {
      places = λ m below i. before m i (less_or_equal m n below);
      policy =
          ap (λ r. policy_in p r) (rank-purged level h n k)
          ∙ left.policy
          ∙ sym ((laws.rules h.setup h.lost h.order n).by_no_behaviour none.0);
      contents = λ doc low_doc.
          ap (λ r. content_in p doc r) (rank-purged level h n k)
          ∙ left.contents doc (sealed.documents n doc lt low_doc)
          ∙ sym (alters-nothing none.0 none.1 doc (sealed.documents n doc lt low_doc));
    }
      where
        none : (is_rule (at n).task ≡ false) × (low n ≡ false)
        none = or_none (is_rule (at n).task) (low n) k

        before : (m : ℕ) → kept m ≡ true → (m < n) ⊎ (m ≡ n) → place_in p (rank m) ≡ at m
        before m i (inl below) = left.places m below i
        before m i (inr same) = absurd (true≢false (sym i ∙ ap kept same ∙ k))

  -- from place to place
  all-left : (n : ℕ) → n ≤ length h.order → IsLeft n
  all-left zero le = record { places = λ m below k. absurd (omega arith); policy = agree.policy; contents = agree.contents }
  all-left (suc n) le = go (kept n) refl (all-left n (omega arith))
    where
      go : (b : Bool) → kept n ≡ b → IsLeft n → IsLeft (suc n)
      go true k deeper = left-kept n le deeper k
      go false k deeper = left-purged n le deeper k

  -- what that says at the end: of the places, the policies and the contents
  pub places-left : (n : ℕ) → n < length h.order → kept n ≡ true → place_in p (rank n) ≡ at n
  places-left n lt k = (all-left (length h.order) (omega arith)).places n lt k

  pub policies-left : (n : ℕ) → n ≤ length h.order → policy_in p (rank n) ≡ policy_in h n
  policies-left n le = (all-left n le).policy

  pub contents-left : (n doc : ℕ) → n ≤ length h.order → is_low_document level (policy_in h n) doc ≡ true → content_in p doc (rank n) ≡ content_in h doc n
  contents-left n doc le low_doc = (all-left n le).contents doc low_doc
