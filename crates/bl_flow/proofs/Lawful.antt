-- What is kept of a history may come about.
use Rattle.std.proofs.Common.{◌≡◌, ℕ, zero, suc, ◌+◌, ◌-◌, ◌<◌, ◌≤◌, Bool, true, false, length, sym, ◌∙◌, ap, subst, inl, inr, arith, ◌⊎◌, true≢false, get_or, refl}
use Rattle.std.specs.Prelude.{Some, slice_get, slice_index_or}
use Rattle.std.proofs.lemmas.Option.{get_or_from_slice_get, slice_get-get_or}
use Rattle.bl_level.specs.Level.{SecurityLevel, dominates, join_of}
use Rattle.bl_policy.specs.Policy.{SecurityPolicy, current_of}
use Rattle.bl_work.specs.Effects.{children}
use Rattle.bl_work.specs.declared.work.Work.{Work}
use Rattle.bl_setup.specs.Setup.{Setup}
use Rattle.bl_setup.specs.declared.version.Version.{Version}
use Rattle.bl_setup.specs.declared.version.Version.TheVariants.{One, Two}
use Rattle.bl_order.specs.Laws.{FollowsItsParent}
use Rattle.bl_order.specs.Legal.{IsLegal, HasPlace, child_count}
use Rattle.bl_order.specs.Order.{Entry, Line, Child, is_rule}
use Rattle.bl_order.specs.Past.{Past, no_entry, is_done, fault_of_task, deeds}
use Rattle.bl_order.specs.Room.{IsBehaviourOrRule}
use Rattle.bl_flow.specs.Low.{History, AgreeLow, place_in, policy_in, content_in, is_low_place}
use Rattle.bl_flow.specs.Purge.{is_kept, kept_before, renumbered, purged}
use Rattle.bl_flow.specs.Sealed.{IsPossible, IsSealed}
use Rattle.bl_flow.proofs.Alone.{parent-behind, parent-kept, places-left}
use Rattle.bl_flow.proofs.Kept.{rank-kept, rank-below, rank-order, rank-one, counted, length-of_kept, of_kept-at, entry-kept}
use Rattle.bl_flow.proofs.LawsBelow.{LawsBelow}
use Rattle.bl_flow.proofs.Lists.{got-within, or_either, or_right, none_more, one_more}
use Rattle.bl_flow.proofs.Records.{done_behaves, child_rule}

module _ (laws : LawsBelow) (level : SecurityLevel) (h : History) (o : Setup) (possible : IsPossible h) (sealed : IsSealed level h) (agree : AgreeLow level h.setup o) where
  abbrev low : ℕ → Bool
  low = is_low_place level h

  abbrev kept : ℕ → Bool
  kept = is_kept level h

  abbrev rank : ℕ → ℕ
  rank = kept_before level h

  abbrev at : ℕ → Past
  at = place_in h

  abbrev p : History
  p = purged level h o

  -- an entry under its new number
  abbrev entry : ℕ → Entry
  entry n = renumbered level h (get_or h.order n no_entry)

  -- each place that is left is one that is kept
  left-counted : (i : ℕ) → i < length p.order → (m : ℕ) × (m < length h.order) × (kept m ≡ true) × (rank m ≡ i)
  left-counted i lt = counted level h (length h.order) i (omega (arith, lt, length-of_kept level h entry (length h.order)))

  -- where an entry that is left comes from
  record Origin (i : ℕ) (e : Entry) : Type 0 where
    pub m : ℕ
    pub there : m < length h.order
    pub kept_there : kept m ≡ true
    pub stands : rank m ≡ i
    pub is : entry m ≡ e

  -- and each comes from somewhere
  origin : (i : ℕ) (e : Entry) → slice_get p.order i ≡ Some e → Origin i e
  origin i e got =
      let d : (m : ℕ) × (m < length h.order) × (kept m ≡ true) × (rank m ≡ i) = left-counted i (got-within p.order i e got) in
      record {
        m = d.0;
        there = d.1;
        kept_there = d.2;
        stands = d.3;
        is = sym (of_kept-at level h entry no_entry d.0 (length h.order) d.1 d.2) ∙ ap (λ k. get_or p.order k no_entry) d.3 ∙ get_or_from_slice_get p.order i e no_entry got;
      }

  -- a line is left as it is
  kept-line : (e : Entry) (session k u : ℕ) (w : Work) → renumbered level h e ≡ Line session k u w → e ≡ Line session k u w
  kept-line (Line i j v x) session k u w is = is
  kept-line (Child parent which) session k u w is = absurd (cc)

  -- a child is left as one of its parent, under a new number
  kept-child : (e : Entry) (parent which : ℕ) → renumbered level h e ≡ Child parent which → (q : ℕ) × (e ≡ Child q which) × (rank q ≡ parent)
  kept-child (Line i j v x) parent which is = absurd (cc)
  kept-child (Child q v) parent which is = let same : v ≡ which = cc in (q, ap (Child q) same, cc)

  -- what a legal child's parent spawned behaves, and all of it is kept where one of it is
  module _ (m q which : ℕ) (is : slice_get h.order m ≡ Some (Child q which)) (k : kept m ≡ true) where
    abbrev hp : HasPlace h.setup h.lost h.order m q which
    hp = possible.legal.placed m q which is

    abbrev count : ℕ
    count = child_count h.setup h.lost h.order q

    -- its parent stands before it and is kept
    behind : q < m
    behind = parent-behind laws level h o possible sealed agree m q which is k

    pub parent-stays : kept q ≡ true
    parent-stays = parent-kept laws level h o possible sealed agree m q which is k

    -- what each child of that parent says of it
    follows : (n v : ℕ) → slice_get h.order n ≡ Some (Child q v) → FollowsItsParent h.setup h.lost h.order n q v
    follows n v stands = laws.children h.setup h.lost h.order n q v (possible.legal.placed n q v stands).behind stands

    -- no child of that parent is a rule
    behaves : (n v : ℕ) → slice_get h.order n ≡ Some (Child q v) → is_rule (at n).task ≡ false
    behaves n v stands =
        ap is_rule (follows n v stands).task
        ∙ child_rule (at q).task (slice_index_or (children (at q).effects) (v - 1) 0)
        ∙ done_behaves (h.lost q) (fault_of_task (policy_in h q) (at q).subject (at q).carried (at q).task) (at q).task (deeds (at q).task (λ doc. content_in h doc q)) hp.done

    -- all of them carry the same
    carries : (n m v w : ℕ) → slice_get h.order n ≡ Some (Child q v) → slice_get h.order m ≡ Some (Child q w) → (at n).carried ≡ (at m).carried
    carries n m v w stands too = go h.setup.version refl
      where
        go : (version : Version) → h.setup.version ≡ version → (at n).carried ≡ (at m).carried
        go One one = (follows n v stands).carries_nothing one ∙ sym ((follows m w too).carries_nothing one)
        go Two two = (follows n v stands).carried two ∙ sym ((follows m w too).carried two)

    -- no rule stands among them
    policy-run : (i : ℕ) → i ≤ count → policy_in h (hp.first + i) ≡ policy_in h hp.first
    policy-run zero le = ap (policy_in h) (none_more hp.first)
    policy-run (suc i) le =
        ap (policy_in h) (one_more hp.first i)
        ∙ (laws.rules h.setup h.lost h.order (hp.first + i)).by_no_behaviour (behaves (hp.first + i) (suc i) (hp.together i (omega arith)))
        ∙ policy-run i (omega arith)

    -- the place is one of those on which the children stand
    here : m ≡ hp.first + (which - 1)
    here = omega (arith, hp.stands, hp.from_one)

    -- it is kept because it is low
    low-here : low m ≡ true
    low-here = go (or_either (is_rule (at m).task) (low m) k)
      where
        go : (is_rule (at m).task ≡ true) ⊎ (low m ≡ true) → low m ≡ true
        go (inl rule) = absurd (true≢false (sym rule ∙ behaves m which is))
        go (inr speaks) = speaks

    -- so each child of that parent is low, which runs by the same policy for the same subject
    sibling-kept : (i : ℕ) → i < count → kept (hp.first + i) ≡ true
    sibling-kept i lt =
        or_right (is_rule (at (hp.first + i)).task) (low (hp.first + i))
        (ap (λ r. low_at r (at (hp.first + i)).subject (at (hp.first + i)).carried) (policy-run i (omega arith) ∙ sym (policy-run (which - 1) (omega (arith, hp.spawned))) ∙ ap (policy_in h) (sym here))
        ∙ ap (λ u. low_at (policy_in h m) u (at (hp.first + i)).carried) ((follows (hp.first + i) (suc i) (hp.together i lt)).subject ∙ sym (follows m which is).subject)
        ∙ ap (low_at (policy_in h m) (at m).subject) (carries (hp.first + i) m (suc i) which (hp.together i lt) is) ∙ low-here)
      where
        low_at : SecurityPolicy → ℕ → SecurityLevel → Bool
        low_at r u carried = dominates level (join_of (current_of r u) carried)

    -- and they stand together on what is left
    rank-run : (i : ℕ) → i ≤ count → rank (hp.first + i) ≡ rank hp.first + i
    rank-run zero le = ap rank (none_more hp.first) ∙ sym (none_more (rank hp.first))
    rank-run (suc i) le =
        ap rank (one_more hp.first i) ∙ rank-kept level h (hp.first + i) (sibling-kept i (omega arith))
        ∙ omega (arith, rank-run i (omega arith))

    -- the parent has its record there
    same : place_in p (rank q) ≡ at q
    same = places-left laws level h o possible sealed agree q (omega (arith, got-within h.order m (Child q which) is, behind)) parent-stays

    -- so the child has its place there
    pub placed-left : HasPlace o p.lost p.order (rank m) (rank q) which
    placed-left = record {
      behind = rank-below level h q m behind parent-stays;
      done = ap (λ (r : Past). is_done r.answer) same ∙ hp.done;
      from_one = hp.from_one;
      spawned = omega (arith, hp.spawned, as_many);
      first = rank hp.first;
      stands = omega (arith, hp.from_one, ap rank here, rank-run (which - 1) (omega (arith, hp.spawned)));
      together = λ i lt.
          ap (slice_get p.order) (sym (rank-run i (omega (arith, lt, as_many))))
          ∙ entry-kept level h (hp.first + i) (Child q (suc i)) (hp.together i (omega (arith, lt, as_many))) (sibling-kept i (omega (arith, lt, as_many)));
    }
      where
        as_many : child_count o p.lost p.order (rank q) ≡ count
        as_many = ap (λ (r : Past). length (children r.effects)) same

  -- where a line that is left comes from
  line-origin : (i session k u : ℕ) (w : Work) → (a : Origin i (Line session k u w)) → slice_get h.order a.m ≡ Some (Line session k u w)
  line-origin i session k u w a = slice_get-get_or h.order a.m no_entry a.there ∙ ap Some (kept-line (get_or h.order a.m no_entry) session k u w a.is)

  -- where a child that is left comes from
  record ChildOrigin (i parent which : ℕ) : Type 0 where
    pub m : ℕ
    pub q : ℕ
    pub is : slice_get h.order m ≡ Some (Child q which)
    pub kept_there : kept m ≡ true
    pub stands : rank m ≡ i
    pub follows : rank q ≡ parent

  child-origin : (i parent which : ℕ) → slice_get p.order i ≡ Some (Child parent which) → ChildOrigin i parent which
  child-origin i parent which got =
      let a : Origin i (Child parent which) = origin i (Child parent which) got in
      let d : (q : ℕ) × (get_or h.order a.m no_entry ≡ Child q which) × (rank q ≡ parent) = kept-child (get_or h.order a.m no_entry) parent which a.is in
      record {
        m = a.m;
        q = d.0;
        is = slice_get-get_or h.order a.m no_entry a.there ∙ ap Some d.1;
        kept_there = a.kept_there;
        stands = a.stands;
        follows = d.2;
      }

  -- the order that is left is legal
  legal-left : IsLegal o p.lost p.order
  legal-left = record {
    rising = λ m n session j k u v w x lt got gets.
        let a : Origin m (Line session j u w) = origin m (Line session j u w) got in
        let b : Origin n (Line session k v x) = origin n (Line session k v x) gets in
        possible.legal.rising a.m b.m session j k u v w x (rank-order level h a.m b.m a.kept_there b.kept_there (omega (arith, lt, a.stands, b.stands)))
        (line-origin m session j u w a) (line-origin n session k v x b);
    placed = λ n parent which got.
        let a : ChildOrigin n parent which = child-origin n parent which got in
        subst (λ k. HasPlace o p.lost p.order n k which) a.follows
        (subst (λ k. HasPlace o p.lost p.order k (rank a.q) which) a.stands (placed-left a.m a.q which a.is a.kept_there));
    once = λ m n parent which got gets.
        let a : ChildOrigin m parent which = child-origin m parent which got in
        let b : ChildOrigin n parent which = child-origin n parent which gets in
        let one : a.q ≡ b.q = rank-one level h a.q b.q (parent-stays a.m a.q which a.is a.kept_there) (parent-stays b.m b.q which b.is b.kept_there) (a.follows ∙ sym b.follows) in
        sym a.stands ∙ ap rank (possible.legal.once a.m b.m b.q which (a.is ∙ ap (λ q. Some (Child q which)) one) b.is) ∙ b.stands;
  }

  -- and its places run behaviours of scripts or apply rules
  scripts-left : (i : ℕ) → i < length p.order → IsBehaviourOrRule (place_in p i).task
  scripts-left i lt =
      let d : (m : ℕ) × (m < length h.order) × (kept m ≡ true) × (rank m ≡ i) = left-counted i lt in
      subst (λ (r : Past). IsBehaviourOrRule r.task)
      (sym (places-left laws level h o possible sealed agree d.0 d.1 d.2) ∙ ap (place_in p) d.3) (possible.scripts d.0 d.1)

  pub possible-left : IsPossible p
  possible-left = record { legal = legal-left; scripts = scripts-left }
