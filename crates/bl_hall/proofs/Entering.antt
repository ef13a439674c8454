-- The links of the places after a line was admitted, and after children have entered.
use Rattle.std.proofs.Common.{◌≡◌, ◌≢◌, ℕ, zero, suc, ◌+◌, ◌-◌, ◌<◌, ◌≤◌, Bool, true, false, cond, ◌&&◌, ◌==◌, List, [], ◌∷◌, ◌++◌, length, get_or, refl, sym, ap, subst, ◌∙◌, arith, true≢false, append_assoc, inl, inr, ◌⊎◌, length-append, eqb-true, eq-eqb}
use Rattle.std.specs.Prelude.{Some, None, slice_get}
use Rattle.std.proofs.Math.ListN.{get_or-append}
use Rattle.std.proofs.lemmas.Bool.Decides.{eqb_tells}
use Rattle.bl_work.specs.declared.work.Work.{Work}
use Rattle.bl_work.specs.Effects.{children}
use Rattle.bl_order.specs.Headline.{IsReached}
use Rattle.bl_order.specs.Labels.{Tag, tag, is_before, is_of}
use Rattle.bl_order.specs.Machine.{State, child_entries, has_ended, past_at, runs, session_at}
use Rattle.bl_order.specs.Order.{Entry, Line, Child}
use Rattle.bl_order.specs.Past.{no_entry}
use Rattle.bl_order.proofs.Lawful.{child-get, get-back}
use Rattle.bl_order.proofs.Reached.{sound-reached}
use Rattle.bl_order.proofs.Steps.{length-child_entries, running_is_not_over}
use Rattle.bl_order.specs.Machine.{phase_at}
use Rattle.bl_order.proofs.Trails.{within}
use Rattle.bl_hall.specs.declared.link.Link.{Link}
use Rattle.bl_hall.specs.Keeps.{AreLinks}
use Rattle.bl_hall.specs.Linked.{HaveEntered, Leads, family, lead_to, link_at, next_in, no_link, put_place, places_with}
use Rattle.bl_hall.proofs.Labels.{before-longer, before-itself, before-beside, before-children}
use Rattle.bl_hall.proofs.Tags.{tag-grown, tag-line, tag-child, get-some, some-get, IsTagOf, tag-known, line_of, lawful, no_further}
use Rattle.bl_hall.proofs.Ordered.{Each, each-as, each-both, each-join, each-front, each-back, InOrder, IsMember, are-members, are-ordered, skips, IsFound, found, order-front, order-back, put-past, put-here, places-grown}
use Rattle.bl_hall.proofs.Leading.{leads-same, leads-entered, row, row-end, row-each}

-- ---- tests of tags

pub both : (a b : Bool) → (a && b) ≡ true → (a ≡ true) × (b ≡ true)
both true b h = (refl, h)
both false b h = absurd (true≢false (sym h))

pub neither : (a b : Bool) → (a ≡ true → b ≡ true → ⊥) → (a && b) ≡ false
neither true true h = absurd (h refl refl)
neither true false h = refl
neither false b h = refl

pub own-session : (s k : ℕ) (t : Tag) → is_of s k t ≡ true → t.session ≡ s
own-session s k t h = eqb-true t.session s (both (t.session == s) (line_of t == k) h).0

pub own-line : (s k : ℕ) (t : Tag) → is_of s k t ≡ true → line_of t ≡ k
own-line s k t h = eqb-true (line_of t) k (both (t.session == s) (line_of t == k) h).1

pub not-own : (s k : ℕ) (t : Tag) → (t.session ≡ s → line_of t ≡ k → ⊥) → is_of s k t ≡ false
not-own s k t h = neither (t.session == s) (line_of t == k) (λ e f. h (eqb-true t.session s e) (eqb-true (line_of t) k f))

-- a label keeps its first number where another is added
pub first-kept : (l : List ℕ) (w : ℕ) → 0 < length l → get_or (l ++ w ∷ []) 0 0 ≡ get_or l 0 0
first-kept [] w some = absurd (omega arith)
first-kept (m ∷ l) w some = refl

below_or_from : (m n : ℕ) → (m < n) ⊎ ((i : ℕ) × (m ≡ n + i))
below_or_from m n = go (order3 m n)
  where
    order3 : (m n : ℕ) → (m < n) ⊎ (n ≤ m)
    order3 m n = grind arith

    go : (m < n) ⊎ (n ≤ m) → (m < n) ⊎ ((i : ℕ) × (m ≡ n + i))
    go (inl lt) = inl lt
    go (inr ge) = inr (m - n, omega (arith, ge))

-- the link of a place among those of a longer list
link-front : (links : List Link) (more : List Link) (m : ℕ) → m < length links → link_at (links ++ more) m ≡ link_at links m
link-front links more m lt = get_or-append links more no_link m lt

link-last : (links : List Link) (link : Link) → link_at (links ++ link ∷ []) (length links) ≡ link
link-last [] link = refl
link-last (l ∷ links) link = link-last links link

entry-last : (A : List Entry) (e : Entry) → get_or (A ++ e ∷ []) (length A) no_entry ≡ e
entry-last [] e = refl
entry-last (x ∷ A) e = entry-last A e

-- ---- a line is admitted

module _ (x : State) (r : IsReached x) (s o u : ℕ) (w : Work) (above : (session_at x s).last < o) where
  abbrev line : Entry
  line = Line s o u w

  abbrev longer : List Entry
  longer = x.order ++ line ∷ []

  pub tag-new : tag longer (length x.order) ≡ record { session = s; label = o ∷ [] }
  tag-new = tag-line longer (length x.order) s o u w (entry-last x.order line)

  pub length-longer : length longer ≡ suc (length x.order)
  length-longer = omega (arith, length-append x.order (line ∷ []))

  -- no place has the new line's ordinal
  pub none-yet : places_with x.order (is_of s o) (length x.order) ≡ []
  none-yet =
      ap (places_with x.order (is_of s o)) (omega arith)
      ∙ skips x.order (is_of s o) 0 (length x.order)
      (λ i lt. ap (λ j. is_of s o (tag x.order j)) (omega arith) ∙ not-own s o (tag x.order i)
      (λ e f. let h : IsTagOf x (tag x.order i) = tag-known x r i lt in let most : line_of (tag x.order i) ≤ (session_at x s).last = subst (λ t. line_of (tag x.order i) ≤ (session_at x t).last) e h.most in omega (arith, most, above, f)))

  -- what a line of another ordinal has stays
  pub families-stay : (t k : ℕ) → (s ≡ t → o ≡ k → ⊥) → family longer t k ≡ family x.order t k
  families-stay t k other =
      ap (places_with longer (is_of t k)) (length-longer ∙ omega arith)
      ∙ skips longer (is_of t k) (length x.order) 1
      (λ i lt. ap (λ j. is_of t k (tag longer j)) (omega (arith, lt)) ∙ ap (is_of t k) tag-new ∙ not-own t k (record { session = s; label = o ∷ [] }) other)
      ∙ places-grown x.order (line ∷ []) (is_of t k) (length x.order) (omega arith)

  -- the new line stands alone
  pub family-new : family longer s o ≡ length x.order ∷ []
  family-new =
      ap (places_with longer (is_of s o)) length-longer
      ∙ ap (λ b. cond b (put_place longer (length x.order) (places_with longer (is_of s o) (length x.order))) (places_with longer (is_of s o) (length x.order))) mine
      ∙ ap (put_place longer (length x.order)) (places-grown x.order (line ∷ []) (is_of s o) (length x.order) (omega arith) ∙ none-yet)
    where
      same : (a b : Bool) → a ≡ true → b ≡ true → (a && b) ≡ true
      same true true e f = refl
      same true false e f = f
      same false b e f = e

      mine : is_of s o (tag longer (length x.order)) ≡ true
      mine = ap (is_of s o) tag-new ∙ same (s == s) (o == o) (eq-eqb s s refl) (eq-eqb o o refl)

  module _ (links : List Link) (are : AreLinks x.order links) (link : Link) (session-is : link.session ≡ s) (next-is : link.next ≡ None) where
    abbrev linked : List Link
    linked = links ++ link ∷ []

    link-old : (m : ℕ) → m < length x.order → link_at linked m ≡ link_at links m
    link-old m lt = link-front links (link ∷ []) m (omega (arith, lt, are.as_many))

    link-new : link_at linked (length x.order) ≡ link
    link-new = ap (link_at linked) (sym are.as_many) ∙ link-last links link

    sessions : (m : ℕ) → m < length longer → (m < length x.order) ⊎ ((i : ℕ) × (m ≡ length x.order + i)) → (link_at linked m).session ≡ (tag longer m).session
    sessions m lt (inl old) =
        ap (λ (l : Link). l.session) (link-old m old) ∙ are.session m old ∙ sym (ap (λ (t : Tag). t.session) (tag-grown x.order (line ∷ []) m old))
    sessions m lt (inr at) =
        let e : m ≡ length x.order = omega (arith, lt, length-longer, at.1) in
        ap (λ j. (link_at linked j).session) e ∙ ap (λ (l : Link). l.session) link-new ∙ session-is
        ∙ sym (ap (λ (t : Tag). t.session) (ap (tag longer) e ∙ tag-new))

    lines : (n t k v : ℕ) (z : Work) → (n < length longer) × (get_or longer n no_entry ≡ Line t k v z) → (n < length x.order) ⊎ ((i : ℕ) × (n ≡ length x.order + i)) → Leads (next_in linked) (Some n) (family longer t k)
    lines n t k v z h (inl old) =
        let e : get_or x.order n no_entry ≡ Line t k v z = sym (get_or-append x.order (line ∷ []) no_entry n old) ∙ h.1 in
        let at : slice_get x.order n ≡ Some (Line t k v z) = get-some x.order n old ∙ ap Some e in
        let known : (t < length x.sessions) × (k ≤ (session_at x t).last) = (lawful x r).numbered n t k v z at in
        subst (Leads (next_in linked) (Some n))
        (sym (families-stay t k (λ a b. let most : k ≤ (session_at x s).last = subst (λ y. k ≤ (session_at x y).last) (sym a) known.1 in omega (arith, most, above, b))))
        (leads-same (next_in links) (next_in linked) (Some n) (family x.order t k)
        (each-as (IsMember x.order (is_of t k) (length x.order)) (λ m. next_in linked m ≡ next_in links m) (family x.order t k) (λ m member. ap (λ (l : Link). l.next) (link-old m member.0)) (are-members x.order (is_of t k) (length x.order)))
        (are.families n t k v z at))
    lines n t k v z h (inr at) = go at.0 at.1 (omega (arith, h.0, length-longer, at.1))
      where
        at_end : n ≡ length x.order → Leads (next_in linked) (Some n) (family longer t k)
        at_end e =
            let same : Line s o u w ≡ Line t k v z = sym (ap (λ j. get_or longer j no_entry) e ∙ entry-last x.order line) ∙ h.1 in
            let one : s ≡ t = cc in
            let two : o ≡ k = cc in
            subst (λ l. Leads (next_in linked) (Some n) l) (sym family-new ∙ ap (λ a. family longer a o) one ∙ ap (family longer t) two)
            (ap Some e, ap (next_in linked) refl ∙ ap (λ (l : Link). l.next) link-new ∙ next-is)

        go : (i : ℕ) → n ≡ length x.order + i → n ≡ length x.order → Leads (next_in linked) (Some n) (family longer t k)
        go i e f = at_end f

    pub links-admitted : AreLinks longer linked
    links-admitted = record {
      as_many = omega (arith, length-append links (link ∷ []), length-longer, are.as_many);
      session = λ m lt. sessions m lt (below_or_from m (length x.order));
      families = λ n t k v z h. lines n t k v z (some-get longer n (Line t k v z) h) (below_or_from n (length x.order));
    }

-- ---- children enter

module _ (x : State) (r : IsReached x) (n : ℕ) (running : runs x n ≡ true) where
  abbrev pub spawned : List ℕ
  spawned = children (past_at x n).effects

  abbrev kids : List Entry
  kids = child_entries n 1 spawned

  abbrev grown : List Entry
  grown = x.order ++ kids

  abbrev top : ℕ
  top = length x.order

  pub there : n < length x.order
  there = within x (sound-reached x r) n running

  unended : has_ended x n ≡ false
  unended = running_is_not_over (phase_at x n) running

  pub length-grown : length grown ≡ length x.order + length spawned
  length-grown = length-append x.order kids ∙ ap (λ k. length x.order + k) (length-child_entries n 1 spawned)

  entry-kid : (i : ℕ) → i < length spawned → get_or grown (top + i) no_entry ≡ Child n (1 + i)
  entry-kid i lt = (some-get grown (top + i) (Child n (1 + i)) (get-back x.order kids i ∙ child-get n 1 spawned i lt)).1

  pub tag-kid : (i : ℕ) → i < length spawned → tag grown (top + i) ≡ record { session = (tag x.order n).session; label = (tag x.order n).label ++ (1 + i) ∷ [] }
  tag-kid i lt =
      tag-child grown (top + i) n (1 + i) (omega (arith, there)) (entry-kid i lt)
      ∙ ap (λ (t : Tag). record { session = t.session; label = t.label ++ (1 + i) ∷ [] }) (tag-grown x.order kids n there)

  pub no-line : (i : ℕ) (t k v : ℕ) (z : Work) → i < length spawned → get_or grown (top + i) no_entry ≡ Line t k v z → ⊥
  no-line i t k v z lt e = let both_ways : Child n (1 + i) ≡ Line t k v z = sym (entry-kid i lt) ∙ e in absurd (cc)

  -- a test that passes the place's line passes its children
  kid-own : (t k : ℕ) → (i : ℕ) → i < length spawned → is_of t k (tag grown (top + i)) ≡ is_of t k (tag x.order n)
  kid-own t k i lt =
      ap (is_of t k) (tag-kid i lt)
      ∙ ap (λ j. ((tag x.order n).session == t) && (j == k)) (first-kept (tag x.order n).label (1 + i) (tag-known x r n there).some)

  module _ (t k : ℕ) (mine : is_of t k (tag x.order n) ≡ true) where
    abbrev test : Tag → Bool
    test = is_of t k

    pub at : IsFound x.order n (places_with x.order test top)
    at = found x.order test n top there mine

    members : Each (IsMember x.order test top) (at.before ++ n ∷ at.behind)
    members = subst (Each (IsMember x.order test top)) at.is (are-members x.order test top)

    ordered : InOrder x.order (at.before ++ n ∷ at.behind)
    ordered = subst (InOrder x.order) at.is (are-ordered x.order test top)

    -- the label of a place that was there
    old-label : (m : ℕ) → m < top → (tag grown m).label ≡ (tag x.order m).label
    old-label m lt = ap (λ (t : Tag). t.label) (tag-grown x.order kids m lt)

    new-label : (i : ℕ) → i < length spawned → (tag grown (top + i)).label ≡ (tag x.order n).label ++ (1 + i) ∷ []
    new-label i lt = ap (λ (t : Tag). t.label) (tag-kid i lt)

    module _ (i : ℕ) (lt : i < length spawned) where
      abbrev Passed : ℕ → Type 0
      Passed q = is_before (tag grown (top + i)).label (tag grown q).label ≡ false

      abbrev Ahead : ℕ → Type 0
      Ahead q = is_before (tag grown (top + i)).label (tag grown q).label ≡ true

      labels : (m : ℕ) → m < top → (l : List ℕ) → (tag x.order m).label ≡ l → (b : Bool) → is_before ((tag x.order n).label ++ (1 + i) ∷ []) l ≡ b → is_before (tag grown (top + i)).label (tag grown m).label ≡ b
      labels m lt' l e b h =
          ap (λ a. is_before a (tag grown m).label) (new-label i lt) ∙ ap (is_before ((tag x.order n).label ++ (1 + i) ∷ [])) (old-label m lt' ∙ e) ∙ h

      passes-before : Each Passed at.before
      passes-before =
          each-both (IsMember x.order test top) (λ a. is_before (tag x.order n).label (tag x.order a).label ≡ false) Passed at.before
          (λ m member h. labels m member.0 (tag x.order m).label refl false (before-longer (tag x.order n).label ((1 + i) ∷ []) (tag x.order m).label h))
          (each-front (IsMember x.order test top) at.before (n ∷ at.behind) members) (order-front x.order n at.before at.behind ordered)

      passes-row : Each Passed (row top i)
      passes-row =
          row-each Passed top i
          (λ j less. ap (λ a. is_before a (tag grown (top + j)).label) (new-label i lt) ∙ ap (is_before ((tag x.order n).label ++ (1 + i) ∷ [])) (new-label j (omega (arith, less, lt)))
          ∙ before-children (tag x.order n).label (1 + j) (1 + i) (omega (arith, less)))

      passes : Each Passed (at.before ++ n ∷ row top i)
      passes =
          each-join Passed at.before (n ∷ row top i) passes-before
          (labels n there (tag x.order n).label refl false (before-itself (tag x.order n).label ((1 + i) ∷ [])), passes-row)

      stays-ahead : Each Ahead at.behind
      stays-ahead =
          each-both (λ m. IsMember x.order test top m × (m ≢ n)) (λ q. is_before (tag x.order q).label (tag x.order n).label ≡ false) Ahead at.behind
          (λ m h e. labels m h.0.0 (tag x.order m).label refl true
          (before-beside (tag x.order n).label ((1 + i) ∷ []) (tag x.order m).label e
          (λ rest f. h.1 (no_further x r n there unended m h.0.0 (own-session t k (tag x.order m) h.0.1 ∙ sym (own-session t k (tag x.order n) mine)) rest f))))
          (each-both (IsMember x.order test top) (λ m. m ≢ n) (λ m. IsMember x.order test top m × (m ≢ n)) at.behind (λ m a b. (a, b))
          (each-back (IsMember x.order test top) at.before (n ∷ at.behind) members).1 at.none_behind)
          (order-back x.order n at.before at.behind ordered)

      put-kid : put_place grown (top + i) (at.before ++ n ∷ (row top i ++ at.behind)) ≡ at.before ++ n ∷ (row top (suc i) ++ at.behind)
      put-kid =
          ap (put_place grown (top + i)) (sym (append_assoc at.before (n ∷ row top i) at.behind))
          ∙ put-past grown (top + i) (at.before ++ n ∷ row top i) at.behind passes
          ∙ ap (λ l. (at.before ++ n ∷ row top i) ++ l) (put-here grown (top + i) at.behind stays-ahead)
          ∙ append_assoc at.before (n ∷ row top i) ((top + i) ∷ at.behind)
          ∙ ap (λ l. at.before ++ n ∷ l) (sym (append_assoc (row top i) ((top + i) ∷ []) at.behind) ∙ ap (λ l. l ++ at.behind) (sym (row-end top i)))

    pub enters : (i : ℕ) → i ≤ length spawned → places_with grown test (top + i) ≡ at.before ++ n ∷ (row top i ++ at.behind)
    enters zero le = ap (places_with grown test) (omega arith) ∙ places-grown x.order kids test top (omega arith) ∙ at.is
    enters (suc i) le =
        let e : top + suc i ≡ suc (top + i) = omega arith in
        ap (places_with grown test) e
        ∙ ap (λ b. cond b (put_place grown (top + i) (places_with grown test (top + i))) (places_with grown test (top + i))) (kid-own t k i le ∙ mine)
        ∙ ap (put_place grown (top + i)) (enters i (omega (arith, le))) ∙ put-kid i le

    pub family-grown : family grown t k ≡ at.before ++ n ∷ (row top (length spawned) ++ at.behind)
    family-grown = ap (places_with grown test) length-grown ∙ enters (length spawned) (omega arith)

  -- what another line has stays
  pub family-stays : (t k : ℕ) → is_of t k (tag x.order n) ≡ false → family grown t k ≡ family x.order t k
  family-stays t k other =
      ap (places_with grown (is_of t k)) length-grown
      ∙ skips grown (is_of t k) top (length spawned) (λ i lt. kid-own t k i lt ∙ other)
      ∙ places-grown x.order kids (is_of t k) top (omega arith)

  module _ (links : List Link) (are : AreLinks x.order links) (after : List Link) (has : HaveEntered links n (length spawned) after) where
    old-link : (m : ℕ) → m < top → m ≢ n → link_at after m ≡ link_at links m
    old-link m lt other = has.others m (omega (arith, lt, are.as_many)) other

    new-link : (i : ℕ) → i < length spawned → link_at after (top + i) ≡ record { session = (link_at links n).session; next = lead_to (top + i + 1) (length spawned - i - 1) (next_in links n); earlier = None }
    new-link i lt =
        ap (λ j. link_at after (j + i)) (sym are.as_many) ∙ has.entered i lt
        ∙ ap (λ j. record { session = (link_at links n).session; next = lead_to (j + i + 1) (length spawned - i - 1) (next_in links n); earlier = None }) are.as_many

    sessions-after : (m : ℕ) → m < length grown → (m < top) ⊎ ((i : ℕ) × (m ≡ top + i)) → (link_at after m).session ≡ (tag grown m).session
    sessions-after m lt (inl old) = go (eqb_tells m n) ∙ are.session m old ∙ sym (ap (λ (t : Tag). t.session) (tag-grown x.order kids m old))
      where
        go : (((m == n) ≡ true) × (m ≡ n)) ⊎ (((m == n) ≡ false) × (m ≡ n → ⊥)) → (link_at after m).session ≡ (link_at links m).session
        go (inl e) = ap (λ j. (link_at after j).session) e.1 ∙ ap (λ (l : Link). l.session) has.parent ∙ sym (ap (λ j. (link_at links j).session) e.1)
        go (inr e) = ap (λ (l : Link). l.session) (old-link m old e.1)
    sessions-after m lt (inr at_) =
        let less : at_.0 < length spawned = omega (arith, lt, length-grown, at_.1) in
        ap (λ j. (link_at after j).session) at_.1 ∙ ap (λ (l : Link). l.session) (new-link at_.0 less) ∙ are.session n there
        ∙ sym (ap (λ (t : Tag). t.session) (ap (tag grown) at_.1 ∙ tag-kid at_.0 less))

    same-next : (m : ℕ) → m < top → m ≢ n → next_in after m ≡ next_in links m
    same-next m lt other = ap (λ (l : Link). l.next) (old-link m lt other)

    leads : (p t k : ℕ) → Leads (next_in links) (Some p) (family x.order t k) → (b : Bool) → is_of t k (tag x.order n) ≡ b → Leads (next_in after) (Some p) (family grown t k)
    leads p t k l true is =
        subst (Leads (next_in after) (Some p)) (sym (family-grown t k is))
        (leads-entered (next_in links) (next_in after) n top (length spawned) (Some p) (at t k is).before (at t k is).behind
        (subst (Leads (next_in links) (Some p)) (at t k is).is l)
        (each-both (IsMember x.order (is_of t k) top) (λ m. m ≢ n) (λ m. next_in after m ≡ next_in links m) (at t k is).before (λ m h other. same-next m h.0 other)
        (each-front (IsMember x.order (is_of t k) top) (at t k is).before (n ∷ (at t k is).behind) (members t k is)) (at t k is).none_before)
        (each-both (IsMember x.order (is_of t k) top) (λ m. m ≢ n) (λ m. next_in after m ≡ next_in links m) (at t k is).behind (λ m h other. same-next m h.0 other)
        (each-back (IsMember x.order (is_of t k) top) (at t k is).before (n ∷ (at t k is).behind) (members t k is)).1 (at t k is).none_behind)
        (ap (λ (l : Link). l.next) has.parent ∙ ap (λ j. lead_to j (length spawned) (next_in links n)) are.as_many)
        (λ i lt. ap (λ (l : Link). l.next) (new-link i lt)))
    leads p t k l false is =
        subst (Leads (next_in after) (Some p)) (sym (family-stays t k is))
        (leads-same (next_in links) (next_in after) (Some p) (family x.order t k)
        (each-as (IsMember x.order (is_of t k) top) (λ m. next_in after m ≡ next_in links m) (family x.order t k)
        (λ m h. same-next m h.0 (λ e. true≢false (sym h.1 ∙ ap (λ j. is_of t k (tag x.order j)) e ∙ is)))
        (are-members x.order (is_of t k) top))
        l)

    lines-after : (p t k v : ℕ) (z : Work) → (p < length grown) × (get_or grown p no_entry ≡ Line t k v z) → (p < top) ⊎ ((i : ℕ) × (p ≡ top + i)) → Leads (next_in after) (Some p) (family grown t k)
    lines-after p t k v z h (inl old) =
        let e : get_or x.order p no_entry ≡ Line t k v z = sym (get_or-append x.order kids no_entry p old) ∙ h.1 in
        leads p t k (are.families p t k v z (get-some x.order p old ∙ ap Some e)) (is_of t k (tag x.order n)) refl
    lines-after p t k v z h (inr at_) =
        absurd (no-line at_.0 t k v z (omega (arith, h.0, length-grown, at_.1)) (ap (λ j. get_or grown j no_entry) (sym at_.1) ∙ h.1))

    pub links-grown : AreLinks grown after
    links-grown = record {
      as_many = omega (arith, has.as_many, length-grown, are.as_many);
      session = λ m lt. sessions-after m lt (below_or_from m top);
      families = λ p t k v z h. lines-after p t k v z (some-get grown p (Line t k v z) h) (below_or_from p top);
    }
