-- Tags of the places of an order.
use Rattle.std.proofs.Common.{◌≡◌, ℕ, zero, suc, ◌<◌, ◌≤◌, true, false, cond, ◌==◌, List, [], ◌∷◌, ◌++◌, length, get_or, refl, sym, ap, subst, ◌∙◌, arith, true≢false, append_assoc, append-nil, inl, inr, ◌⊎◌, length-append}
use Rattle.std.specs.Prelude.{Some, slice_get}
use Rattle.std.proofs.Math.ListN.{get_or-append}
use Rattle.std.proofs.lemmas.Bool.Decides.{eqb_tells}
use Rattle.bl_work.specs.declared.work.Work.{Work}
use Rattle.bl_order.specs.Headline.{IsReached}
use Rattle.bl_order.specs.Labels.{Tag, tag, tag_of, tag_at, tags_to}
use Rattle.bl_order.specs.Machine.{State, has_ended, session_at, start}
use Rattle.bl_order.specs.Order.{Entry, Line, Child}
use Rattle.bl_order.specs.Past.{no_entry}
use Rattle.bl_order.proofs.Lawful.{IsLawful, lawful-trail, lawful-start}
use Rattle.bl_order.proofs.Reached.{sound-reached}
use Rattle.bl_order.proofs.Sound.{IsSound, HasParent}
use Rattle.bl_order.proofs.Trails.{sound-start}
use Rattle.bl_hall.proofs.Labels.{three_ways, same_ends, split_end}

length-tags : (A : List Entry) (n : ℕ) → length (tags_to A n) ≡ n
length-tags A zero = refl
length-tags A (suc n) = ap suc (length-tags A n)

tags-grown : (A more : List Entry) (n : ℕ) → n ≤ length A → tags_to (A ++ more) n ≡ tags_to A n
tags-grown A more zero le = refl
tags-grown A more (suc n) le =
    ap (λ e. tag_of (tags_to (A ++ more) n) e ∷ tags_to (A ++ more) n) (get_or-append A more no_entry n le)
    ∙ ap (λ h. tag_of h (get_or A n no_entry) ∷ h) (tags-grown A more n (omega arith))

-- the tags of an order that grows at its end
pub tag-grown : (A more : List Entry) (n : ℕ) → n < length A → tag (A ++ more) n ≡ tag A n
tag-grown A more n lt =
    ap (λ e. tag_of (tags_to (A ++ more) n) e) (get_or-append A more no_entry n lt)
    ∙ ap (λ h. tag_of h (get_or A n no_entry)) (tags-grown A more n (omega arith))

-- the tag of a place among those before a later one
tag-before : (A : List Entry) (n k : ℕ) → k < n → tag_at (tags_to A n) k ≡ tag A k
tag-before A zero k lt = absurd (omega arith)
tag-before A (suc n) k lt = go (eqb_tells k (length (tags_to A n))) (tag-before A n k)
  where
    h : List Tag
    h = tags_to A n

    go : (((k == length h) ≡ true) × (k ≡ length h)) ⊎ (((k == length h) ≡ false) × (k ≡ length h → ⊥)) → (k < n → tag_at h k ≡ tag A k) → cond (k == length h) (tag A n) (tag_at h k) ≡ tag A k
    go (inl t) deeper = ap (λ b. cond b (tag A n) (tag_at h k)) t.0 ∙ ap (tag A) (sym (t.1 ∙ length-tags A n))
    go (inr t) deeper = ap (λ b. cond b (tag A n) (tag_at h k)) t.0 ∙ deeper (omega (arith, length-tags A n))

pub tag-line : (A : List Entry) (n s k u : ℕ) (w : Work) → get_or A n no_entry ≡ Line s k u w → tag A n ≡ record { session = s; label = k ∷ [] }
tag-line A n s k u w e = ap (tag_of (tags_to A n)) e

pub tag-child : (A : List Entry) (n p w : ℕ) → p < n → get_or A n no_entry ≡ Child p w → tag A n ≡ record { session = (tag A p).session; label = (tag A p).label ++ w ∷ [] }
tag-child A n p w lt e =
    ap (tag_of (tags_to A n)) e ∙ ap (λ (t : Tag). record { session = t.session; label = t.label ++ w ∷ [] }) (tag-before A n p lt)

pub get-some : (xs : List Entry) (n : ℕ) → n < length xs → slice_get xs n ≡ Some (get_or xs n no_entry)
get-some [] n lt = absurd (omega arith)
get-some (x ∷ xs) zero lt = refl
get-some (x ∷ xs) (suc n) lt = get-some xs n (omega arith)

pub some-get : (xs : List Entry) (n : ℕ) (e : Entry) → slice_get xs n ≡ Some e → (n < length xs) × (get_or xs n no_entry ≡ e)
some-get [] n e h = absurd (cc)
some-get (x ∷ xs) zero e h = (omega arith, cc)
some-get (x ∷ xs) (suc n) e h = let deeper = some-get xs n e h in (omega (arith, deeper.0), deeper.1)

-- the ordinal of the line that a place descends from
abbrev pub line_of : Tag → ℕ
line_of t = get_or t.label 0 0

-- what a tag says of its session: it is open, the ordinal is none above its last one, and the label has a number
pub record IsTagOf (x : State) (t : Tag) : Type 0 where
  pub opened : t.session < length x.sessions
  pub most : line_of t ≤ (session_at x t.session).last
  pub some : 0 < length t.label

module _ (x : State) (r : IsReached x) where
  pub lawful : IsLawful x
  lawful =
      subst IsLawful (sym r.leads) (lawful-trail (start r.setup r.limit) r.events (sound-start r.setup r.limit) (lawful-start r.setup r.limit) r.trail)

  sound : IsSound x
  sound = sound-reached x r

  -- a child's parent
  pub parent-of : (n p w : ℕ) → n < length x.order → get_or x.order n no_entry ≡ Child p w → (p < n) × (has_ended x p ≡ true)
  parent-of n p w lt e = let parent : HasParent (has_ended x) n (Child p w) = subst (HasParent (has_ended x) n) e (sound.parents n lt) in (parent.0, parent.1)

  tags-below : (b n : ℕ) → n < b → n < length x.order → IsTagOf x (tag x.order n)
  tags-below zero n lt there = absurd (omega arith)
  tags-below (suc b) n lt there = go (get_or x.order n no_entry) refl (tags-below b)
    where
      longer : (l : List ℕ) (w : ℕ) → 0 < length l → get_or (l ++ w ∷ []) 0 0 ≡ get_or l 0 0
      longer [] w some = absurd (omega arith)
      longer (m ∷ l) w some = refl

      go : (e : Entry) → get_or x.order n no_entry ≡ e → ((p : ℕ) → p < b → p < length x.order → IsTagOf x (tag x.order p)) → IsTagOf x (tag x.order n)
      go (Line s k u w) e deeper =
          let h : (s < length x.sessions) × (k ≤ (session_at x s).last) = lawful.numbered n s k u w (get-some x.order n there ∙ ap Some e) in
          subst (IsTagOf x) (sym (tag-line x.order n s k u w e)) (record { opened = h.0; most = h.1; some = omega arith })
      go (Child p w) e deeper =
          let parent : (p < n) × (has_ended x p ≡ true) = parent-of n p w there e in
          let h : IsTagOf x (tag x.order p) = deeper p (omega (arith, parent.0)) (omega (arith, parent.0)) in
          subst (IsTagOf x) (sym (tag-child x.order n p w parent.0 e)) (record {
            opened = h.opened;
            most = subst (λ k. k ≤ (session_at x (tag x.order p).session).last) (sym (longer (tag x.order p).label w h.some)) h.most;
            some = omega (arith, length-append (tag x.order p).label (w ∷ []));
          })

  pub tag-known : (n : ℕ) → n < length x.order → IsTagOf x (tag x.order n)
  tag-known n there = tags-below (suc n) n (omega arith) there

  abbrev label : ℕ → List ℕ
  label n = (tag x.order n).label

  abbrev session : ℕ → ℕ
  session n = (tag x.order n).session

  -- a label of a line is not that of a child
  not_both : (m n s k u p v : ℕ) (w : Work) → m < length x.order → n < length x.order → get_or x.order m no_entry ≡ Line s k u w → get_or x.order n no_entry ≡ Child p v → label m ≡ label n → ⊥
  not_both m n s k u p v w lt lt' e f same =
      let parent = parent-of n p v lt' f in
      let h : IsTagOf x (tag x.order p) = tag-known p (omega (arith, parent.0, lt')) in
      omega (arith, h.some, length-append (label p) (v ∷ []), ap length (sym (ap (λ (t : Tag). t.label) (tag-line x.order m s k u w e)) ∙ same ∙ ap (λ (t : Tag). t.label) (tag-child x.order n p v parent.0 f)))

  -- no two lines of a session have one ordinal
  one_line : (m n s k u v : ℕ) (w z : Work) → m < length x.order → n < length x.order → get_or x.order m no_entry ≡ Line s k u w → get_or x.order n no_entry ≡ Line s k v z → m ≡ n
  one_line m n s k u v w z lt lt' e f = go (three_ways m n)
    where
      at : slice_get x.order m ≡ Some (Line s k u w)
      at = get-some x.order m lt ∙ ap Some e

      at' : slice_get x.order n ≡ Some (Line s k v z)
      at' = get-some x.order n lt' ∙ ap Some f

      go : (m < n) ⊎ ((m ≡ n) ⊎ (n < m)) → m ≡ n
      go (inl less) = absurd (omega (arith, lawful.legal.rising m n s k k u v w z less at at'))
      go (inr (inl same)) = same
      go (inr (inr more)) = absurd (omega (arith, lawful.legal.rising n m s k k v u z w more at' at))

  same-below : (b m n : ℕ) → m < b → m < length x.order → n < length x.order → session m ≡ session n → label m ≡ label n → m ≡ n
  same-below zero m n lt there there' ss ll = absurd (omega arith)
  same-below (suc b) m n lt there there' ss ll = go (get_or x.order m no_entry) (get_or x.order n no_entry) refl refl (same-below b)
    where
      go : (e f : Entry) → get_or x.order m no_entry ≡ e → get_or x.order n no_entry ≡ f
          → ((p q : ℕ) → p < b → p < length x.order → q < length x.order → session p ≡ session q → label p ≡ label q → p ≡ q) → m ≡ n
      go (Line s k u w) (Line t l v z) e f deeper =
          let here = tag-line x.order m s k u w e in
          let over = tag-line x.order n t l v z f in
          let ones : s ≡ t = sym (ap (λ (t : Tag). t.session) here) ∙ ss ∙ ap (λ (t : Tag). t.session) over in
          let numbers : k ≡ l = ap (λ a. get_or a 0 0) (sym (ap (λ (t : Tag). t.label) here) ∙ ll ∙ ap (λ (t : Tag). t.label) over) in
          one_line m n s k u v w z there there' e (f ∙ ap (λ a. Line a l v z) (sym ones) ∙ ap (λ a. Line s a v z) (sym numbers))
      go (Line s k u w) (Child q v) e f deeper = absurd (not_both m n s k u q v w there there' e f ll)
      go (Child p w) (Line t l v z) e f deeper = absurd (not_both n m t l v p w z there' there f e (sym ll))
      go (Child p w) (Child q v) e f deeper =
          let parent = parent-of m p w there e in
          let parent' = parent-of n q v there' f in
          let here = tag-child x.order m p w parent.0 e in
          let back = tag-child x.order n q v parent'.0 f in
          let ends : (label p ≡ label q) × (w ≡ v) =
          same_ends (label p) (label q) w v (sym (ap (λ (t : Tag). t.label) here) ∙ ll ∙ ap (λ (t : Tag). t.label) back)
          in
          let one : p ≡ q =
          deeper p q (omega (arith, parent.0)) (omega (arith, parent.0)) (omega (arith, parent'.0))
          (sym (ap (λ (t : Tag). t.session) here) ∙ ss ∙ ap (λ (t : Tag). t.session) back) ends.0
          in
          lawful.legal.once m n p w (get-some x.order m there ∙ ap Some e)
          (get-some x.order n there' ∙ ap Some (f ∙ ap (λ a. Child a v) (sym one) ∙ ap (Child p) (sym ends.1)))

  -- no two places of a session have one label
  pub same-place : (m n : ℕ) → m < length x.order → n < length x.order → session m ≡ session n → label m ≡ label n → m ≡ n
  same-place m n lt lt' ss ll = same-below (suc m) m n (omega arith) lt lt' ss ll

  module _ (n : ℕ) (there : n < length x.order) (unended : has_ended x n ≡ false) where
    below : (b m : ℕ) → m < b → m < length x.order → session m ≡ session n → (rest : List ℕ) → label m ≡ label n ++ rest → m ≡ n
    below zero m lt here ss rest e = absurd (omega arith)
    below (suc b) m lt here ss [] e = same-place m n here there ss (e ∙ append-nil (label n))
    below (suc b) m lt here ss (r ∷ rest) e = go (get_or x.order m no_entry) refl (below b)
      where
        go : (f : Entry) → get_or x.order m no_entry ≡ f
            → ((p : ℕ) → p < b → p < length x.order → session p ≡ session n → (l : List ℕ) → label p ≡ label n ++ l → p ≡ n) → m ≡ n
        go (Line s k u w) f deeper =
            let h : IsTagOf x (tag x.order n) = tag-known n there in
            absurd (omega (arith, h.some, length-append (label n) (r ∷ rest), ap length (sym (ap (λ (t : Tag). t.label) (tag-line x.order m s k u w f)) ∙ e)))
        go (Child p w) f deeper =
            let parent = parent-of m p w here f in
            let at = tag-child x.order m p w parent.0 f in
            let split = split_end r rest in
            let ends : (label p ≡ label n ++ split.0) × (w ≡ split.1) =
            same_ends (label p) (label n ++ split.0) w split.1
            (sym (ap (λ (t : Tag). t.label) at) ∙ e ∙ ap (λ l. label n ++ l) split.2 ∙ sym (append_assoc (label n) split.0 (split.1 ∷ [])))
            in
            let one : p ≡ n = deeper p (omega (arith, parent.0)) (omega (arith, parent.0)) (sym (ap (λ (t : Tag). t.session) at) ∙ ss) split.0 ends.0 in
            absurd (true≢false (sym parent.1 ∙ ap (has_ended x) one ∙ unended))

    -- no label of the session goes on from that of a place that has not ended
    pub no_further : (m : ℕ) → m < length x.order → session m ≡ session n → (rest : List ℕ) → label m ≡ label n ++ rest → m ≡ n
    no_further m here ss rest e = below (suc m) m (omega arith) here ss rest e
