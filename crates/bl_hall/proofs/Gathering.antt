-- The places above an ordinal, gathered line by line.
use Rattle.std.proofs.Common.{◌≡◌, ℕ, zero, suc, ◌+◌, ◌<◌, ◌≤◌, Bool, true, false, cond, ◌&&◌, ◌||◌, ◌==◌, nat_lt, List, [], ◌∷◌, ◌++◌, length, get_or, refl, sym, ap, subst, ◌∙◌, arith, inl, inr, ◌⊎◌, true≢false, lt-ltb, le-ltb, ltb-true, eq-eqb, ne_eqb, eqb-true}
use Rattle.std.specs.Prelude.{All, Some}
use Rattle.std.proofs.lemmas.List.Elements.{All-head, All-tail}
use Rattle.bl_work.specs.declared.work.Work.{Work}
use Rattle.bl_order.specs.Headline.{IsReached}
use Rattle.bl_order.specs.Labels.{Tag, tag, is_before, is_of}
use Rattle.bl_order.specs.Machine.{State, session_at}
use Rattle.bl_order.specs.Order.{Entry, Line, Child}
use Rattle.bl_order.specs.Past.{no_entry}
use Rattle.bl_hall.specs.declared.link.Link.{Link}
use Rattle.bl_hall.specs.Keeps.{AreLinks}
use Rattle.bl_hall.specs.Linked.{AreGathered, AreLinesAbove, HasFamily, family, is_line_of, line_ordinal, lines_below, next_in, ordinal_in, put_place, places_with}
use Rattle.bl_hall.specs.Told.{is_above}
use Rattle.bl_hall.proofs.Entering.{both, neither, own-line, first-kept}
use Rattle.bl_hall.proofs.Labels.{before-once, three_ways}
use Rattle.bl_hall.proofs.Lines.{before-heads}
use Rattle.bl_hall.proofs.Leading.{one-way}
use Rattle.bl_hall.proofs.Ordered.{Each, each-all, each-as, each-front, IsMember, are-members, skips, put-past, put-here}
use Rattle.bl_hall.proofs.Tags.{IsTagOf, get-some, lawful, line_of, parent-of, tag-child, tag-known, tag-line}

-- ---- places by tests of their tags

module _ (order : List Entry) where
  abbrev label : ℕ → List ℕ
  label n = (tag order n).label

  put-front : (n : ℕ) (a b : List ℕ) → Each (λ q. is_before (label n) (label q) ≡ true) b → put_place order n (a ++ b) ≡ put_place order n a ++ b
  put-front n [] b h = put-here order n b h
  put-front n (m ∷ a) b h =
      ap (λ l. cond (is_before (label n) (label m)) (n ∷ m ∷ (a ++ b)) (m ∷ l)) (put-front n a b h) ∙ either (is_before (label n) (label m))
    where
      either : (t : Bool) → cond t (n ∷ m ∷ (a ++ b)) (m ∷ (put_place order n a ++ b)) ≡ cond t (n ∷ m ∷ a) (m ∷ put_place order n a) ++ b
      either true = refl
      either false = refl

  pub same-test : (A B : Tag → Bool) (n : ℕ) → ((m : ℕ) → m < n → A (tag order m) ≡ B (tag order m)) → places_with order A n ≡ places_with order B n
  same-test A B zero same = refl
  same-test A B (suc n) same =
      ap (λ t. cond t (put_place order n (places_with order A n)) (places_with order A n)) (same n (omega arith))
      ∙ ap (λ l. cond (B (tag order n)) (put_place order n l) l) (same-test A B n (λ m lt. same m (omega (arith, lt))))

  -- places that pass one test stand in front of those that pass another
  module _ (A B C : Tag → Bool) where
    pub split-test : (n : ℕ) → ((m : ℕ) → m < n → A (tag order m) ≡ (B (tag order m) || C (tag order m)))
        → ((m : ℕ) → m < n → B (tag order m) ≡ true → C (tag order m) ≡ true → ⊥)
        → ((m p : ℕ) → m < n → p < n → B (tag order m) ≡ true → C (tag order p) ≡ true → is_before (label m) (label p) ≡ true)
        → places_with order A n ≡ places_with order B n ++ places_with order C n
    split-test zero one other front = refl
    split-test (suc n) one other front =
        ap (λ t. cond t (put_place order n (places_with order A n)) (places_with order A n)) (one n (omega arith))
        ∙ go (B (tag order n)) (C (tag order n)) refl refl
        (split-test n (λ m lt. one m (omega (arith, lt))) (λ m lt. other m (omega (arith, lt))) (λ m p lt less. front m p (omega (arith, lt)) (omega (arith, less))))
      where
        go : (t u : Bool) → B (tag order n) ≡ t → C (tag order n) ≡ u → places_with order A n ≡ places_with order B n ++ places_with order C n
            → cond (t || u) (put_place order n (places_with order A n)) (places_with order A n)
            ≡ cond t (put_place order n (places_with order B n)) (places_with order B n) ++ cond u (put_place order n (places_with order C n)) (places_with order C n)
        go true true h k deeper = absurd (other n (omega arith) h k)
        go true false h k deeper =
            ap (put_place order n) deeper
            ∙ put-front n (places_with order B n) (places_with order C n)
            (each-as (IsMember order C n) (λ q. is_before (label n) (label q) ≡ true) (places_with order C n) (λ q member. front n q (omega arith) (omega (arith, member.0)) h member.1) (are-members order C n))
        go false true h k deeper =
            ap (put_place order n) deeper
            ∙ put-past order n (places_with order B n) (places_with order C n)
            (each-as (IsMember order B n) (λ q. is_before (label n) (label q) ≡ false) (places_with order B n)
            (λ q member. before-once (label q) (label n) (front q n (omega (arith, member.0)) (omega arith) member.1 k)) (are-members order B n))
        go false false h k deeper = deeper

  -- no more places than there are
  pub places-few : (mine : Tag → Bool) (n : ℕ) → length (places_with order mine n) ≤ n
  places-few mine zero = omega arith
  places-few mine (suc n) = go (mine (tag order n)) (places-few mine n)
    where
      longer : (ms : List ℕ) → length (put_place order n ms) ≡ suc (length ms)
      longer [] = refl
      longer (m ∷ ms) =
          elim (is_before (label n) (label m)) as (λ t. length (cond t (n ∷ m ∷ ms) (m ∷ put_place order n ms)) ≡ suc (suc (length ms))) [ true ↦ refl | false ↦ ap suc (longer ms) ]

      go : (t : Bool) → length (places_with order mine n) ≤ n → length (cond t (put_place order n (places_with order mine n)) (places_with order mine n)) ≤ suc n
      go true h = omega (arith, longer (places_with order mine n), h)
      go false h = omega (arith, h)

-- ---- the lines of a session

line-entry : (s : ℕ) (e : Entry) → is_line_of s e ≡ true → (k : ℕ) × (u : ℕ) × (w : Work) × (e ≡ Line s k u w)
line-entry s (Line t k u w) h = (k, u, w, ap (λ j. Line j k u w) (eqb-true t s h))
line-entry s (Child p w) h = absurd (true≢false (sym h))

module _ (order : List Entry) (s : ℕ) where
  pub lines-are : (b : ℕ) → Each (λ m. (m < b) × (is_line_of s (get_or order m no_entry) ≡ true)) (lines_below order s b)
  lines-are zero = tt
  lines-are (suc b) =
      go (is_line_of s (get_or order b no_entry)) refl
      (each-as (λ m. (m < b) × (is_line_of s (get_or order m no_entry) ≡ true)) (λ m. (m < suc b) × (is_line_of s (get_or order m no_entry) ≡ true)) (lines_below order s b) (λ m h. (omega (arith, h.0), h.1)) (lines-are b))
    where
      go : (t : Bool) → is_line_of s (get_or order b no_entry) ≡ t → Each (λ m. (m < suc b) × (is_line_of s (get_or order m no_entry) ≡ true)) (lines_below order s b)
          → Each (λ m. (m < suc b) × (is_line_of s (get_or order m no_entry) ≡ true)) (cond t (b ∷ lines_below order s b) (lines_below order s b))
      go true is h = ((omega arith, is), h)
      go false is h = h

  -- the first of them, and those before it
  pub top-line : (b n : ℕ) (more : List ℕ) → lines_below order s b ≡ n ∷ more → (n < b) × (more ≡ lines_below order s n) × (is_line_of s (get_or order n no_entry) ≡ true)
  top-line zero n more e = absurd (cc)
  top-line (suc b) n more e = go (is_line_of s (get_or order b no_entry)) refl (λ f. top-line b n more f) e
    where
      go : (t : Bool) → is_line_of s (get_or order b no_entry) ≡ t
          → (lines_below order s b ≡ n ∷ more → (n < b) × (more ≡ lines_below order s n) × (is_line_of s (get_or order n no_entry) ≡ true))
          → cond t (b ∷ lines_below order s b) (lines_below order s b) ≡ n ∷ more → (n < suc b) × (more ≡ lines_below order s n) × (is_line_of s (get_or order n no_entry) ≡ true)
      go true is deeper f =
          let one : b ≡ n = cc in
          let rest : lines_below order s b ≡ more = cc in
          (omega (arith, one), sym rest ∙ ap (lines_below order s) one, subst (λ j. is_line_of s (get_or order j no_entry) ≡ true) one is)
      go false is deeper f = let h = deeper f in (omega (arith, h.0), h.1, h.2)

  -- each line below b is one of them: none is above the first
  pub no-lines : (b : ℕ) → lines_below order s b ≡ [] → (m : ℕ) → m < b → is_line_of s (get_or order m no_entry) ≡ false
  no-lines zero e m lt = absurd (omega arith)
  no-lines (suc b) e m lt = go (is_line_of s (get_or order b no_entry)) refl (last m b lt) (λ f. no-lines b f m) e
    where
      last : (n b : ℕ) → n < suc b → (n ≡ b) ⊎ (n < b)
      last n b lt = grind arith

      go : (t : Bool) → is_line_of s (get_or order b no_entry) ≡ t → (m ≡ b) ⊎ (m < b) → (lines_below order s b ≡ [] → m < b → is_line_of s (get_or order m no_entry) ≡ false)
          → cond t (b ∷ lines_below order s b) (lines_below order s b) ≡ [] → is_line_of s (get_or order m no_entry) ≡ false
      go true is way deeper f = absurd (cc)
      go false is (inl same) deeper f = ap (λ j. is_line_of s (get_or order j no_entry)) same ∙ is
      go false is (inr less) deeper f = deeper f less

  pub none-higher : (b n : ℕ) (more : List ℕ) → lines_below order s b ≡ n ∷ more → (m : ℕ) → m < b → is_line_of s (get_or order m no_entry) ≡ true → m ≤ n
  none-higher zero n more e m lt is = absurd (omega arith)
  none-higher (suc b) n more e m lt is = go (is_line_of s (get_or order b no_entry)) refl (last m b lt) (λ f less. none-higher b n more f m less is) e
    where
      last : (n b : ℕ) → n < suc b → (n ≡ b) ⊎ (n < b)
      last n b lt = grind arith

      go : (t : Bool) → is_line_of s (get_or order b no_entry) ≡ t → (m ≡ b) ⊎ (m < b) → (lines_below order s b ≡ n ∷ more → m < b → m ≤ n)
          → cond t (b ∷ lines_below order s b) (lines_below order s b) ≡ n ∷ more → m ≤ n
      go true at way deeper f = let one : b ≡ n = cc in omega (arith, one, lt)
      go false at (inl same) deeper f = absurd (true≢false (sym (sym (ap (λ j. is_line_of s (get_or order j no_entry)) same) ∙ is) ∙ at))
      go false at (inr less) deeper f = deeper f less

-- ---- tests by numbers

split-numbers : (a : Bool) (v after k t : ℕ) → after < k → k < t → (a ≡ true → after < v → v < t → v ≤ k)
    → (a && (nat_lt after v && nat_lt v t)) ≡ ((a && (nat_lt after v && nat_lt v k)) || (a && (v == k)))
split-numbers false v after k t low high most = refl
split-numbers true v after k t low high most = go (three_ways v k)
  where
    with_true : (b : Bool) → (b && true) ≡ ((b && true) || false)
    with_true true = refl
    with_true false = refl

    no_more : (b c : Bool) → nat_lt after v ≡ b → nat_lt v t ≡ c → k < v → (b && c) ≡ ((b && false) || false)
    no_more true true e f gt = absurd (omega (arith, gt, most refl (ltb-true after v e) (ltb-true v t f)))
    no_more true false e f gt = refl
    no_more false c e f gt = refl

    go : (v < k) ⊎ ((v ≡ k) ⊎ (k < v)) → (nat_lt after v && nat_lt v t) ≡ ((nat_lt after v && nat_lt v k) || (v == k))
    go (inl less) =
        ap (λ b. nat_lt after v && b) (lt-ltb v t (omega (arith, less, high))) ∙ with_true (nat_lt after v)
        ∙ ap (λ b. (nat_lt after v && b) || false) (sym (lt-ltb v k less)) ∙ ap (λ b. (nat_lt after v && nat_lt v k) || b) (sym (ne_eqb v k (λ e. omega (arith, e, less))))
    go (inr (inl same)) =
        ap (λ b. b && nat_lt v t) (lt-ltb after v (omega (arith, same, low))) ∙ lt-ltb v t (omega (arith, same, high))
        ∙ sym (ap (λ b. (b && nat_lt v k) || (v == k)) (lt-ltb after v (omega (arith, same, low))) ∙ ap (λ b. b || (v == k)) (le-ltb v k (omega (arith, same))) ∙ eq-eqb v k same)
    go (inr (inr more)) =
        no_more (nat_lt after v) (nat_lt v t) refl refl more
        ∙ ap (λ b. (nat_lt after v && b) || false) (sym (le-ltb v k (omega (arith, more)))) ∙ ap (λ b. (nat_lt after v && nat_lt v k) || b) (sym (ne_eqb v k (λ e. omega (arith, e, more))))

-- ---- the lines of places

module _ (x : State) (r : IsReached x) where
  -- the line that a place descends from
  pub record HasRoot (m : ℕ) : Type 0 where
    pub place : ℕ
    pub subject : ℕ
    pub work : Work
    pub before : place ≤ m
    pub is : get_or x.order place no_entry ≡ Line (tag x.order m).session (line_of (tag x.order m)) subject work

  roots-below : (b m : ℕ) → m < b → m < length x.order → HasRoot m
  roots-below zero m lt there = absurd (omega arith)
  roots-below (suc b) m lt there = go (get_or x.order m no_entry) refl (roots-below b)
    where
      go : (e : Entry) → get_or x.order m no_entry ≡ e → ((p : ℕ) → p < b → p < length x.order → HasRoot p) → HasRoot m
      go (Line s k u w) e deeper = record {
        place = m;
        subject = u;
        work = w;
        before = omega arith;
        is = e ∙ ap (λ (t : Tag). Line t.session (line_of t) u w) (sym (tag-line x.order m s k u w e));
      }
      go (Child p w) e deeper =
          let parent = parent-of x r m p w there e in
          let root : HasRoot p = deeper p (omega (arith, parent.0)) (omega (arith, parent.0)) in
          let known : IsTagOf x (tag x.order p) = tag-known x r p (omega (arith, parent.0)) in
          record {
            place = root.place;
            subject = root.subject;
            work = root.work;
            before = omega (arith, root.before, parent.0);
            is =
                root.is ∙ ap (λ k. Line (tag x.order p).session k root.subject root.work) (sym (first-kept (tag x.order p).label w known.some))
                ∙ ap (λ (t : Tag). Line t.session (line_of t) root.subject root.work) (sym (tag-child x.order m p w parent.0 e));
          }

  root-of : (m : ℕ) → m < length x.order → HasRoot m
  root-of m lt = roots-below (suc m) m (omega arith) lt

  module _ (s after : ℕ) where
    abbrev between : ℕ → Tag → Bool
    between t tag = (tag.session == s) && (nat_lt after (line_of tag) && nat_lt (line_of tag) t)

    -- the lines below b are those with ordinals below t
    abbrev IsTop : ℕ → ℕ → Type 0
    IsTop b t = (n k u : ℕ) (w : Work) → n < length x.order → get_or x.order n no_entry ≡ Line s k u w → (n < b → k < t) × (b ≤ n → t ≤ k)

    is-line : (p k u : ℕ) (w : Work) → get_or x.order p no_entry ≡ Line s k u w → is_line_of s (get_or x.order p no_entry) ≡ true
    is-line p k u w e = ap (is_line_of s) e ∙ eq-eqb s s refl

    rises : (m n k l u v : ℕ) (w z : Work) → m < n → n < length x.order → get_or x.order m no_entry ≡ Line s k u w → get_or x.order n no_entry ≡ Line s l v z → k < l
    rises m n k l u v w z lt there e f =
        (lawful x r).legal.rising m n s k l u v w z lt (get-some x.order m (omega (arith, lt, there)) ∙ ap Some e) (get-some x.order n there ∙ ap Some f)

    -- a place of the session between two ordinals has its line below b
    root-below : (b t m : ℕ) → IsTop b t → m < length x.order → (tag x.order m).session ≡ s → line_of (tag x.order m) < t
        → (root : HasRoot m) → (root.place < b) × (get_or x.order root.place no_entry ≡ Line s (line_of (tag x.order m)) root.subject root.work)
    root-below b t m top there of less root =
        let at : get_or x.order root.place no_entry ≡ Line s (line_of (tag x.order m)) root.subject root.work =
        root.is ∙ ap (λ j. Line j (line_of (tag x.order m)) root.subject root.work) of
        in
        let place_there : root.place < length x.order = omega (arith, root.before, there) in
        let sides = top root.place (line_of (tag x.order m)) root.subject root.work place_there at in
        (below root.place b (λ ge. omega (arith, sides.1 ge, less)), at)
      where
        below : (p b : ℕ) → (b ≤ p → ⊥) → p < b
        below p b h = go (side p b)
          where
            side : (p b : ℕ) → (p < b) ⊎ (b ≤ p)
            side p b = grind arith

            go : (p < b) ⊎ (b ≤ p) → p < b
            go (inl lt) = lt
            go (inr ge) = absurd (h ge)

    module _ (links : List Link) (are : AreLinks x.order links) (upto : ℕ) (rest : (n : ℕ) (more : List ℕ) → lines_below x.order s upto ≡ n ∷ more → ordinal_in x.order n ≤ after) where
      -- where no line is left, no place is
      nothing-left : (b t : ℕ) → IsTop b t → lines_below x.order s b ≡ lines_below x.order s upto → places_with x.order (between t) (length x.order) ≡ []
      nothing-left b t top same =
          ap (places_with x.order (between t)) (zero_plus (length x.order))
          ∙ skips x.order (between t) 0 (length x.order)
          (λ i lt. ap (λ j. between t (tag x.order j)) (sym (zero_plus i)) ∙ neither ((tag x.order i).session == s) (nat_lt after (line_of (tag x.order i)) && nat_lt (line_of (tag x.order i)) t)
          (λ a bs. let parts = both (nat_lt after (line_of (tag x.order i))) (nat_lt (line_of (tag x.order i)) t) bs in
          none i lt (eqb-true (tag x.order i).session s a) (ltb-true after (line_of (tag x.order i)) parts.0) (ltb-true (line_of (tag x.order i)) t parts.1)))
        where
          zero_plus : (a : ℕ) → a ≡ 0 + a
          zero_plus a = omega arith

          none : (m : ℕ) → m < length x.order → (tag x.order m).session ≡ s → after < line_of (tag x.order m) → line_of (tag x.order m) < t → ⊥
          none m lt of low high = go (lines_below x.order s b) refl
            where
              root : HasRoot m
              root = root-of m lt

              at : (root.place < b) × (get_or x.order root.place no_entry ≡ Line s (line_of (tag x.order m)) root.subject root.work)
              at = root-below b t m top lt of high root

              line : is_line_of s (get_or x.order root.place no_entry) ≡ true
              line = is-line root.place (line_of (tag x.order m)) root.subject root.work at.1

              go : (l : List ℕ) → lines_below x.order s b ≡ l → ⊥
              go [] e = true≢false (sym line ∙ no-lines x.order s b e root.place at.0)
              go (q ∷ more) e =
                  let le : root.place ≤ q = none-higher x.order s b q more e root.place at.0 line in
                  let small : ordinal_in x.order q ≤ after = rest q more (sym same ∙ e) in
                  let first = top-line x.order s b q more e in
                  let entry = line-entry s (get_or x.order q no_entry) first.2 in
                  let ordinal : ordinal_in x.order q ≡ entry.0 = ap line_ordinal entry.3 in
                  end q le small entry.0 entry.1 entry.2 entry.3 ordinal (split root.place q le)
                where
                  split : (a b : ℕ) → a ≤ b → (a ≡ b) ⊎ (a < b)
                  split a b le = grind arith

                  end : (q : ℕ) → root.place ≤ q → ordinal_in x.order q ≤ after → (k u : ℕ) (w : Work) → get_or x.order q no_entry ≡ Line s k u w → ordinal_in x.order q ≡ k
                      → (root.place ≡ q) ⊎ (root.place < q) → ⊥
                  end q le small k u w f ordinal (inl one) =
                      let again : ordinal_in x.order q ≡ line_of (tag x.order m) = ap (λ j. ordinal_in x.order j) (sym one) ∙ ap line_ordinal at.1 in
                      omega (arith, again, small, low)
                  end q le small k u w f ordinal (inr less) =
                      let q_there : q < length x.order = line-there q k u w f in
                      omega (arith, rises root.place q (line_of (tag x.order m)) k root.subject u root.work w less q_there at.1 f, ordinal, small, low)
                    where
                      line-there : (q k u : ℕ) (w : Work) → get_or x.order q no_entry ≡ Line s k u w → q < length x.order
                      line-there q k u w f = sides q (side q (length x.order)) f
                        where
                          side : (p b : ℕ) → (p < b) ⊎ (b ≤ p)
                          side p b = grind arith

                          past_end : (xs : List Entry) (n : ℕ) → length xs ≤ n → get_or xs n no_entry ≡ no_entry
                          past_end [] n le = refl
                          past_end (y ∷ xs) zero le = absurd (omega arith)
                          past_end (y ∷ xs) (suc n) le = past_end xs n (omega arith)

                          sides : (q : ℕ) → (q < length x.order) ⊎ (length x.order ≤ q) → get_or x.order q no_entry ≡ Line s k u w → q < length x.order
                          sides q (inl lt) f = lt
                          sides q (inr ge) f = let e : no_entry ≡ Line s k u w = sym (past_end x.order q ge) ∙ f in absurd (cc)

      pub gathered : (lines : List ℕ) (b t : ℕ) (places : List ℕ) → b ≤ length x.order → IsTop b t → lines_below x.order s b ≡ lines ++ lines_below x.order s upto
          → All (λ n. after < ordinal_in x.order n) lines → AreGathered links lines places → places ≡ places_with x.order (between t) (length x.order)
      gathered [] b t places le top split above gathers = gathers ∙ sym (nothing-left b t top split)
      gathered (l ∷ lines) b t places le top split above gathers =
          let first = top-line x.order s b l (lines ++ lines_below x.order s upto) split in
          let entry = line-entry s (get_or x.order l no_entry) first.2 in
          let here : l < length x.order = omega (arith, first.0, le) in
          let low : after < ordinal_in x.order l = All-head (λ n. after < ordinal_in x.order n) l lines above in
          let k : ℕ = entry.0 in
          let is : get_or x.order l no_entry ≡ Line s k entry.1 entry.2 = entry.3 in
          let ordinal : ordinal_in x.order l ≡ k = ap line_ordinal is in
          let high : k < t = (top l k entry.1 entry.2 here is).0 first.0 in
          let front : gathers.0 ≡ places_with x.order (between k) (length x.order) =
          gathered lines l k gathers.0 (omega (arith, here)) (tops l k entry.1 entry.2 here is) (sym first.1) (All-tail (λ n. after < ordinal_in x.order n) l lines above) gathers.2
          in
          let back : gathers.1 ≡ family x.order s k =
          one-way (next_in links) (Some l) gathers.1 (family x.order s k) gathers.3 (are.families l s k entry.1 entry.2 (get-some x.order l here ∙ ap Some is))
          in
          gathers.4 ∙ ap (λ a. a ++ gathers.1) front ∙ ap (λ a. places_with x.order (between k) (length x.order) ++ a) back
          ∙ sym (split-test x.order (between t) (between k) (is_of s k) (length x.order)
          (λ m lt. split-numbers ((tag x.order m).session == s) (line_of (tag x.order m)) after k t (omega (arith, low, ordinal)) high
          (λ a _ less. most b t top l k entry.1 entry.2 split here is m lt (eqb-true (tag x.order m).session s a) less))
          (λ m lt. apart k m)
          (λ m p lt lt' bm cp. before-heads (tag x.order m).label (tag x.order p).label (ordered k m p bm cp)))
        where
          apart : (k m : ℕ) → between k (tag x.order m) ≡ true → is_of s k (tag x.order m) ≡ true → ⊥
          apart k m bm cm =
              let parts = both ((tag x.order m).session == s) (nat_lt after (line_of (tag x.order m)) && nat_lt (line_of (tag x.order m)) k) bm in
              let numbers = both (nat_lt after (line_of (tag x.order m))) (nat_lt (line_of (tag x.order m)) k) parts.1 in
              omega (arith, ltb-true (line_of (tag x.order m)) k numbers.1, own-line s k (tag x.order m) cm)

          ordered : (k m p : ℕ) → between k (tag x.order m) ≡ true → is_of s k (tag x.order p) ≡ true → line_of (tag x.order m) < line_of (tag x.order p)
          ordered k m p bm cp =
              let parts = both ((tag x.order m).session == s) (nat_lt after (line_of (tag x.order m)) && nat_lt (line_of (tag x.order m)) k) bm in
              let numbers = both (nat_lt after (line_of (tag x.order m))) (nat_lt (line_of (tag x.order m)) k) parts.1 in
              omega (arith, ltb-true (line_of (tag x.order m)) k numbers.1, own-line s k (tag x.order p) cp)

          three : (n l : ℕ) → (n < l) ⊎ ((n ≡ l) ⊎ (l < n))
          three n l = grind arith

          tops : (l k u : ℕ) (w : Work) → l < length x.order → get_or x.order l no_entry ≡ Line s k u w → IsTop l k
          tops l k u w here is n j v z lt e = (
            λ less. rises n l j k v u z w less here e is,
            λ ge. at_least (three n l) ge,
          )
            where
              at_least : (n < l) ⊎ ((n ≡ l) ⊎ (l < n)) → l ≤ n → k ≤ j
              at_least (inl less) ge = absurd (omega (arith, less, ge))
              at_least (inr (inl same)) ge =
                  let f : Line s j v z ≡ Line s k u w = sym e ∙ ap (λ i. get_or x.order i no_entry) same ∙ is in
                  let one : j ≡ k = cc in
                  omega (arith, one)
              at_least (inr (inr more)) ge = omega (arith, rises l n k j u v w z more lt is e)

          most : (b t : ℕ) → IsTop b t → (l k u : ℕ) (w : Work) → lines_below x.order s b ≡ l ∷ (lines ++ lines_below x.order s upto) → l < length x.order → get_or x.order l no_entry ≡ Line s k u w
              → (m : ℕ) → m < length x.order → (tag x.order m).session ≡ s → line_of (tag x.order m) < t → line_of (tag x.order m) ≤ k
          most b t top l k u w e here is m lt of less =
              let root : HasRoot m = root-of m lt in
              let at = root-below b t m top lt of less root in
              let le : root.place ≤ l = none-higher x.order s b l (lines ++ lines_below x.order s upto) e root.place at.0 (is-line root.place (line_of (tag x.order m)) root.subject root.work at.1) in
              at_most root.place root.subject root.work at.1 (three root.place l) le
            where
              at_most : (p v : ℕ) (z : Work) → get_or x.order p no_entry ≡ Line s (line_of (tag x.order m)) v z → (p < l) ⊎ ((p ≡ l) ⊎ (l < p)) → p ≤ l → line_of (tag x.order m) ≤ k
              at_most p v z f (inl less') le = omega (arith, rises p l (line_of (tag x.order m)) k v u z w less' here f is)
              at_most p v z f (inr (inl same)) le =
                  let g : Line s (line_of (tag x.order m)) v z ≡ Line s k u w = sym f ∙ ap (λ i. get_or x.order i no_entry) same ∙ is in
                  let one : line_of (tag x.order m) ≡ k = cc in
                  omega (arith, one)
              at_most p v z f (inr (inr more)) le = absurd (omega (arith, more, le))

    module _ (links : List Link) (are : AreLinks x.order links) where
      -- the lines above an ordinal, and the places that they lead over
      pub above-gathered : (lines places : List ℕ) → AreLinesAbove x.order s after lines → AreGathered links lines places
          → places ≡ places_with x.order (is_above s after) (length x.order)
      above-gathered lines places a gathers =
          gathered links are a.upto a.rest lines (length x.order) (suc (session_at x s).last) places (omega arith) top a.split a.above gathers
          ∙ same-test x.order (between (suc (session_at x s).last)) (is_above s after) (length x.order) (λ m lt. alike m lt)
        where
          top : IsTop (length x.order) (suc (session_at x s).last)
          top n k u w lt e =
              (λ less. omega (arith, ((lawful x r).numbered n s k u w (get-some x.order n lt ∙ ap Some e)).1), λ ge. absurd (omega (arith, ge, lt)))

          under : (a b c : Bool) → (a ≡ true → c ≡ true) → (a && (b && c)) ≡ (a && b)
          under true true c h = h refl
          under true false c h = refl
          under false b c h = refl

          alike : (m : ℕ) → m < length x.order → between (suc (session_at x s).last) (tag x.order m) ≡ is_above s after (tag x.order m)
          alike m lt =
              under ((tag x.order m).session == s) (nat_lt after (line_of (tag x.order m))) (nat_lt (line_of (tag x.order m)) (suc (session_at x s).last))
              (λ e. let known : IsTagOf x (tag x.order m) = tag-known x r m lt in
              let most : line_of (tag x.order m) ≤ (session_at x s).last = subst (λ j. line_of (tag x.order m) ≤ (session_at x j).last) (eqb-true (tag x.order m).session s e) known.most in
              lt-ltb (line_of (tag x.order m)) (suc (session_at x s).last) (omega (arith, most)))

      one-family : (n : ℕ) → (n < length x.order) × (is_line_of s (get_or x.order n no_entry) ≡ true) → HasFamily links n
      one-family n h =
          let entry = line-entry s (get_or x.order n no_entry) h.1 in
          record {
            family = family x.order s entry.0;
            leads = are.families n s entry.0 entry.1 entry.2 (get-some x.order n h.0 ∙ ap Some entry.3);
            there =
                each-all (λ m. m < length links) (family x.order s entry.0)
                (each-as (IsMember x.order (is_of s entry.0) (length x.order)) (λ m. m < length links) (family x.order s entry.0) (λ m member. omega (arith, member.0, are.as_many)) (are-members x.order (is_of s entry.0) (length x.order)));
            few = omega (arith, places-few x.order (is_of s entry.0) (length x.order), are.as_many);
          }

      pub have-families : (lines : List ℕ) → AreLinesAbove x.order s after lines → All (HasFamily links) lines
      have-families lines a =
          each-all (HasFamily links) lines
          (each-as (λ n. (n < length x.order) × (is_line_of s (get_or x.order n no_entry) ≡ true)) (HasFamily links) lines (λ n h. one-family n h)
          (each-front (λ n. (n < length x.order) × (is_line_of s (get_or x.order n no_entry) ≡ true)) lines (lines_below x.order s a.upto)
          (subst (Each (λ n. (n < length x.order) × (is_line_of s (get_or x.order n no_entry) ≡ true))) a.split (lines-are x.order s (length x.order)))))
