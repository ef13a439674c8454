-- Each event, in the fields of a hall.
use Rattle.std.proofs.Common.{◌≡◌, ◌≢◌, ℕ, ◌+◌, ◌-◌, ◌<◌, ◌≤◌, ◌^◌, Bool, true, false, cond, List, [], ◌∷◌, ◌++◌, length, refl, sym, ap, subst, ◌∙◌, arith, inl, inr, ◌⊎◌, length-append, length-set, eq-eqb, ne_eqb}
use Rattle.std.specs.Prelude.{Some, None, slice_set}
use Rattle.std.specs.Vec.{vec_capacity}
use Rattle.bl_work.specs.declared.work.Work.{Work}
use Rattle.bl_order.specs.Headline.{IsReached}
use Rattle.bl_order.specs.Labels.{tag}
use Rattle.bl_order.specs.Machine.{State, Phase, Running, Ended, Gone, Opens, Admits, Starts, Ends, Loses, MayStart, Needs, change, has_ended, is_over, past_at, phase_at, runs, session_at, with_phase}
use Rattle.bl_order.specs.Order.{Line}
use Rattle.bl_order.specs.Past.{is_done}
use Rattle.bl_order.proofs.Reached.{sound-reached}
use Rattle.bl_order.proofs.Steps.{running_is_not_over, waiting_is_not_over}
use Rattle.bl_order.proofs.Trails.{within}
use Rattle.bl_hall.specs.declared.hall.Hall.TheInside.{Inside}
use Rattle.bl_hall.specs.declared.link.Link.{Link}
use Rattle.bl_hall.specs.declared.link.Tally.{Tally}
use Rattle.bl_hall.specs.Awaited.{awaited}
use Rattle.bl_hall.specs.Keeps.{AreLinks, AreTallies, Keeps}
use Rattle.bl_hall.specs.Linked.{HaveEntered, link_at, more_awaited, one_less, tally_at}
use Rattle.bl_hall.proofs.Entering.{length-grown, links-admitted, links-grown, spawned}
use Rattle.bl_hall.proofs.Keeping.{Next, kept-next, reached, reached-next}
use Rattle.bl_hall.proofs.Tags.{IsTagOf, tag-known}
use Rattle.bl_hall.proofs.Tallying.{awaited-most, ends, some-here, tallies-admitted, tallies-ended, tallies-grown, tallies-opened, tallies-run, tally-set}

module _ (h : Inside) (k : Keeps h) where
  -- a place has a link, and its session a tally
  pub has-link : (n : ℕ) → n < length h.core.order → n < length h.links.items
  has-link n lt = omega (arith, lt, k.links.as_many)

  pub of-tag : (n : ℕ) → n < length h.core.order → (link_at h.links.items n).session ≡ (tag h.core.order n).session
  of-tag n lt = k.links.session n lt

  pub has-tally : (n : ℕ) → n < length h.core.order → (link_at h.links.items n).session < length h.tallies.items
  has-tally n lt =
      let t : IsTagOf h.core (tag h.core.order n) = tag-known h.core (reached h k) n lt in
      omega (arith, t.opened, of-tag n lt, k.tallies.as_many)

  pub counts : (n : ℕ) → n < length h.core.order → (tally_at h.tallies.items (link_at h.links.items n).session).awaited ≡ awaited h.core (tag h.core.order n).session
  counts n lt =
      ap (λ s. (tally_at h.tallies.items s).awaited) (of-tag n lt)
      ∙ k.tallies.awaited (tag h.core.order n).session (let t : IsTagOf h.core (tag h.core.order n) = tag-known h.core (reached h k) n lt in t.opened)

  pub is-counted : (n : ℕ) → n < length h.core.order → has_ended h.core n ≡ false → 0 < (tally_at h.tallies.items (link_at h.links.items n).session).awaited
  is-counted n lt unended =
      omega (arith, counts n lt, some-here h.core (reached h k) h.links.items h.tallies.items k.tallies n lt unended Gone refl)

  -- ---- which places may start, run or be lost

  pub may-there : (n : ℕ) → MayStart h.core n → n < length h.core.order
  may-there n may = may.there

  pub may-unended : (n : ℕ) → MayStart h.core n → has_ended h.core n ≡ false
  may-unended n may = waiting_is_not_over (phase_at h.core n) may.waits

  pub runs-there : (n : ℕ) → runs h.core n ≡ true → n < length h.core.order
  runs-there n running = within h.core (sound-reached h.core (reached h k)) n running

  pub runs-unended : (n : ℕ) → runs h.core n ≡ true → has_ended h.core n ≡ false
  runs-unended n running = running_is_not_over (phase_at h.core n) running

  -- ---- a session is opened

  pub open-kept : (d : Inside) (u : ℕ) → Needs h.core (Opens u) → Next h d (Opens u) → d.links.items ≡ h.links.items → d.tallies.items ≡ h.tallies.items ++ record { awaited = 0; line = None } ∷ [] → Keeps d
  open-kept d u needs next links tallies =
      kept-next h d (Opens u) k needs next (subst (AreLinks h.core.order) (sym links) k.links)
      (subst (λ l. AreTallies (change h.core (Opens u)) l d.tallies.items) (sym links)
      (subst (AreTallies (change h.core (Opens u)) h.links.items) (sym tallies) (tallies-opened h.core (reached h k) h.links.items h.tallies.items k.tallies u)))

  -- ---- a line is admitted

  module _ (s o : ℕ) (w : Work) (needs : Needs h.core (Admits s o w)) where
    pub line-tally : s < length h.tallies.items
    line-tally = omega (arith, needs.0, k.tallies.as_many)

    -- there is room for a link, and the count is small
    pub line-room : ((x : State) → IsReached x → length x.order ≤ x.limit) → length h.links.items < vec_capacity h.links
    line-room few =
        let most : length (change h.core (Admits s o w)).order ≤ h.core.limit = few (change h.core (Admits s o w)) (reached-next h k (Admits s o w) needs) in
        omega (arith, most, length-append h.core.order (Line s o (session_at h.core s).subject w ∷ []), k.links.as_many, k.links_room)

    pub line-few : ((x : State) → IsReached x → length x.order ≤ x.limit) → (tally_at h.tallies.items s).awaited + 1 < 2 ^ 32
    line-few few =
        let most : length h.core.order ≤ h.core.limit = few h.core (reached h k) in
        let now : (tally_at h.tallies.items s).awaited ≡ awaited h.core s = k.tallies.awaited s needs.0 in
        let small : awaited h.core s ≤ length h.core.order = awaited-most h.core s (length h.core.order) in
        omega (arith, most, now, small, k.limited)

    pub line-place : ((x : State) → IsReached x → length x.order ≤ x.limit) → length h.core.order + 1 < 2 ^ 32
    line-place few =
        let most : length h.core.order ≤ h.core.limit = few h.core (reached h k) in
        omega (arith, most, k.limited)

    pub line-kept : (d : Inside) → Next h d (Admits s o w)
        → d.links.items ≡ h.links.items ++ record { session = s; next = None; earlier = (tally_at h.tallies.items s).line } ∷ []
        → d.tallies.items ≡ slice_set h.tallies.items s (record { awaited = (tally_at h.tallies.items s).awaited + 1; line = Some (length h.core.order) })
        → Keeps d
    line-kept d next links tallies =
        kept-next h d (Admits s o w) k needs next
        (subst (AreLinks (change h.core (Admits s o w)).order) (sym links)
        (links-admitted h.core (reached h k) s o (session_at h.core s).subject w needs.2 h.links.items k.links (record { session = s; next = None; earlier = (tally_at h.tallies.items s).line }) refl refl))
        (subst (λ l. AreTallies (change h.core (Admits s o w)) l d.tallies.items) (sym links)
        (subst (AreTallies (change h.core (Admits s o w)) (h.links.items ++ record { session = s; next = None; earlier = (tally_at h.tallies.items s).line } ∷ [])) (sym tallies)
        (tallies-admitted h.core (reached h k) h.links.items h.tallies.items k.tallies s o w needs.0 needs.2 k.links.as_many)))

  -- ---- a place gets a phase that ends it

  phase-kept : (d : Inside) (n : ℕ) (p : Phase) → n < length h.core.order → has_ended h.core n ≡ false → is_over p ≡ true → d.links.items ≡ h.links.items
      → d.tallies.items ≡ one_less h.links.items h.tallies.items n → AreTallies (with_phase h.core n p) d.links.items d.tallies.items
  phase-kept d n p lt unended over links tallies =
      subst (λ l. AreTallies (with_phase h.core n p) l d.tallies.items) (sym links)
      (subst (AreTallies (with_phase h.core n p) h.links.items) (sym tallies)
      (tallies-ended h.core (reached h k) h.links.items h.tallies.items k.tallies n lt unended p over (link_at h.links.items n).session (of-tag n lt)))

  pub lost-there : (n : ℕ) → Needs h.core (Loses n) → n < length h.core.order
  lost-there n (inl running) = runs-there n running
  lost-there n (inr may) = may.there

  pub lost-unended : (n : ℕ) → Needs h.core (Loses n) → has_ended h.core n ≡ false
  lost-unended n (inl running) = runs-unended n running
  lost-unended n (inr may) = may-unended n may

  pub lost-kept : (d : Inside) (n : ℕ) → Needs h.core (Loses n) → Next h d (Loses n) → d.links.items ≡ h.links.items → d.tallies.items ≡ one_less h.links.items h.tallies.items n → Keeps d
  lost-kept d n needs next links tallies =
      kept-next h d (Loses n) k needs next (subst (AreLinks h.core.order) (sym links) k.links)
      (phase-kept d n Gone (lost-there n needs) (lost-unended n needs) refl links tallies)

  -- ---- a place starts

  module _ (d : Inside) (n : ℕ) (may : MayStart h.core n) (next : Next h d (Starts n)) (links : d.links.items ≡ h.links.items)
      (tallies : d.tallies.items ≡ cond (has_ended d.core n) (one_less h.links.items h.tallies.items n) h.tallies.items) where
    starts : (b : Bool) → is_done (past_at h.core n).answer ≡ b → change h.core (Starts n) ≡ with_phase h.core n (cond b Running Ended)
    starts b is = ap (λ t. with_phase h.core n (cond t Running Ended)) is

    ended : (b : Bool) → is_done (past_at h.core n).answer ≡ b → has_ended d.core n ≡ is_over (cond b Running Ended)
    ended b is =
        ap (λ y. has_ended y n) (next.core ∙ starts b is)
        ∙ ends h.core (reached h k) h.links.items h.tallies.items k.tallies n may.there (may-unended n may) (cond b Running Ended) n
        ∙ ap (λ t. cond t (is_over (cond b Running Ended)) (has_ended h.core n)) (eq-eqb n n refl)

    begun : (b : Bool) → is_done (past_at h.core n).answer ≡ b → AreTallies (change h.core (Starts n)) d.links.items d.tallies.items
    begun true is =
        subst (λ y. AreTallies y d.links.items d.tallies.items) (sym (starts true is))
        (subst (λ l. AreTallies (with_phase h.core n Running) l d.tallies.items) (sym links)
        (subst (AreTallies (with_phase h.core n Running) h.links.items) (sym (tallies ∙ ap (λ t. cond t (one_less h.links.items h.tallies.items n) h.tallies.items) (ended true is)))
        (tallies-run h.core (reached h k) h.links.items h.tallies.items k.tallies n may.there (may-unended n may) Running refl)))
    begun false is =
        subst (λ y. AreTallies y d.links.items d.tallies.items) (sym (starts false is))
        (phase-kept d n Ended may.there (may-unended n may) refl links (tallies ∙ ap (λ t. cond t (one_less h.links.items h.tallies.items n) h.tallies.items) (ended false is)))

    pub start-kept : Keeps d
    start-kept = kept-next h d (Starts n) k may next (subst (AreLinks h.core.order) (sym links) k.links) (begun (is_done (past_at h.core n).answer) refl)

  -- ---- a place ends, and its children enter

  module _ (n : ℕ) (running : runs h.core n ≡ true) where
    abbrev pub many : ℕ
    many = length (spawned h.core (reached h k) n running)

    -- how many more places there are
    pub more-places : (c before after : ℕ) → before ≡ length h.core.order → after ≡ length (change h.core (Ends n)).order → c ≡ after - before → c ≡ many
    more-places c before after b a is = omega (arith, b, a, is, length-grown h.core (reached h k) n running)

    pub end-room : ((x : State) → IsReached x → length x.order ≤ x.limit) → (c : ℕ) → c ≡ many → length h.links.items + c ≤ h.core.limit
    end-room few c is =
        let most : length (change h.core (Ends n)).order ≤ h.core.limit = few (change h.core (Ends n)) (reached-next h k (Ends n) running) in
        omega (arith, most, length-grown h.core (reached h k) n running, k.links.as_many, is)

    pub end-few : ((x : State) → IsReached x → length x.order ≤ x.limit) → (c : ℕ) → c ≡ many → (tally_at h.tallies.items (link_at h.links.items n).session).awaited + c < 2 ^ 32
    end-few few c is =
        let small : awaited h.core (tag h.core.order n).session ≤ length h.core.order = awaited-most h.core (tag h.core.order n).session (length h.core.order) in
        omega (arith, end-room few c is, counts n (runs-there n running), small, k.links.as_many, k.limited)

    module _ (links : List Link) (c : ℕ) (is : c ≡ many) (has : HaveEntered h.links.items n c links) where
      has-many : HaveEntered h.links.items n many links
      has-many = subst (λ j. HaveEntered h.links.items n j links) is has

      -- the session of the place is the same
      pub same-session : (link_at links n).session ≡ (link_at h.links.items n).session
      same-session = ap (λ (l : Link). l.session) has.parent

      pub end-link : n < length links
      end-link = omega (arith, has.as_many, has-link n (runs-there n running))

      pub end-tally : (link_at links n).session < length h.tallies.items
      end-tally = omega (arith, same-session, has-tally n (runs-there n running))

      pub end-few-now : ((x : State) → IsReached x → length x.order ≤ x.limit) → (tally_at h.tallies.items (link_at links n).session).awaited + c < 2 ^ 32
      end-few-now few = subst (λ j. (tally_at h.tallies.items j).awaited + c < 2 ^ 32) (sym same-session) (end-few few c is)

      abbrev session : ℕ
      session = (link_at links n).session

      abbrev first : List Tally
      first = more_awaited links h.tallies.items n c

      first-own : tally_at first session ≡ record { awaited = (tally_at h.tallies.items session).awaited + c; line = (tally_at h.tallies.items session).line }
      first-own =
          tally-set h.tallies.items session session (record { awaited = (tally_at h.tallies.items session).awaited + c; line = (tally_at h.tallies.items session).line }) end-tally
          ∙ ap (λ b. cond b (record { awaited = (tally_at h.tallies.items session).awaited + c; line = (tally_at h.tallies.items session).line }) (tally_at h.tallies.items session)) (eq-eqb session session refl)

      first-other : (j : ℕ) → j ≢ session → tally_at first j ≡ tally_at h.tallies.items j
      first-other j ne =
          tally-set h.tallies.items session j (record { awaited = (tally_at h.tallies.items session).awaited + c; line = (tally_at h.tallies.items session).line }) end-tally
          ∙ ap (λ b. cond b (record { awaited = (tally_at h.tallies.items session).awaited + c; line = (tally_at h.tallies.items session).line }) (tally_at h.tallies.items j)) (ne_eqb j session ne)

      long : length first ≡ length h.tallies.items
      long = length-set h.tallies.items session (record { awaited = (tally_at h.tallies.items session).awaited + c; line = (tally_at h.tallies.items session).line })

      some-now : 0 < (tally_at h.tallies.items session).awaited
      some-now = subst (λ j. 0 < (tally_at h.tallies.items j).awaited) (sym same-session) (is-counted n (runs-there n running) (runs-unended n running))

      pub end-some : 0 < (tally_at first session).awaited
      end-some = let e : (tally_at first session).awaited ≡ (tally_at h.tallies.items session).awaited + c = ap (λ (t : Tally). t.awaited) first-own in omega (arith, e, some-now)

      pub end-length : session < length first
      end-length = omega (arith, long, end-tally)

      abbrev less : Tally
      less = record { awaited = (tally_at first session).awaited - 1; line = (tally_at first session).line }

      last-own : tally_at (one_less links first n) session ≡ less
      last-own = tally-set first session session less end-length ∙ ap (λ b. cond b less (tally_at first session)) (eq-eqb session session refl)

      last-other : (j : ℕ) → j ≢ session → tally_at (one_less links first n) j ≡ tally_at h.tallies.items j
      last-other j ne = tally-set first session j less end-length ∙ ap (λ b. cond b less (tally_at first j)) (ne_eqb j session ne) ∙ first-other j ne

      same-line : (j : ℕ) → (j ≡ session) ⊎ (j ≢ session) → (tally_at (one_less links first n) j).line ≡ (tally_at h.tallies.items j).line
      same-line j (inl e) =
          ap (λ i. (tally_at (one_less links first n) i).line) e ∙ ap (λ (t : Tally). t.line) last-own ∙ ap (λ (t : Tally). t.line) first-own ∙ ap (λ i. (tally_at h.tallies.items i).line) (sym e)
      same-line j (inr ne) = ap (λ (t : Tally). t.line) (last-other j ne)

      alike_or_not : (a b : ℕ) → (a ≡ b) ⊎ (a ≢ b)
      alike_or_not a b = grind arith

      -- the session, by the tag
      tag-is : session ≡ (tag h.core.order n).session
      tag-is = same-session ∙ of-tag n (runs-there n running)

      own-count : (tally_at (one_less links first n) (tag h.core.order n).session).awaited + 1 ≡ (tally_at h.tallies.items (tag h.core.order n).session).awaited + many
      own-count =
          let a : (tally_at (one_less links first n) session).awaited ≡ (tally_at first session).awaited - 1 = ap (λ (t : Tally). t.awaited) last-own in
          let b : (tally_at first session).awaited ≡ (tally_at h.tallies.items session).awaited + c = ap (λ (t : Tally). t.awaited) first-own in
          subst (λ j. (tally_at (one_less links first n) j).awaited + 1 ≡ (tally_at h.tallies.items j).awaited + many) tag-is (omega (arith, a, b, some-now, is))

      pub end-kept : (d : Inside) → Next h d (Ends n) → d.links.items ≡ links → d.tallies.items ≡ one_less links first n → Keeps d
      end-kept d next links-is tallies-is =
          kept-next h d (Ends n) k running next
          (subst (AreLinks (change h.core (Ends n)).order) (sym links-is) (links-grown h.core (reached h k) n running h.links.items k.links links has-many))
          (subst (λ l. AreTallies (change h.core (Ends n)) l d.tallies.items) (sym links-is)
          (subst (AreTallies (change h.core (Ends n)) links) (sym tallies-is)
          (tallies-grown h.core (reached h k) h.links.items h.tallies.items k.tallies n running links k.links.as_many has-many (one_less links first n)
          (length-set first session less ∙ long) (λ j. same-line j (alike_or_not j session)) own-count
          (λ j ne. ap (λ (t : Tally). t.awaited) (last-other j (λ e. ne (e ∙ tag-is)))))))
