-- What a session was answered stays: where its entries below the lines up to an ordinal have ended, later events change no reply to
-- these lines, as long as they admit no line of it up to that ordinal.
use Rattle.std.proofs.Common.{◌≡◌, ℕ, zero, suc, ◌+◌, ◌<◌, ◌≤◌, Bool, true, false, cond, ◌&&◌, List, [], ◌∷◌, ◌++◌, length, refl, sym, ap, subst, ◌∙◌, arith, append-nil, append_assoc, length-append, inl, inr, ◌⊎◌, true≢false}
use Rattle.std.specs.Prelude.{All, ◌==◌}
use Rattle.std.proofs.lemmas.Bool.Decides.{eqb_tells}
use Rattle.std.proofs.lemmas.List.Elements.{All-head, All-tail, All-cons, All-nil}
use Rattle.bl_work.specs.declared.work.Work.{Work}
use Rattle.bl_order.specs.Order.{Entry, Line, Child}
use Rattle.bl_order.specs.Past.{Past}
use Rattle.bl_order.specs.Labels.{Tag, Reply, tag, is_of, put_in, replies_to}
use Rattle.bl_order.specs.Machine.{State, Event, Opens, Admits, Starts, Ends, Loses, Needs, IsTrail, change, state_after, session_at, past_at, has_ended, child_entries, children_at}
use Rattle.bl_order.proofs.Sound.{IsSound}
use Rattle.bl_order.proofs.Steps.{running_is_not_over}
use Rattle.bl_order.proofs.Trails.{past-step, sound-step, within}
use Rattle.bl_wire.specs.Replies.{line_or_full, line_text}
use Rattle.bl_engine.specs.Requests.{SameUpTo}
use Rattle.bl_session.specs.Pages.{ordinal_of}
use Rattle.bl_session.specs.Transcripts.{admitted}
use Rattle.bl_session.proofs.OrderLaws.{tag-grown, tag-last, tag-child, longer, join, first_kept}
use Rattle.bl_gate.proofs.Passing.{passes_step}
use Rattle.bl_serve.specs.Courses.{IsOverUpTo}
use Rattle.bl_serve.proofs.Opened.{last_or_before}

-- a work that is admitted behind an ordinal
abbrev pub IsBehind : ℕ → ℕ × Work → Type 0
IsBehind n asked = n < asked.0

-- ---- places that stand below later lines of a session

-- from a place on, each that is the session's stands below a line behind the ordinal
abbrev pub AreLaterOf : ℕ → ℕ → ℕ → List Entry → Type 0
AreLaterOf session n from order = (p : ℕ) → from ≤ p → p < length order → (tag order p).session ≡ session → n < ordinal_of (tag order p)

-- one place more
later_more : (session n from : ℕ) (A : List Entry) (e : Entry) → AreLaterOf session n from A
    → ((tag (A ++ e ∷ []) (length A)).session ≡ session → n < ordinal_of (tag (A ++ e ∷ []) (length A))) → AreLaterOf session n from (A ++ e ∷ [])
later_more session n from A e later new p low high = go (last_or_before A e p high)
  where
    go : (p ≡ length A) ⊎ (p < length A) → (tag (A ++ e ∷ []) p).session ≡ session → n < ordinal_of (tag (A ++ e ∷ []) p)
    go (inl at) = subst (λ (q : ℕ). (tag (A ++ e ∷ []) q).session ≡ session → n < ordinal_of (tag (A ++ e ∷ []) q)) (sym at) new
    go (inr lt) = subst (λ (t : Tag). t.session ≡ session → n < ordinal_of t) (sym (tag-grown A (e ∷ []) p lt)) (later p low lt)

-- the children of a place that is not the session's, or stands below a later line
later_children : (session n from parent : ℕ) (behaviours : List ℕ) (A : List Entry) (w : ℕ) → AreLaterOf session n from A → parent < length A
    → ((tag A parent).session ≡ session → n < ordinal_of (tag A parent)) → AreLaterOf session n from (A ++ child_entries parent w behaviours)
later_children session n from parent [] A w later lt one = subst (λ (l : List Entry). AreLaterOf session n from l) (sym (append-nil A)) later
later_children session n from parent (b ∷ behaviours) A w later lt one =
    let B : List Entry = A ++ Child parent w ∷ [] in
    let new : (tag B (length A)).session ≡ session → n < ordinal_of (tag B (length A)) =
    subst (λ (t : Tag). t.session ≡ session → n < ordinal_of t) (sym (tag-child A parent w lt)) (λ own. first_kept n w (tag A parent).label (one own)) in
    let kept : (tag B parent).session ≡ session → n < ordinal_of (tag B parent) =
    subst (λ (t : Tag). t.session ≡ session → n < ordinal_of t) (sym (tag-grown A (Child parent w ∷ []) parent lt)) one in
    subst (λ (l : List Entry). AreLaterOf session n from l) (join A (Child parent w ∷ []) (child_entries parent (w + 1) behaviours))
    (later_children session n from parent behaviours B (w + 1) (later_more session n from A (Child parent w) later new) (omega (arith, lt, longer A (Child parent w))) kept)

-- ---- what stays

-- The places that stood there stand as they stood, those of these lines ended, and those that came later are not the session's, or
-- stand below later lines.
pub record Stays (x : State) (session n : ℕ) (y : State) : Type 0 where
  pub sound : IsSound y
  pub setup_is : y.setup ≡ x.setup
  pub more : List Entry
  pub order_is : y.order ≡ x.order ++ more
  pub ended : (p : ℕ) → p < length x.order → (tag x.order p).session ≡ session → ordinal_of (tag x.order p) ≤ n → has_ended y p ≡ true
  pub pasts : (p : ℕ) → p < length x.order → (tag x.order p).session ≡ session → ordinal_of (tag x.order p) ≤ n → past_at y p ≡ past_at x p
  pub later : AreLaterOf session n (length x.order) y.order

stays_first : (x : State) (session n : ℕ) → IsSound x → IsOverUpTo x session n → Stays x session n x
stays_first x session n sound over = record {
  sound = sound;
  setup_is = refl;
  more = [];
  order_is = sym (append-nil x.order);
  ended = over;
  pasts = λ p lt own low. refl;
  later = λ p low high own. absurd (omega (arith, low, high));
}

module _ (x : State) (session n : ℕ) (y : State) (s : Stays x session n y) (e : Event) (needs : Needs y e) where
  long : length y.order ≡ length x.order + length s.more
  long = ap length s.order_is ∙ length-append x.order s.more

  tag_then : (p : ℕ) → p < length x.order → tag y.order p ≡ tag x.order p
  tag_then p lt = ap (λ o. tag o p) s.order_is ∙ tag-grown x.order s.more p lt

  -- an event that grows the order by these
  stays_grown : (new : List Entry) → (change y e).setup ≡ y.setup → (change y e).order ≡ y.order ++ new → AreLaterOf session n (length x.order) (y.order ++ new) → Stays x session n (change y e)
  stays_grown new setup order later = record {
    sound = sound-step y e s.sound needs;
    setup_is = setup ∙ s.setup_is;
    more = s.more ++ new;
    order_is = order ∙ (ap (λ (l : List Entry). l ++ new) s.order_is ∙ append_assoc x.order s.more new);
    ended = λ p lt own low. (passes_step y e s.sound needs).ended p (s.ended p lt own low);
    pasts = λ p lt own low. past-step y e s.sound needs p (omega (arith, lt, long)) (s.ended p lt own low) ∙ s.pasts p lt own low;
    later = subst (λ (l : List Entry). AreLaterOf session n (length x.order) l) (sym order) later;
  }

  same_later : AreLaterOf session n (length x.order) (y.order ++ [])
  same_later = subst (λ (l : List Entry). AreLaterOf session n (length x.order) l) (sym (append-nil y.order)) s.later

stays_step : (x : State) (session n : ℕ) (y : State) (e : Event) → Stays x session n y → Needs y e → All (IsBehind n) (admitted session (e ∷ [])) → Stays x session n (change y e)
stays_step x session n y (Opens u) s needs above = stays_grown x session n y s (Opens u) needs [] refl (sym (append-nil y.order)) (same_later x session n y s (Opens u) needs)
stays_step x session n y (Admits i k w) s needs above =
    stays_grown x session n y s (Admits i k w) needs (new ∷ []) refl refl (later_more session n (length x.order) y.order new s.later (subst (λ (t : Tag). t.session ≡ session → n < ordinal_of t) (sym (tag-last y.order new)) mine))
  where
    new : Entry
    new = Line i k (session_at y i).subject w

    mine : i ≡ session → n < k
    mine own = go (eqb_tells i session) above
      where
        go : (((i == session) ≡ true) × (i ≡ session)) ⊎ (((i == session) ≡ false) × (i ≡ session → ⊥)) → All (IsBehind n) (cond (i == session) ((k, w) ∷ []) []) → n < k
        go (inl t) all = All-head (IsBehind n) (k, w) [] (subst (λ (b : Bool). All (IsBehind n) (cond b ((k, w) ∷ []) [])) t.0 all)
        go (inr t) all = absurd (t.1 own)
stays_step x session n y (Starts q) s needs above = stays_grown x session n y s (Starts q) needs [] refl (sym (append-nil y.order)) (same_later x session n y s (Starts q) needs)
stays_step x session n y (Ends q) s needs above =
    stays_grown x session n y s (Ends q) needs (children_at y q) refl refl (later_children session n (length x.order) q _ y.order 1 s.later there parent)
  where
    there : q < length y.order
    there = within y s.sound q needs

    parent : (tag y.order q).session ≡ session → n < ordinal_of (tag y.order q)
    parent own = go (old_or_new q (length x.order))
      where
        old_or_new : (a b : ℕ) → (a < b) ⊎ (b ≤ a)
        old_or_new a b = grind arith

        go : (q < length x.order) ⊎ (length x.order ≤ q) → n < ordinal_of (tag y.order q)
        go (inl old) =
            let same : tag y.order q ≡ tag x.order q = tag_then x session n y s (Ends q) needs q old in
            subst (λ (t : Tag). n < ordinal_of t) (sym same)
            (high (old_or_new n (ordinal_of (tag x.order q))) (λ low. s.ended q old (ap (λ (t : Tag). t.session) (sym same) ∙ own) low))
          where
            high : (n < ordinal_of (tag x.order q)) ⊎ (ordinal_of (tag x.order q) ≤ n) → (ordinal_of (tag x.order q) ≤ n → has_ended y q ≡ true) → n < ordinal_of (tag x.order q)
            high (inl far) over = far
            high (inr low) over = absurd (true≢false (sym (over low) ∙ running_is_not_over _ needs))
        go (inr new) = s.later q new there own
stays_step x session n y (Loses q) s needs above = stays_grown x session n y s (Loses q) needs [] refl (sym (append-nil y.order)) (same_later x session n y s (Loses q) needs)

above_front : (session n : ℕ) (e : Event) (events : List Event) → All (IsBehind n) (admitted session (e ∷ events)) → All (IsBehind n) (admitted session (e ∷ [])) × All (IsBehind n) (admitted session events)
above_front session n (Opens u) events all = (All-nil (IsBehind n), all)
above_front session n (Admits i k w) events all = go (i == session) all
  where
    go : (b : Bool) → All (IsBehind n) (cond b ((k, w) ∷ admitted session events) (admitted session events)) → All (IsBehind n) (cond b ((k, w) ∷ []) []) × All (IsBehind n) (admitted session events)
    go true all = (All-cons (IsBehind n) (k, w) [] (All-head (IsBehind n) (k, w) (admitted session events) all) (All-nil (IsBehind n)), All-tail (IsBehind n) (k, w) (admitted session events) all)
    go false all = (All-nil (IsBehind n), all)
above_front session n (Starts q) events all = (All-nil (IsBehind n), all)
above_front session n (Ends q) events all = (All-nil (IsBehind n), all)
above_front session n (Loses q) events all = (All-nil (IsBehind n), all)

stays_trail : (x : State) (session n : ℕ) (y : State) (events : List Event) → Stays x session n y → IsTrail y events → All (IsBehind n) (admitted session events) → Stays x session n (state_after y events)
stays_trail x session n y [] s trail above = s
stays_trail x session n y (e ∷ events) s trail above =
    let two = above_front session n e events above in
    stays_trail x session n (change y e) events (stays_step x session n y e s trail.0 two.0) trail.1 two.1

-- ---- replies

and_false : (b : Bool) → (b && false) ≡ false
and_false true = refl
and_false false = refl

-- a place of another line
not_of : (session k : ℕ) (t : Tag) → (t.session ≡ session → ordinal_of t ≡ k → ⊥) → is_of session k t ≡ false
not_of session k t other = go (eqb_tells t.session session) (eqb_tells (ordinal_of t) k)
  where
    go : (((t.session == session) ≡ true) × (t.session ≡ session)) ⊎ (((t.session == session) ≡ false) × (t.session ≡ session → ⊥))
        → (((ordinal_of t == k) ≡ true) × (ordinal_of t ≡ k)) ⊎ (((ordinal_of t == k) ≡ false) × (ordinal_of t ≡ k → ⊥)) → is_of session k t ≡ false
    go (inr a) b = ap (λ c. c && (ordinal_of t == k)) a.0
    go (inl a) (inl b) = absurd (other a.1 b.1)
    go (inl a) (inr b) = ap (λ c. (t.session == session) && c) b.0 ∙ and_false (t.session == session)

abbrev put_at : State → ℕ → ℕ → ℕ → List Reply → List Reply
put_at x session k n rest = cond (is_of session k (tag x.order n)) (put_in (record { label = (tag x.order n).label; answer = (past_at x n).answer }) rest) rest

-- places of other lines add nothing to the replies to a line
pub replies_other : (x : State) (session k from n : ℕ) → ((p : ℕ) → from ≤ p → p < from + n → (tag x.order p).session ≡ session → ordinal_of (tag x.order p) ≡ k → ⊥)
    → replies_to x session k (from + n) ≡ replies_to x session k from
replies_other x session k from zero other = ap (replies_to x session k) (omega arith)
replies_other x session k from (suc n) other =
    let e : from + suc n ≡ suc (from + n) = omega arith in
    let r : Reply = record { label = (tag x.order (from + n)).label; answer = (past_at x (from + n)).answer } in
    ap (replies_to x session k) e
    ∙ ap (λ b. cond b (put_in r (replies_to x session k (from + n))) (replies_to x session k (from + n))) (not_of session k (tag x.order (from + n)) (other (from + n) (omega arith) (omega arith)))
    ∙ replies_other x session k from n (λ p low high. other p low (omega (arith, high)))

-- places with the same tags, and of the session with the same records, have the same replies
replies_alike : (x y : State) (session k n : ℕ) → ((p : ℕ) → p < n → tag y.order p ≡ tag x.order p) → ((p : ℕ) → p < n → (tag x.order p).session ≡ session → ordinal_of (tag x.order p) ≡ k → past_at y p ≡ past_at x p)
    → replies_to y session k n ≡ replies_to x session k n
replies_alike x y session k zero tags pasts = refl
replies_alike x y session k (suc n) tags pasts =
    ap (λ (t : Tag). cond (is_of session k t) (put_in (record { label = t.label; answer = (past_at y n).answer }) (replies_to y session k n)) (replies_to y session k n)) (tags n (omega arith))
    ∙ here (eqb_tells (tag x.order n).session session) (eqb_tells (ordinal_of (tag x.order n)) k)
    ∙ ap (put_at x session k n) (replies_alike x y session k n (λ p lt. tags p (omega (arith, lt))) (λ p lt own at. pasts p (omega (arith, lt)) own at))
  where
    t : Tag
    t = tag x.order n

    rest : List Reply
    rest = replies_to y session k n

    with_past : Past → List Reply
    with_past p = cond (is_of session k t) (put_in (record { label = t.label; answer = p.answer }) rest) rest

    skip : (b : Bool) → b ≡ false → (p q : Past) → cond b (put_in (record { label = t.label; answer = p.answer }) rest) rest ≡ cond b (put_in (record { label = t.label; answer = q.answer }) rest) rest
    skip false is p q = refl
    skip true is p q = absurd (true≢false is)

    here : (((t.session == session) ≡ true) × (t.session ≡ session)) ⊎ (((t.session == session) ≡ false) × (t.session ≡ session → ⊥))
        → (((ordinal_of t == k) ≡ true) × (ordinal_of t ≡ k)) ⊎ (((ordinal_of t == k) ≡ false) × (ordinal_of t ≡ k → ⊥)) → with_past (past_at y n) ≡ with_past (past_at x n)
    here (inl a) (inl b) = ap with_past (pasts n (omega arith) a.1 b.1)
    here (inl a) (inr b) = skip (is_of session k t) (ap (λ c. (t.session == session) && c) b.0 ∙ and_false (t.session == session)) (past_at y n) (past_at x n)
    here (inr a) b = skip (is_of session k t) (ap (λ c. c && (ordinal_of t == k)) a.0) (past_at y n) (past_at x n)

-- events lead on to where it stays
pub stays : (x : State) (events : List Event) (session n : ℕ) → IsSound x → IsTrail x events → IsOverUpTo x session n → All (IsBehind n) (admitted session events) → Stays x session n (state_after x events)
stays x events session n sound trail over above = stays_trail x session n x events (stays_first x session n sound over) trail above

module _ (x : State) (session n : ℕ) (y : State) (s : Stays x session n y) where
  count : length y.order ≡ length x.order + length s.more
  count = ap length s.order_is ∙ length-append x.order s.more

  tags_are : (p : ℕ) → p < length x.order → tag y.order p ≡ tag x.order p
  tags_are p lt = ap (λ o. tag o p) s.order_is ∙ tag-grown x.order s.more p lt

  -- what the session was answered stays
  pub answers_stay : SameUpTo n (line_text x session) (line_text y session)
  answers_stay k le =
      ap (λ m. line_or_full m.names k (replies_to y session k (length y.order))) s.setup_is
      ∙ ap (line_or_full x.setup.names k)
      (ap (replies_to y session k) count
      ∙ replies_other y session k (length x.order) (length s.more) (λ p low high own at. let far = s.later p low (omega (arith, high, count)) own in omega (arith, far, at, le))
      ∙ replies_alike x y session k (length x.order) tags_are (λ p lt own at. s.pasts p lt own (omega (arith, at, le))))

  -- and what has ended has ended
  pub over_stays : IsOverUpTo y session n
  over_stays p lt own low = go (old_or_new p (length x.order))
    where
      old_or_new : (a b : ℕ) → (a < b) ⊎ (b ≤ a)
      old_or_new a b = grind arith

      go : (p < length x.order) ⊎ (length x.order ≤ p) → has_ended y p ≡ true
      go (inl old) = s.ended p old (ap (λ (t : Tag). t.session) (sym (tags_are p old)) ∙ own) (subst (λ (t : Tag). ordinal_of t ≤ n) (tags_are p old) low)
      go (inr new) = let far = s.later p new lt own in absurd (omega (arith, far, low))
