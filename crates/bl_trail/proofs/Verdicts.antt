-- From how far the events are right to the verdict on the text.
use Rattle.std.proofs.Common.{◌≡◌, ◌≢◌, ℕ, suc, ◌+◌, ◌<◌, ◌^◌, List, [], ◌∷◌, ◌++◌, length, drop, get_or, refl, sym, ◌∙◌, ap, subst, inl, inr, arith, ◌⊎◌, append_assoc, length-append, lit<}
use Rattle.std.specs.Prelude.{codes, decimal}
use Rattle.std.specs.List.{AllByRecursion}
use Rattle.std.proofs.lemmas.Fmt.{decimal_injective}
use Rattle.bl_setup.specs.Agreement.{Agree}
use Rattle.bl_setup.specs.Setup.{Setup, by_version}
use Rattle.bl_setup.specs.declared.version.Version.{Version}
use Rattle.bl_setup.specs.declared.version.Version.TheVariants.{One, Two}
use Rattle.bl_order.specs.Machine.{State, Event, IsTrail, change, state_after, start}
use Rattle.bl_trail.specs.Asks.{HasNo}
use Rattle.bl_trail.specs.OneEvent.{Reads, IsSmall, AreSmall}
use Rattle.bl_trail.specs.TrueText.{IsLimit, event_texts, head_lines, version_line, trail_lines, joined, GoesOn, AreRight, IsWrong, IsTrueText, FirstWrong}
use Rattle.bl_trail.specs.Follow.{Followed, IsNoEvent, IsNotNext, IsMore, IsFollowed, IsVerdict}
use Rattle.bl_trail.specs.Versions.{HasSetup, HasEvent, HasEvents}
use Rattle.bl_trail.specs.declared.verdict.Verdict.{Verdict}
use Rattle.bl_trail.specs.declared.verdict.Verdict.TheVariants.{Accepted, Rejected}
use Rattle.bl_trail.proofs.Following.{joined-append, all-append, setup-kept, setup-end}
use Rattle.bl_trail.proofs.Heading.{version-plain}
use Rattle.bl_trail.proofs.OneEventLaw.{one_event, not_stop, decimal-has_no, told_apart}

abbrev pub stop : List ℕ
stop = codes "stop"

-- what is known of a state whose events have one text each
abbrev IsPlain : State → Type 0
IsPlain x = Reads x.setup.names × Agree x.setup

plain-kept : (x : State) (e : Event) → IsPlain x → IsPlain (change x e)
plain-kept x e p = subst (λ (s : Setup). Reads s.names × Agree s) (setup-kept x e) p

small-here : (x : State) (es : List Event) → AreSmall x es → IsSmall x
small-here x [] small = small
small-here x (e ∷ es) small = small.0

small-end : (x : State) (es : List Event) → AreSmall x es → IsSmall (state_after x es)
small-end x [] small = small
small-end x (e ∷ es) small = small-end (change x e) es small.1

plain-end : (x : State) (es : List Event) → IsPlain x → IsPlain (state_after x es)
plain-end x [] p = p
plain-end x (e ∷ es) p = plain-end (change x e) es (plain-kept x e p)

-- events that go on behind others, up to a `stop`
pub record Rest (version : Version) (y : State) (tail : List (List ℕ)) : Type 0 where
  pub events : List Event
  pub steps : IsTrail y events
  pub has : HasEvents version events
  pub texts : event_texts y events ++ stop ∷ [] ≡ tail

-- of two trails that begin with the same lines, the second goes on from where the first leads
walk : (version : Version) (x : State) (es fs : List Event) (tail : List (List ℕ)) → IsPlain x → AreSmall x es → IsTrail x es → IsTrail x fs → HasEvents version fs
    → event_texts x fs ++ stop ∷ [] ≡ event_texts x es ++ tail → Rest version (state_after x es) tail
walk version x [] fs tail plain small steps others has h = record { events = fs; steps = others; has = has; texts = h }
walk version x (e ∷ es) [] tail plain small steps others has h = absurd (not_stop x plain.0 plain.1 small.0 e (sym (ap (λ l. get_or l 0 []) h)))
walk version x (e ∷ es) (f ∷ fs) tail plain small steps others has h =
    let same : f ≡ e = one_event x plain.0 plain.1 small.0 f e others.0 steps.0 (ap (λ l. get_or l 0 []) h) in
    walk version (change x e) es fs tail (plain-kept x e plain) small.1 steps.1
    (subst (λ d. IsTrail (change x d) fs) same others.1) has.1
    (ap (λ d. event_texts (change x d) fs ++ stop ∷ []) (sym same) ∙ ap (drop 1) h)

-- a setup is one whole by whatever version
pub agrees-by : (version : Version) (setup : Setup) → Agree setup → Agree (by_version version setup)
agrees-by version setup agree =
    record { subjects = agree.subjects; documents = agree.documents; presence = agree.presence; contents = agree.contents; absent = agree.absent }

-- the seventh byte tells the lines of two versions apart
one_version : (v w : Version) → version_line v ≡ version_line w → v ≡ w
one_version One One h = refl
one_version One Two h = absurd (told_apart 49 50 refl (ap (λ l. get_or l 6 0) h))
one_version Two One h = absurd (told_apart 50 49 refl (ap (λ l. get_or l 6 0) h))
one_version Two Two h = refl

-- where a run begins that is judged by a version
abbrev start_by : Version → Setup → ℕ → State
start_by version setup limit = start (by_version version setup) limit

module _ (version : Version) (setup : Setup) (has_setup : HasSetup version setup) (limit : ℕ) (is_limit : IsLimit limit) (plain : IsPlain (start_by version setup limit)) (events : List Event)
    (steps : IsTrail (start_by version setup limit) events) (has : HasEvents version events) (small : AreSmall (start_by version setup limit) events) where
  abbrev pub x0 : State
  x0 = start_by version setup limit

  abbrev pub before : List (List ℕ)
  before = head_lines version limit ++ event_texts x0 events

  -- a true text that begins with these lines goes on from where they lead
  goes-on : (tail : List (List ℕ)) (lines more : List (List ℕ)) → GoesOn setup lines more → lines ++ more ≡ before ++ tail → Rest version (state_after x0 events) tail
  goes-on tail lines more g is =
      let all : trail_lines g.version setup g.limit g.events ≡ before ++ tail = g.is ∙ is in
      let by : g.version ≡ version = one_version g.version version (ap (λ l. get_or l 0 []) all) in
      let low : limit < 2 ^ 64 = omega (arith, is_limit.1) in
      let low2 : g.limit < 2 ^ 64 = omega (arith, g.is_limit.1) in
      let same : g.limit ≡ limit = decimal_injective g.limit limit low2 low (ap (λ l. drop 6 (get_or l 1 [])) all) in
      let begins : start_by g.version setup g.limit ≡ x0 = ap (λ v. start_by v setup g.limit) by ∙ ap (start_by version setup) same in
      walk version x0 events g.events tail plain small steps (subst (λ x. IsTrail x g.events) begins g.steps)
      (subst (λ v. HasEvents v g.events) by g.has_events)
      (ap (λ x. event_texts x g.events ++ stop ∷ []) (sym begins) ∙ ap (drop 2) all)

  abbrev pub end : State
  end = state_after x0 events

  -- what is not next is wrong behind them
  no_event : (line : List ℕ) (more : List (List ℕ)) → line ≢ stop → IsNoEvent end line → Rest version (state_after x0 events) (line ∷ more) → ⊥
  no_event line more other none r = go r.events r.steps r.has r.texts
    where
      go : (gs : List Event) → IsTrail (state_after x0 events) gs → HasEvents version gs → event_texts (state_after x0 events) gs ++ stop ∷ [] ≡ line ∷ more → ⊥
      go [] s has h = other (sym (ap (λ l. get_or l 0 []) h))
      go (g ∷ gs) s has h = none g s.0 (subst (λ (k : Setup). HasEvent k.version g) (setup-end x0 events) has.0) (sym (ap (λ l. get_or l 0 []) h))

  no_end : Rest version (state_after x0 events) [] → ⊥
  no_end r = go r.events r.texts
    where
      go : (gs : List Event) → event_texts (state_after x0 events) gs ++ stop ∷ [] ≡ [] → ⊥
      go [] h = absurd (omega (arith, ap length h))
      go (g ∷ gs) h = absurd (omega (arith, ap length h))

  no_more : (line : List ℕ) (more : List (List ℕ)) → Rest version (state_after x0 events) (stop ∷ line ∷ more) → ⊥
  no_more line more r = go r.events r.texts
    where
      e : IsPlain (state_after x0 events)
      e = plain-end x0 events plain

      go : (gs : List Event) → event_texts (state_after x0 events) gs ++ stop ∷ [] ≡ stop ∷ line ∷ more → ⊥
      go [] h = absurd (omega (arith, ap length h))
      go (g ∷ gs) h = not_stop (state_after x0 events) e.0 e.1 (small-end x0 events small) g (ap (λ l. get_or l 0 []) h)

  append-nil : {A : Type 0} (a : List A) → a ++ [] ≡ a
  append-nil [] = refl
  append-nil (b ∷ a) = ap (λ l. b ∷ l) (append-nil a)

  regroup : (a b c : List (List ℕ)) → (a ++ b) ++ c ≡ a ++ (b ++ c)
  regroup a b c = append_assoc a b c

  wrong-next : (rest : List ℕ) → IsNotNext end rest → IsWrong setup before rest
  wrong-next rest (inl none) = inl (none, λ empty all. no_end (goes-on [] before [] all refl))
  wrong-next rest (inr t) =
      inr (t.0, t.1, t.2.plain, t.2.split, λ right. no_event t.0 right.0 t.3 t.4 (goes-on (t.0 ∷ right.0) (before ++ t.0 ∷ []) right.0 right.1 (regroup before (t.0 ∷ []) right.0)))

  wrong-more : (rest : List ℕ) → IsMore rest → IsWrong setup (before ++ stop ∷ []) rest
  wrong-more rest (inl t) = inl (t.0, λ empty all. t.1 empty)
  wrong-more rest (inr t) =
      inr (
        t.0,
        t.1,
        t.2.plain,
        t.2.split,
        λ right. no_more t.0 right.0 (goes-on (stop ∷ t.0 ∷ right.0) ((before ++ stop ∷ []) ++ t.0 ∷ []) right.0 right.1
            (regroup (before ++ stop ∷ []) (t.0 ∷ []) right.0 ∙ regroup before (stop ∷ []) (t.0 ∷ right.0))),
      )

  right : AreRight setup before
  right = (stop ∷ [], record { version = version; has_setup = has_setup; limit = limit; is_limit = is_limit; events = events; steps = steps; has_events = has; is = sym (regroup (head_lines version limit) (event_texts x0 events) (stop ∷ [])) })

  right-closed : AreRight setup (before ++ stop ∷ [])
  right-closed = ([], record { version = version; has_setup = has_setup; limit = limit; is_limit = is_limit; events = events; steps = steps; has_events = has; is = sym (append-nil (before ++ stop ∷ []) ∙ regroup (head_lines version limit) (event_texts x0 events) (stop ∷ [])) })

  length-texts : (x : State) (es : List Event) → length (event_texts x es) ≡ length es
  length-texts x [] = refl
  length-texts x (e ∷ es) = ap suc (length-texts (change x e) es)

  module _ (text rest : List ℕ) (head : AllByRecursion (HasNo 10) (head_lines version limit)) (followed : Followed x0 text rest events) where
    split : joined (head_lines version limit) ++ text ≡ joined before ++ rest
    split =
        ap (λ t. joined (head_lines version limit) ++ t) followed.split
        ∙ sym (append_assoc (joined (head_lines version limit)) (joined (event_texts x0 events)) rest)
        ∙ ap (λ t. t ++ rest) (sym (joined-append (head_lines version limit) (event_texts x0 events)))

    plain-before : AllByRecursion (HasNo 10) before
    plain-before = all-append (HasNo 10) (head_lines version limit) (event_texts x0 events) head followed.plain

    pub rejected-next : (number : ℕ) → IsNotNext end rest → number ≡ length events + 3 → FirstWrong setup (joined (head_lines version limit) ++ text) number
    rejected-next number next is = record {
      before = before;
      behind = rest;
      whole = plain-before;
      split = split;
      right = right;
      wrong = wrong-next rest next;
      is = omega (arith, is, length-texts x0 events);
    }

  -- the events end by a `stop` with this behind it
  module _ (text rest : List ℕ) (head : AllByRecursion (HasNo 10) (head_lines version limit)) (plain_stop : HasNo 10 stop) (followed : Followed x0 text (stop ++ 10 ∷ rest) events) where
    split-closed : joined (head_lines version limit) ++ text ≡ joined (before ++ stop ∷ []) ++ rest
    split-closed =
        split text (stop ++ 10 ∷ rest) head followed
        ∙ sym (append_assoc (joined before) (joined (stop ∷ [])) rest)
        ∙ ap (λ t. t ++ rest) (sym (joined-append before (stop ∷ [])))

    pub rejected-more : (number : ℕ) → IsMore rest → number ≡ length events + 4 → FirstWrong setup (joined (head_lines version limit) ++ text) number
    rejected-more number more is = record {
      before = before ++ stop ∷ [];
      behind = rest;
      whole = all-append (HasNo 10) before (stop ∷ []) (plain-before text (stop ++ 10 ∷ rest) head followed) (plain_stop, tt);
      split = split-closed;
      right = right-closed;
      wrong = wrong-more rest more;
      is = omega (arith, is, length-texts x0 events, length-append before (stop ∷ []));
    }

    pub accepted : (count : ℕ) → rest ≡ [] → count ≡ length events → IsTrueText setup (joined (head_lines version limit) ++ text) count
    accepted count none is = record {
      version = version;
      has_setup = has_setup;
      limit = limit;
      is_limit = is_limit;
      events = events;
      steps = steps;
      has_events = has;
      plain = subst (AllByRecursion (HasNo 10)) (regroup (head_lines version limit) (event_texts x0 events) (stop ∷ [])) (all-append (HasNo 10) before (stop ∷ []) (plain-before text (stop ++ 10 ∷ rest) head followed) (plain_stop, tt));
      counted = is;
      is = split-closed ∙ ap (λ r. joined (before ++ stop ∷ []) ++ r) none ∙ append-nil (joined (before ++ stop ∷ []))
          ∙ ap joined (regroup (head_lines version limit) (event_texts x0 events) (stop ∷ []));
    }

-- THE VERDICT: where the lines behind the head were followed, the verdict is that of TrueText
pub verdict-is : (version : Version) (setup : Setup) (limit : ℕ) → HasSetup version setup → IsLimit limit → Reads setup.names → Agree setup
    → ((events : List Event) → IsTrail (start_by version setup limit) events → AreSmall (start_by version setup limit) events)
    → AllByRecursion (HasNo 10) (head_lines version limit) → HasNo 10 stop → (text : List ℕ) (verdict : Verdict) → IsFollowed (start_by version setup limit) text verdict
    → IsVerdict setup (joined (head_lines version limit) ++ text) verdict
verdict-is version setup limit has_setup is_limit reads agree small head plain_stop text (Accepted count) f =
    accepted version setup has_setup limit is_limit (reads, agrees-by version setup agree) f.0 f.1.steps f.1.has (small f.0 f.1.steps) text [] head plain_stop f.1 count refl f.2
verdict-is version setup limit has_setup is_limit reads agree small head plain_stop text (Rejected number) f = go f.2
  where
    plain : IsPlain (start_by version setup limit)
    plain = (reads, agrees-by version setup agree)

    go : ((Followed (start_by version setup limit) text f.1 f.0 × IsNotNext (state_after (start_by version setup limit) f.0) f.1 × (number ≡ length f.0 + 3))
        ⊎ (Followed (start_by version setup limit) text (stop ++ 10 ∷ f.1) f.0 × IsMore f.1 × (number ≡ length f.0 + 4)))
        → FirstWrong setup (joined (head_lines version limit) ++ text) number
    go (inl t) = rejected-next version setup has_setup limit is_limit plain f.0 t.0.steps t.0.has (small f.0 t.0.steps) text f.1 head t.0 number t.1 t.2
    go (inr t) = rejected-more version setup has_setup limit is_limit plain f.0 t.0.steps t.0.has (small f.0 t.0.steps) text f.1 head plain_stop t.0 number t.1 t.2

-- the head lines and the closing `stop` have no LF
no_lf : (n : ℕ) → 10 < n → n ≢ 10
no_lf n lt e = absurd (omega (arith, e))

pub stop-plain : HasNo 10 stop
stop-plain = (no_lf 115 (lit< tt), (no_lf 116 (lit< tt), (no_lf 111 (lit< tt), (no_lf 112 (lit< tt), tt))))

limit-plain : (limit : ℕ) → limit < 2 ^ 64 → HasNo 10 (codes "limit " ++ decimal limit)
limit-plain limit lt =
    (no_lf 108 (lit< tt), (no_lf 105 (lit< tt), (no_lf 109 (lit< tt), (no_lf 105 (lit< tt), (no_lf 116 (lit< tt), (no_lf 32 (lit< tt), decimal-has_no 10 (lit< tt) limit lt))))))

pub head-plain : (version : Version) (limit : ℕ) → IsLimit limit → AllByRecursion (HasNo 10) (head_lines version limit)
head-plain version limit is_limit = (version-plain version, (limit-plain limit (omega (arith, is_limit.1)), tt))
