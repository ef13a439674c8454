-- A trail, event by event.
use Rattle.std.proofs.Common.{◌≡◌, ℕ, zero, suc, ◌+◌, ◌-◌, ◌<◌, ◌≤◌, List, [], ◌∷◌, ◌++◌, length, take, drop, get_or, refl, sym, ◌∙◌, ap, subst, arith, append-nil, append_assoc, add-one, take_all, length-drop}
use Rattle.std.specs.Prelude.{Option, Result, Ok, Err, OnErr, codes, map}
use Rattle.std.specs.List.{AllByRecursion}
use Rattle.std.specs.Io.KnownBytes.{Appends}
use Rattle.std.proofs.KnownBytes.{Appends-nil, Appends-trans}
use Rattle.std.proofs.lemmas.List.{length-map, take-append-drop}
use Rattle.bl_setup.specs.Setup.{by_version}
use Rattle.bl_setup.specs.declared.version.Version.TheVariants.{Two}
use Rattle.bl_order.specs.Headline.{IsReached}
use Rattle.bl_order.specs.Machine.{State, Event, Opens, IsTrail, change, start, state_after}
use Rattle.bl_order.proofs.Reached.{reached-first, reached-next}
use Rattle.bl_hall.specs.Chronicle.{Chronicle, HasTrail, kept_of, state_now}
use Rattle.bl_hall.specs.declared.event.Event as kept
use Rattle.bl_hall.proofs.Recalling.{same-limit, same-setup}
use Rattle.bl_wire.specs.Watch.{EndState, Puts}
use Rattle.bl_trail.specs.EventText.{event_text}
use Rattle.bl_trail.specs.TrueText.{HasNoLf, IsLimit, IsTrueText, event_texts, head_lines, joined}
use Rattle.bl_trail.proofs.Following.{all-append, joined-append, two-has-all}
use Rattle.bl_trail.proofs.Heading.{version-plain}
use Rattle.bl_audit.specs.Bookmarks.{IsBookmark, texts_after}
use Rattle.bl_audit.specs.Comes.{Comes, lines_from, works_in}
use Rattle.bl_audit.specs.declared.bookmark.Bookmark.{Bookmark}
use Rattle.bl_audit.specs.Written.{AppendsPart, WroteLine, trail_text}
use Rattle.bl_audit.proofs.WithoutLf.{plain-limit, plain-stop}

-- the event of a place in a trail, and those after it
abbrev pub event_at : List Event → ℕ → Event
event_at es i = get_or es i (Opens 0)

drop-all : (es : List Event) (i : ℕ) → length es ≤ i → drop i es ≡ []
drop-all [] zero le = refl
drop-all [] (suc i) le = refl
drop-all (e ∷ es) zero le = absurd (omega (arith, le))
drop-all (e ∷ es) (suc i) le = drop-all es i (omega (arith, le))

-- after all events none admits a line
pub none-in : (es : List Event) (ks : List kept.Event) → length ks ≡ length es → works_in (drop (length ks) es) ≡ []
none-in es ks all = ap works_in (drop-all es (length ks) (omega (arith, all)))

cut : (es : List Event) (i : ℕ) → i < length es → drop i es ≡ event_at es i ∷ drop (suc i) es
cut [] i lt = absurd (omega arith)
cut (e ∷ es) zero lt = refl
cut (e ∷ es) (suc i) lt = cut es i (omega (arith, lt))

steps-at : (x : State) (es : List Event) (i : ℕ) → IsTrail x es → IsTrail (state_after x (take i es)) (drop i es)
steps-at x [] zero steps = tt
steps-at x [] (suc i) steps = tt
steps-at x (e ∷ es) zero steps = steps
steps-at x (e ∷ es) (suc i) steps = steps-at (change x e) es i steps.1

leads-at : (x : State) (es : List Event) (i : ℕ) → state_after x es ≡ state_after (state_after x (take i es)) (drop i es)
leads-at x [] zero = refl
leads-at x [] (suc i) = refl
leads-at x (e ∷ es) zero = refl
leads-at x (e ∷ es) (suc i) = leads-at (change x e) es i

reached-at : (x : State) (es : List Event) (i : ℕ) → IsReached x → IsTrail x es → IsReached (state_after x (take i es))
reached-at x [] zero reached steps = reached
reached-at x [] (suc i) reached steps = reached
reached-at x (e ∷ es) zero reached steps = reached
reached-at x (e ∷ es) (suc i) reached steps = reached-at (change x e) es i (reached-next x e reached steps.0) steps.1

texts-at : (x : State) (es : List Event) (i : ℕ) → event_texts x es ≡ event_texts x (take i es) ++ event_texts (state_after x (take i es)) (drop i es)
texts-at x [] zero = refl
texts-at x [] (suc i) = refl
texts-at x (e ∷ es) zero = refl
texts-at x (e ∷ es) (suc i) = ap (λ l. event_text x e ∷ l) (texts-at (change x e) es i)

texts-next : (x : State) (es : List Event) (i : ℕ) → i < length es
    → event_texts x (take (suc i) es) ≡ event_texts x (take i es) ++ event_text (state_after x (take i es)) (event_at es i) ∷ []
texts-next x [] i lt = absurd (omega (arith, lt))
texts-next x (e ∷ es) zero lt = refl
texts-next x (e ∷ es) (suc i) lt = ap (λ l. event_text x e ∷ l) (texts-next (change x e) es i (omega (arith, lt)))

-- the events that stand after the first so many, as they are kept
pub kept-after : (ks : List kept.Event) (n : ℕ) (es : List Event) → ks ≡ map kept_of es → take (length ks - n) (drop n ks) ≡ map kept_of (drop n es)
kept-after ks n es all = whole ks n ∙ ap (drop n) all ∙ go n es
  where
    whole : (ks : List kept.Event) (n : ℕ) → take (length ks - n) (drop n ks) ≡ drop n ks
    whole ks n = take_all (length ks - n) (drop n ks) (omega (arith, length-drop n ks))

    go : (n : ℕ) (es : List Event) → drop n (map kept_of es) ≡ map kept_of (drop n es)
    go zero es = refl
    go (suc n) [] = refl
    go (suc n) (e ∷ es) = go n es

pub as-many-kept : (ks : List kept.Event) (n : ℕ) (es : List Event) → ks ≡ map kept_of es → length (take (length ks - n) (drop n ks)) ≡ length (drop n es)
as-many-kept ks n es all = ap length (kept-after ks n es all) ∙ length-map (drop n es) kept_of

pub kept-at : (es : List Event) (ks : List kept.Event) (i : ℕ) (k : kept.Event) → ks ≡ map kept_of es → i < length ks → k ≡ get_or ks i k
    → (i < length es) × (kept_of (event_at es i) ≡ k)
kept-at es ks i k all lt is = go es i k (subst (λ l. i < length l) all lt) (is ∙ ap (λ l. get_or l i k) all)
  where
    go : (es : List Event) (i : ℕ) (k : kept.Event) → i < length (map kept_of es) → k ≡ get_or (map kept_of es) i k → (i < length es) × (kept_of (event_at es i) ≡ k)
    go [] i k lt is = absurd (omega (arith, lt))
    go (e ∷ es) zero k lt is = (omega arith, sym is)
    go (e ∷ es) (suc i) k lt is = let t : (i < length es) × (kept_of (event_at es i) ≡ k) = go es i k (omega (arith, lt)) is in (omega (arith, t.0), t.1)

-- The lines of the first events after a state were written, and the lines of sessions among the others stand from this place of the order on.
pub record WroteFirst (x : State) (es : List Event) (i at : ℕ) (old new : Option (List ℕ)) : Type 0 where
  pub text : Appends old new (joined (event_texts x (take i es)))
  pub plain : AllByRecursion HasNoLf (event_texts x (take i es))
  pub place : at ≤ length (state_after x es).order
  pub lines : lines_from (state_after x es) at ≡ works_in (drop i es)

one-line : (l : List ℕ) → joined (l ∷ []) ≡ l ++ 10 ∷ []
one-line l = append-nil (l ++ 10 ∷ [])

module _ (x : State) (es : List Event) where
  -- the state that the event of a place finds
  abbrev pub found : ℕ → State
  found i = state_after x (take i es)

  module _ (i at : ℕ) (old mid : Option (List ℕ)) (lt : i < length es) (wrote : WroteFirst x es i at old mid) where
    pub comes : IsReached x → IsTrail x es → Comes (found i) (event_at es i) (drop (suc i) es) (state_after x es) at
    comes reached steps = record {
      reached = reached-at x es i reached steps;
      steps = subst (IsTrail (found i)) (cut es i lt) (steps-at x es i steps);
      leads = leads-at x es i ∙ ap (state_after (found i)) (cut es i lt);
      place = wrote.place;
      lines = wrote.lines ∙ ap works_in (cut es i lt);
    }

    pub wrote-next : (next : ℕ) (new : Option (List ℕ)) → WroteLine (found i) (event_at es i) (drop (suc i) es) (state_after x es) next mid new → WroteFirst x es (i + 1) next old new
    wrote-next next new line = record {
      text = subst (Appends old new)
          (ap (λ l. joined (event_texts x (take i es)) ++ l) (sym (one-line text))
          ∙ sym (joined-append (event_texts x (take i es)) (text ∷ [])) ∙ ap joined (sym (next-texts)))
          (Appends-trans old mid new (joined (event_texts x (take i es))) (text ++ 10 ∷ []) wrote.text line.text);
      plain = subst (AllByRecursion HasNoLf) (sym next-texts) (all-append HasNoLf (event_texts x (take i es)) (text ∷ []) wrote.plain (line.plain, tt));
      place = line.place;
      lines = line.rest ∙ ap (λ j. works_in (drop j es)) (sym (add-one i));
    }
      where
        text : List ℕ
        text = event_text (found i) (event_at es i)

        next-texts : event_texts x (take (i + 1) es) ≡ event_texts x (take i es) ++ text ∷ []
        next-texts = ap (λ j. event_texts x (take j es)) (add-one i) ∙ texts-next x es i lt

    pub wrote-part : (new : Option (List ℕ)) → AppendsPart mid new (event_text (found i) (event_at es i) ++ 10 ∷ []) → AppendsPart old new (joined (event_texts x es))
    wrote-part new part = (
      joined (event_texts x (take i es)) ++ part.0,
      part.1 ++ joined later,
      Appends-trans old mid new (joined (event_texts x (take i es))) part.0 wrote.text part.2,
      ap joined (texts-at x es i) ∙ joined-append (event_texts x (take i es)) (event_texts (found i) (drop i es))
          ∙ ap (λ l. joined (event_texts x (take i es)) ++ l)
          (ap (λ ds. joined (event_texts (found i) ds)) (cut es i lt) ∙ ap (λ l. l ++ joined later) part.3 ∙ append_assoc part.0 part.1 (joined later))
          ∙ sym (append_assoc (joined (event_texts x (take i es))) part.0 (part.1 ++ joined later)),
    )
      where
        later : List (List ℕ)
        later = event_texts (change (found i) (event_at es i)) (drop (suc i) es)

  module _ (at : ℕ) (old new : Option (List ℕ)) (i : ℕ) (le : length es ≤ i) (wrote : WroteFirst x es i at old new) where
    pub wrote-text : Appends old new (joined (event_texts x es))
    wrote-text = subst (λ ds. Appends old new (joined (event_texts x ds))) (take_all i es le) wrote.text

    pub wrote-plain : AllByRecursion HasNoLf (event_texts x es)
    wrote-plain = subst (λ ds. AllByRecursion HasNoLf (event_texts x ds)) (take_all i es le) wrote.plain

    -- no lines are left
    pub wrote-lines : lines_from (state_after x es) at ≡ []
    wrote-lines = wrote.lines ∙ ap works_in (drop-all es i le)

module _ (h : Chronicle) where
  abbrev pub first : State
  first = start h.setup h.limit

  -- where the first so many events lead, and the others
  abbrev pub state_at : ℕ → State
  state_at n = state_after first (take n h.trail)

  abbrev pub events_after : ℕ → List Event
  events_after n = drop n h.trail

  pub leads-on : (n : ℕ) → state_now h ≡ state_after (state_at n) (events_after n)
  leads-on n = leads-at first h.trail n

  pub steps-on : (n : ℕ) → HasTrail h → IsTrail (state_at n) (events_after n)
  steps-on n trail = steps-at first h.trail n trail

  pub reached-on : (n : ℕ) → HasTrail h → IsReached (state_at n)
  reached-on n trail = reached-at first h.trail n (reached-first h.setup h.limit) trail

  pub wrote-none : (b : Bookmark) (old : Option (List ℕ)) → IsBookmark h b → WroteFirst (state_at b.written) (events_after b.written) 0 b.place old old
  wrote-none b old is = record {
    text = Appends-nil old;
    plain = tt;
    place = subst (λ (y : State). b.place ≤ length y.order) (leads-on b.written) is.place;
    lines = subst (λ (y : State). lines_from y b.place ≡ works_in (events_after b.written)) (leads-on b.written) is.lines;
  }

  pub nothing-after : events_after (length h.trail) ≡ []
  nothing-after = drop-all h.trail (length h.trail) (omega arith)

  -- when all lines after a bookmark were written, it stands at the end
  pub at-end : (n at : ℕ) (old new : Option (List ℕ)) (i : ℕ) → length (events_after n) ≤ i → WroteFirst (state_at n) (events_after n) i at old new
      → (b : Bookmark) → b.written ≡ length h.trail → b.place ≡ at → IsBookmark h b
  at-end n at old new i le wrote b written place = record {
    written = omega (arith, written);
    place = subst (λ (y : State). b.place ≤ length y.order) (sym (leads-on n)) (subst (λ p. p ≤ length (state_after (state_at n) (events_after n)).order) (sym place) wrote.place);
    lines = ap (lines_from (state_now h)) place
        ∙ ap (λ (y : State). lines_from y at) (leads-on n)
        ∙ wrote-lines (state_at n) (events_after n) at old new i le wrote
        ∙ ap works_in (sym nothing-after)
        ∙ ap (λ m. works_in (events_after m)) (sym written);
  }

  -- all texts are those after no event
  pub all-after : (P : List (List ℕ) → Type 0) (n : ℕ) → n ≡ 0 → P (texts_after h n) → P (event_texts first h.trail)
  all-after P n none p = subst (λ m. P (texts_after h m)) none p

  -- ---- the whole text

  pub limit-now : (state_now h).limit ≡ h.limit
  limit-now = go first h.trail
    where
      go : (x : State) (es : List Event) → (state_after x es).limit ≡ x.limit
      go x [] = refl
      go x (e ∷ es) = go (change x e) es ∙ same-limit x e

  pub setup-now : (state_now h).setup ≡ h.setup
  setup-now = go first h.trail
    where
      go : (x : State) (es : List Event) → (state_after x es).setup ≡ x.setup
      go x [] = refl
      go x (e ∷ es) = go (change x e) es ∙ same-setup x e

  -- ---- by version 2, which a setup that was read has

  module _ (two : h.setup.version ≡ Two) where
    -- a run over a setup of version 2 is judged by it
    begins : first ≡ start (by_version Two h.setup) h.limit
    begins = ap (λ v. start (by_version v h.setup) h.limit) two

    abbrev head : List ℕ
    head = joined (head_lines Two h.limit)

    whole : trail_text h.setup h.limit h.trail ≡ head ++ (joined (event_texts first h.trail) ++ codes "stop\n")
    whole = ap (λ x. joined (head_lines Two h.limit ++ (event_texts x h.trail ++ codes "stop" ∷ []))) (sym begins)
        ∙ joined-append (head_lines Two h.limit) (event_texts first h.trail ++ codes "stop" ∷ [])
        ∙ ap (λ l. head ++ l) (joined-append (event_texts first h.trail) (codes "stop" ∷ []))

    pub wrote-whole : (a b c d : Option (List ℕ)) → Appends a b head → Appends b c (joined (event_texts first h.trail)) → Appends c d (codes "stop\n")
        → Appends a d (trail_text h.setup h.limit h.trail)
    wrote-whole a b c d p q r =
        subst (Appends a d) (sym whole)
        (Appends-trans a b d head (joined (event_texts first h.trail) ++ codes "stop\n") p (Appends-trans b c d (joined (event_texts first h.trail)) (codes "stop\n") q r))

    -- a first part of the head, of the events, or of the end
    pub part-head : (a b : Option (List ℕ)) → AppendsPart a b head → AppendsPart a b (trail_text h.setup h.limit h.trail)
    part-head a b part = (
      part.0,
      part.1 ++ (joined (event_texts first h.trail) ++ codes "stop\n"),
      part.2,
      whole ∙ ap (λ l. l ++ (joined (event_texts first h.trail) ++ codes "stop\n")) part.3 ∙ append_assoc part.0 part.1 (joined (event_texts first h.trail) ++ codes "stop\n"),
    )

    pub part-events : (a b c : Option (List ℕ)) → Appends a b head → AppendsPart b c (joined (event_texts first h.trail)) → AppendsPart a c (trail_text h.setup h.limit h.trail)
    part-events a b c p part = (
      head ++ part.0,
      part.1 ++ codes "stop\n",
      Appends-trans a b c head part.0 p part.2,
      whole ∙ ap (λ l. head ++ (l ++ codes "stop\n")) part.3 ∙ ap (λ l. head ++ l) (append_assoc part.0 part.1 (codes "stop\n"))
          ∙ sym (append_assoc head part.0 (part.1 ++ codes "stop\n")),
    )

    pub part-stop : (a b c d : Option (List ℕ)) → Appends a b head → Appends b c (joined (event_texts first h.trail)) → AppendsPart c d (codes "stop\n")
        → AppendsPart a d (trail_text h.setup h.limit h.trail)
    part-stop a b c d p q part = (
      head ++ (joined (event_texts first h.trail) ++ part.0),
      part.1,
      Appends-trans a b d head (joined (event_texts first h.trail) ++ part.0) p (Appends-trans b c d (joined (event_texts first h.trail)) part.0 q part.2),
      whole ∙ ap (λ l. head ++ (joined (event_texts first h.trail) ++ l)) part.3
          ∙ ap (λ l. head ++ l) (sym (append_assoc (joined (event_texts first h.trail)) part.0 part.1))
          ∙ sym (append_assoc head (joined (event_texts first h.trail) ++ part.0) part.1),
    )

    pub true-text : HasTrail h → AllByRecursion HasNoLf (event_texts first h.trail) → IsLimit h.limit → IsTrueText h.setup (trail_text h.setup h.limit h.trail) (length h.trail)
    true-text trail plain limit = record {
      version = Two;
      has_setup = tt;
      limit = h.limit;
      is_limit = limit;
      events = h.trail;
      steps = subst (λ x. IsTrail x h.trail) begins trail;
      has_events = two-has-all h.trail;
      plain = (
        version-plain Two,
        (plain-limit h.limit (omega (arith, limit.1)), all-append HasNoLf _ (codes "stop" ∷ []) (subst (λ x. AllByRecursion HasNoLf (event_texts x h.trail)) begins plain) (plain-stop, tt)),
      );
      is = refl;
      counted = refl;
    }

-- what was put is a first part
pub part-put : (t : List ℕ) (x y : EndState) → Puts t x y → AppendsPart x.bytes y.bytes t
part-put t x y p = (take p.much t, drop p.much t, p.bytes, sym (take-append-drop p.much t))

-- and so is what was taken
pub part-taken : (t : List ℕ) (a b : Option (List ℕ)) → ((n : ℕ) × Appends a b (take n t)) → AppendsPart a b t
part-taken t a b some = (take some.0 t, drop some.0 t, some.1, sym (take-append-drop some.0 t))

-- what holds anyway holds after an error
pub on_err : {T E : Type 0} (r : Result T E) (P : Type 0) → P → OnErr r P
on_err (Ok t) P p = tt
on_err (Err e) P p = p
