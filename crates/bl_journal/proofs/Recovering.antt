-- What is recovered goes on from what was kept.
use Rattle.std.proofs.Common.{◌≡◌, ℕ, List, [], ◌∷◌, ◌++◌, length, refl, sym, ◌∙◌, ap, subst, arith, append_assoc, length-append, append-nil}
use Rattle.std.specs.Prelude.{codes}
use Rattle.std.specs.List.{AllByRecursion}
use Rattle.bl_disk.specs.File.{Begins}
use Rattle.bl_setup.specs.Agreement.{Agree}
use Rattle.bl_setup.specs.Setup.{Setup, by_version}
use Rattle.bl_setup.specs.declared.version.Version.{Version}
use Rattle.bl_order.specs.Machine.{State, Event, IsTrail, change, start, state_after}
use Rattle.bl_trail.specs.Asks.{HasNo}
use Rattle.bl_trail.specs.EventText.{event_text}
use Rattle.bl_trail.specs.OneEvent.{Reads, AreSmall}
use Rattle.bl_trail.specs.TrueText.{IsLimit, IsTrueText, event_texts, head_lines, joined}
use Rattle.bl_trail.specs.Versions.{HasEvents}
use Rattle.bl_trail.proofs.Following.{joined-append, all-append, setup-kept}
use Rattle.bl_trail.proofs.OneEventLaw.{one_event}
use Rattle.bl_trail.proofs.Verdicts.{agrees-by, head-plain, stop-plain}
use Rattle.bl_journal.specs.Journals.{GoesNoFurther, GoesOnFrom, IsHistory, IsRecovered, Journal, first_state, journal_text, last_state, lines_of_events}
use Rattle.bl_journal.proofs.Heading.{one-head, regroup, same_line, split}

-- what is known of a state whose events have one text each
abbrev IsPlain : State → Type 0
IsPlain x = Reads x.setup.names × Agree x.setup

plain-kept : (x : State) (e : Event) → IsPlain x → IsPlain (change x e)
plain-kept x e p = subst (λ (s : Setup). Reads s.names × Agree s) (setup-kept x e) p

-- the version of a state has these events
abbrev Has : State → List Event → Type 0
Has x events = HasEvents x.setup.version events

has-kept : (x : State) (e : Event) (events : List Event) → Has x events → Has (change x e) events
has-kept x e events h = subst (λ (s : Setup). HasEvents s.version events) (setup-kept x e) h

-- events that stand first in a text are the first of those that were found in it
begins : (x : State) (kept found : List Event) (tail rest : List ℕ) → IsPlain x → AreSmall x kept → IsTrail x kept → IsTrail x found → Has x kept
    → AllByRecursion (HasNo 10) (event_texts x kept) → AllByRecursion (HasNo 10) (event_texts x found) → GoesNoFurther (state_after x found) rest
    → joined (event_texts x kept) ++ tail ≡ joined (event_texts x found) ++ rest → Begins kept found
begins x [] found tail rest plain small steps others has p q none h = (found, refl)
begins x (e ∷ kept) [] tail rest plain small steps others has p q none h =
    absurd (none e (joined (event_texts (change x e) kept) ++ tail) steps.0 has.0 p.0 (sym h ∙ regroup (event_text x e) (event_texts (change x e) kept) tail))
begins x (e ∷ kept) (f ∷ found) tail rest plain small steps others has p q none h =
    let t : (event_text x e ≡ event_text x f) × (joined (event_texts (change x e) kept) ++ tail ≡ joined (event_texts (change x f) found) ++ rest) =
    same_line (event_text x e) (event_text x f) (joined (event_texts (change x e) kept) ++ tail) (joined (event_texts (change x f) found) ++ rest) p.0 q.0
    (sym (regroup (event_text x e) (event_texts (change x e) kept) tail) ∙ h ∙ regroup (event_text x f) (event_texts (change x f) found) rest) in
    let same : f ≡ e = one_event x plain.0 plain.1 small.0 f e others.0 steps.0 (sym t.0) in
    let r : Begins kept found =
    begins (change x e) kept found tail rest (plain-kept x e plain) small.1 steps.1 (subst (λ d. IsTrail (change x d) found) same others.1) (has-kept x e kept has.1) p.1
    (subst (λ d. AllByRecursion (HasNo 10) (event_texts (change x d) found)) same q.1) (subst (λ d. GoesNoFurther (state_after (change x d) found) rest) same none)
    (t.1 ∙ ap (λ d. joined (event_texts (change x d) found) ++ rest) same) in
    (r.0, ap (λ d. d ∷ found) same ∙ ap (λ l. e ∷ l) r.1)

-- two lists that begin with each other are one
one-list : (a b : List Event) → Begins a b → Begins b a → b ≡ a
one-list a b (s, p) (t, q) =
    p ∙ ap (λ l. a ++ l) (none s (omega (arith, ap length p, ap length q, length-append a s, length-append b t))) ∙ append-nil a
  where
    none : (l : List Event) → length l ≡ 0 → l ≡ []
    none [] h = refl
    none (e ∷ l) h = absurd (omega (arith, h))

abbrev made : Version → ℕ → List Event → Journal
made version limit events = record { version = version; limit = limit; events = events }

-- two journals that go on from each other are one
one-journal : (a b : Journal) → GoesOnFrom a b → GoesOnFrom b a → b ≡ a
one-journal a b first second =
    ap (λ v. made v b.limit b.events) first.version
    ∙ ap (λ l. made a.version l b.events) first.limit
    ∙ ap (made a.version a.limit) (one-list a.events b.events first.events second.events)

module _ (setup : Setup) (reads : Reads setup.names) (agree : Agree setup)
    (small : (version : Version) (limit : ℕ) (events : List Event) → IsLimit limit → IsTrail (start (by_version version setup) limit) events
    → AreSmall (start (by_version version setup) limit) events) where
  -- of journals with one version and one limit
  same-head : (kept found : Journal) (tail rest : List ℕ) → found.version ≡ kept.version → found.limit ≡ kept.limit → IsHistory setup kept → IsHistory setup found
      → GoesNoFurther (state_after (first_state setup found) found.events) rest
      → joined (lines_of_events setup kept) ++ tail ≡ joined (lines_of_events setup found) ++ rest → Begins kept.events found.events
  same-head kept found tail rest version limit history other none h =
      let same : first_state setup found ≡ first_state setup kept =
      ap (λ v. start (by_version v setup) found.limit) version ∙ ap (start (by_version kept.version setup)) limit in
      begins (first_state setup kept) kept.events found.events tail rest (reads, agrees-by kept.version setup agree)
      (small kept.version kept.limit kept.events history.is_limit history.steps) history.steps (subst (λ x. IsTrail x found.events) same other.steps) history.has_events
      history.plain (subst (λ x. AllByRecursion (HasNo 10) (event_texts x found.events)) same other.plain)
      (subst (λ x. GoesNoFurther (state_after x found.events) rest) same none)
      (h ∙ ap (λ x. joined (event_texts x found.events) ++ rest) same)

  pub kept-first : (kept found : Journal) (tail : List ℕ) → IsHistory setup kept → IsRecovered setup (journal_text setup kept ++ tail) found → GoesOnFrom kept found
  kept-first kept found tail history recovered =
      let t : (kept.version ≡ found.version) × (kept.limit ≡ found.limit)
      × (joined (lines_of_events setup kept) ++ tail ≡ joined (lines_of_events setup found) ++ recovered.rest) =
      one-head kept.version found.version kept.limit found.limit (joined (lines_of_events setup kept) ++ tail) (joined (lines_of_events setup found) ++ recovered.rest)
      history.is_limit recovered.history.is_limit (sym (split setup kept tail) ∙ recovered.split ∙ split setup found recovered.rest) in
      record {
        version = sym t.0;
        limit = sym t.1;
        events = same-head kept found tail recovered.rest (sym t.0) (sym t.1) history recovered.history recovered.no_further t.2;
      }

  pub one-found : (file : List ℕ) (one other : Journal) → IsRecovered setup file one → IsRecovered setup file other → one ≡ other
  one-found file one other a b =
      one-journal other one
      (kept-first other one b.rest b.history (subst (λ f. IsRecovered setup f one) b.split a))
      (kept-first one other a.rest a.history (subst (λ f. IsRecovered setup f other) a.split b))

-- a text with an LF has one
has-lf : (a b : List ℕ) → HasNo 10 (a ++ 10 ∷ b) → ⊥
has-lf [] b h = h.0 refl
has-lf (x ∷ a) b h = has-lf a b h.1

-- behind a history no line begins with a text that has no LF
pub torn-end : (setup : Setup) (kept : Journal) (tail : List ℕ) → IsHistory setup kept → HasNo 10 tail → IsRecovered setup (journal_text setup kept ++ tail) kept
torn-end setup kept tail history none = record {
  history = history;
  rest = tail;
  split = refl;
  no_further = λ event more needs has plain is. has-lf (event_text (last_state setup kept) event) more (subst (HasNo 10) is none);
}

-- of a first part of a text, what is recovered is a first part of the events
pub happened : (setup : Setup)
    → ((kept found : Journal) (tail : List ℕ) → IsHistory setup kept → IsRecovered setup (journal_text setup kept ++ tail) found → GoesOnFrom kept found)
    → (all found : Journal) (file : List ℕ) → IsHistory setup all → Begins file (journal_text setup all) → IsRecovered setup file found → GoesOnFrom found all
happened setup kept all found file history part recovered =
    kept found all (recovered.rest ++ part.0) recovered.history (subst (λ f. IsRecovered setup f all) same (torn-end setup all [] history tt))
  where
    same : journal_text setup all ++ [] ≡ journal_text setup found ++ (recovered.rest ++ part.0)
    same =
        append-nil (journal_text setup all)
        ∙ part.1
        ∙ ap (λ f. f ++ part.0) recovered.split
        ∙ append_assoc (journal_text setup found) recovered.rest part.0

-- a journal that is closed is a true text
pub closed-true : (setup : Setup) (journal : Journal) → IsHistory setup journal → IsTrueText setup (journal_text setup journal ++ codes "stop\n") (length journal.events)
closed-true setup journal history = record {
  version = journal.version;
  has_setup = history.has_setup;
  limit = journal.limit;
  is_limit = history.is_limit;
  events = journal.events;
  steps = history.steps;
  has_events = history.has_events;
  plain = all-append (HasNo 10) (head_lines journal.version journal.limit) _ (head-plain journal.version journal.limit history.is_limit)
      (all-append (HasNo 10) (lines_of_events setup journal) _ history.plain (stop-plain, tt));
  is = sym (joined-append (head_lines journal.version journal.limit ++ lines_of_events setup journal) (codes "stop" ∷ []))
      ∙ ap joined (append_assoc (head_lines journal.version journal.limit) (lines_of_events setup journal) (codes "stop" ∷ []));
  counted = refl;
}
