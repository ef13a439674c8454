-- The text of a hall that has grown.
use Rattle.std.proofs.Common.{◌≡◌, List, [], ◌∷◌, ◌++◌, length, take, drop, refl, sym, ◌∙◌, ap, subst, append_assoc}
use Rattle.std.specs.List.{AllByRecursion}
use Rattle.bl_audit.specs.Bookmarks.{HasGrown, texts_after}
use Rattle.bl_hall.specs.Chronicle.{Chronicle, HasTrail}
use Rattle.bl_journal.specs.Journals.{IsHistory, journal_text, last_state, lines_of_events}
use Rattle.bl_order.specs.Machine.{State, Event, IsTrail, change, start, state_after}
use Rattle.bl_rebuild.proofs.Recovering.{by-two}
use Rattle.bl_rebuild.specs.Rebuilds.{journal_of}
use Rattle.bl_setup.specs.Setup.{by_version}
use Rattle.bl_setup.specs.declared.version.Version.TheVariants.{Two}
use Rattle.bl_trail.proofs.Following.{all-append, joined-append, two-has-all}
use Rattle.bl_trail.specs.EventText.{event_text}
use Rattle.bl_trail.specs.TrueText.{HasNoLf, event_texts, head_lines, joined}

abbrev pub longer : Chronicle → List Event → Chronicle
longer h more = record { setup = h.setup; limit = h.limit; trail = h.trail ++ more }

pub as-longer : (before after : Chronicle) → (grown : HasGrown before after) → after ≡ longer before grown.more
as-longer before after grown = λ i. record { setup = grown.setup i; limit = grown.limit i; trail = grown.trail i }

front : (a b : List Event) → take (length a) (a ++ b) ≡ a
front [] b = refl
front (e ∷ a) b = ap (λ l. e ∷ l) (front a b)

back : (a b : List Event) → drop (length a) (a ++ b) ≡ b
back [] b = refl
back (e ∷ a) b = back a b

pub texts-both : (x : State) (a b : List Event) → event_texts x (a ++ b) ≡ event_texts x a ++ event_texts (state_after x a) b
texts-both x [] b = refl
texts-both x (e ∷ a) b = ap (λ l. event_text x e ∷ l) (texts-both (change x e) a b)

module _ (h : Chronicle) (more : List Event) (two : h.setup.version ≡ Two) where
  pub begins : start (by_version Two h.setup) h.limit ≡ start h.setup h.limit
  begins = ap (λ s. start s h.limit) (by-two h.setup two)

  -- the lines after those that stood are those of the events that came
  after : texts_after (longer h more) (length h.trail) ≡ event_texts (last_state h.setup (journal_of h)) more
  after =
      ap (λ es. event_texts (state_after (start h.setup h.limit) es) (drop (length h.trail) (h.trail ++ more))) (front h.trail more)
      ∙ ap (event_texts (state_after (start h.setup h.limit) h.trail)) (back h.trail more)
      ∙ ap (λ x. event_texts (state_after x h.trail) more) (sym begins)

  all-texts : lines_of_events h.setup (journal_of (longer h more)) ≡ lines_of_events h.setup (journal_of h) ++ texts_after (longer h more) (length h.trail)
  all-texts =
      texts-both (start (by_version Two h.setup) h.limit) h.trail more
      ∙ ap (λ l. lines_of_events h.setup (journal_of h) ++ l) (sym after)

  pub longer-text : journal_text h.setup (journal_of (longer h more)) ≡ journal_text h.setup (journal_of h) ++ joined (texts_after (longer h more) (length h.trail))
  longer-text =
      ap (λ l. joined (head_lines Two h.limit ++ l)) all-texts
      ∙ ap joined (sym (append_assoc (head_lines Two h.limit) (lines_of_events h.setup (journal_of h)) (texts_after (longer h more) (length h.trail))))
      ∙ joined-append (head_lines Two h.limit ++ lines_of_events h.setup (journal_of h)) (texts_after (longer h more) (length h.trail))

  pub longer-history : IsHistory h.setup (journal_of h) → HasTrail (longer h more) → AllByRecursion HasNoLf (texts_after (longer h more) (length h.trail))
      → IsHistory h.setup (journal_of (longer h more))
  longer-history history trail plain = record {
    has_setup = tt;
    is_limit = history.is_limit;
    steps = subst (λ x. IsTrail x (h.trail ++ more)) (sym begins) trail;
    has_events = two-has-all (h.trail ++ more);
    plain = subst (AllByRecursion HasNoLf) (sym all-texts) (all-append HasNoLf (lines_of_events h.setup (journal_of h)) _ history.plain plain);
  }
