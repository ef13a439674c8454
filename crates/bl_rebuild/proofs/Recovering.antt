-- What was followed is what is recovered.
use Rattle.std.proofs.Common.{◌≡◌, ℕ, ◌+◌, List, ◌++◌, length, sym, ◌∙◌, ap, subst, arith, length-append}
use Rattle.std.specs.List.{AllByRecursion}
use Rattle.bl_setup.specs.Setup.{Setup, by_version}
use Rattle.bl_setup.specs.declared.version.Version.TheVariants.{Two}
use Rattle.bl_order.specs.Machine.{Event, IsTrail, start, state_after}
use Rattle.bl_trail.specs.Asks.{HasNo}
use Rattle.bl_trail.specs.Follow.{Followed}
use Rattle.bl_trail.specs.TrueText.{IsLimit, event_texts, head_lines, joined}
use Rattle.bl_trail.proofs.Following.{two-has-all}
use Rattle.bl_journal.specs.Journals.{GoesNoFurther, IsRecovered, Journal, journal_text}
use Rattle.bl_journal.proofs.Heading.{split}
use Rattle.bl_hall.specs.Chronicle.{Chronicle, state_now}
use Rattle.bl_rebuild.specs.Following.{Course, IsBegun, with_events}
use Rattle.bl_rebuild.specs.Rebuilds.{IsFollowedBy, IsRebuilt, journal_of}
use Rattle.bl_rebuild.specs.declared.rebuild.Rebuilt.{Rebuilt}

-- a setup of version 2 is judged by version 2
pub by-two : (setup : Setup) → setup.version ≡ Two → by_version Two setup ≡ setup
by-two setup two = λ i. record setup { version = sym two i }

module _ (setup : Setup) (two : setup.version ≡ Two) (limit : ℕ) (is_limit : IsLimit limit) (file text rest : List ℕ) (events : List Event)
    (head : file ≡ joined (head_lines Two limit) ++ text) (followed : Followed (start setup limit) text rest events)
    (none : GoesNoFurther (state_after (start setup limit) events) rest) where
  journal : Journal
  journal = record { version = Two; limit = limit; events = events }

  same : start setup limit ≡ start (by_version Two setup) limit
  same = ap (λ s. start s limit) (sym (by-two setup two))

  whole : file ≡ journal_text setup journal ++ rest
  unfolding journal
  whole =
      head
      ∙ ap (λ t. joined (head_lines Two limit) ++ t) (followed.split ∙ ap (λ x. joined (event_texts x events) ++ rest) same)
      ∙ sym (split setup journal rest)

  pub recovered : IsRecovered setup file (record { version = Two; limit = limit; events = events })
  unfolding journal
  recovered = record {
    history = record {
      has_setup = tt;
      is_limit = is_limit;
      steps = subst (λ x. IsTrail x events) same followed.steps;
      has_events = two-has-all events;
      plain = subst (λ x. AllByRecursion (HasNo 10) (event_texts x events)) same followed.plain;
    };
    rest = rest;
    split = whole;
    no_further = subst (λ x. GoesNoFurther (state_after x events) rest) same none;
  }

  -- how long the text of the journal is
  pub counted : length file ≡ length (journal_text setup (record { version = Two; limit = limit; events = events })) + length rest
  unfolding journal
  counted = ap length whole ∙ length-append (journal_text setup journal) rest

-- what was followed on from no event is rebuilt
pub rebuilt-by : (setup : Setup) → setup.version ≡ Two → (file : List ℕ) (course : Course) → IsBegun setup file course
    → (r : Rebuilt) → IsFollowedBy course r → IsRebuilt setup file r
rebuilt-by setup two file course begun r f = record {
  setup_is = ap (λ (h : Chronicle). h.setup) hall;
  recovered = subst (λ (h : Chronicle). IsRecovered setup file (journal_of h)) (sym hall)
      (recovered setup two begun.limit begun.is_limit file course.rest f.rest f.events begun.head followed no_further);
  right = right ∙ ap (λ (h : Chronicle). length (journal_text setup (journal_of h))) (sym hall);
  running = f.running;
}
  where
    hall : r.hall ≡ record { setup = setup; limit = begun.limit; trail = f.events }
    hall = f.hall ∙ ap (λ (h : Chronicle). with_events h f.events) begun.hall

    followed : Followed (start setup begun.limit) course.rest f.rest f.events
    followed = subst (λ x. Followed x course.rest f.rest f.events) (ap state_now begun.hall) f.followed

    no_further : GoesNoFurther (state_after (start setup begun.limit) f.events) f.rest
    no_further = subst (λ x. GoesNoFurther x f.rest) (ap state_now hall) f.no_further

    right : r.right ≡ length (journal_text setup (record { version = Two; limit = begun.limit; events = f.events }))
    right =
        let whole : length file ≡ length (journal_text setup (record { version = Two; limit = begun.limit; events = f.events })) + length f.rest =
        counted setup two begun.limit begun.is_limit file course.rest f.rest f.events begun.head followed no_further in
        let same : length course.text ≡ length file = ap length begun.text_is in
        omega (arith, whole, same, f.counted)
