-- A text whose lines were followed to its closing `stop` is a true one.
use Rattle.std.proofs.Common.{◌≡◌, ℕ, List, [], ◌∷◌, ◌++◌, length, sym, ◌∙◌, ap}
use Rattle.std.specs.Prelude.{codes}
use Rattle.bl_setup.specs.Setup.{Setup, by_version}
use Rattle.bl_setup.specs.declared.version.Version.{Version}
use Rattle.bl_order.specs.Machine.{Event, State, start}
use Rattle.bl_trail.specs.Asks.{HasNo}
use Rattle.bl_trail.specs.Follow.{Followed}
use Rattle.bl_trail.specs.TrueText.{IsLimit, IsTrueText, event_texts, head_lines, joined}
use Rattle.bl_trail.specs.Versions.{HasSetup}
use Rattle.bl_trail.proofs.Following.{all-append, joined-append}
use Rattle.bl_trail.proofs.Verdicts.{head-plain, stop-plain}

module _ (version : Version) (setup : Setup) (has_setup : HasSetup version setup) (limit : ℕ) (is_limit : IsLimit limit) (events : List Event) where
  abbrev first : State
  first = start (by_version version setup) limit

  abbrev texts : List (List ℕ)
  texts = event_texts first events

  abbrev closing : List (List ℕ)
  closing = codes "stop" ∷ []

  abbrev pub true-end : (whole text : List ℕ) (count : ℕ) → whole ≡ joined (head_lines version limit) ++ text
      → Followed first text (codes "stop" ++ 10 ∷ []) events → count ≡ length events → IsTrueText setup whole count
  true-end whole text count is followed counted = record {
    version = version;
    has_setup = has_setup;
    limit = limit;
    is_limit = is_limit;
    events = events;
    steps = followed.steps;
    has_events = followed.has;
    plain = all-append (HasNo 10) (head_lines version limit) (texts ++ closing) (head-plain version limit is_limit)
        (all-append (HasNo 10) texts closing followed.plain (stop-plain, tt));
    is = is
        ∙ ap (λ t. joined (head_lines version limit) ++ t) (followed.split ∙ sym (joined-append texts closing))
        ∙ sym (joined-append (head_lines version limit) (texts ++ closing));
    counted = counted;
  }
