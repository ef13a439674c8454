-- The rules of the first events of a text, by those of the lines behind its head.
use Rattle.std.proofs.Common.{◌≡◌, ◌⊎◌, ◌+◌, ◌<◌, ◌≤◌, ◌++◌, ◌∷◌, ◌∙◌, ℕ, List, [], ap, append_assoc, arith, inl, inr, length, length-append, subst, sym}
use Rattle.std.specs.Prelude.{codes}
use Rattle.bl_setup.specs.Setup.{Setup, by_version}
use Rattle.bl_setup.specs.declared.version.Version.{Version}
use Rattle.bl_order.specs.Machine.{Event, State, start, state_after}
use Rattle.bl_trail.specs.Asks.{HasNo}
use Rattle.bl_trail.specs.Follow.{Followed, IsFollowed, IsMore, IsNotNext, IsVerdict}
use Rattle.bl_trail.specs.TrueText.{FirstWrong, IsLimit, IsTrueText, event_texts, head_lines, joined}
use Rattle.bl_trail.specs.Versions.{HasSetup}
use Rattle.bl_trail.specs.declared.verdict.Verdict.{Verdict}
use Rattle.bl_trail.specs.declared.verdict.Verdict.TheVariants.{Rejected}
use Rattle.bl_trail.proofs.Following.{all-append, joined-append}
use Rattle.bl_trail.proofs.TrueTexts.{texts-count}
use Rattle.bl_trail.proofs.Verdicts.{head-plain, stop-plain}
use Rattle.bl_ruled.specs.Noting.{AreLeftBefore}
use Rattle.bl_ruled.specs.Ruled.{AreRulesBefore, IsBehindStop, IsFront, KnowsFront}
use Rattle.bl_ruled.specs.declared.ruled.Front.{Front}
use Rattle.bl_ruled.specs.declared.ruled.Front.TheVariants.{Right, Fewer, Wrong}

module _ (setup : Setup) (version : Version) (limit : ℕ) (has_setup : HasSetup version setup) (is_limit : IsLimit limit) (text rest : List ℕ)
    (is : text ≡ joined (head_lines version limit) ++ rest) where
  abbrev first : State
  first = start (by_version version setup) limit

  -- the lines of the head and of these events
  abbrev lines-of : List Event → List (List ℕ)
  lines-of events = head_lines version limit ++ event_texts first events

  pub split-behind : (events : List Event) (behind : List ℕ) → rest ≡ joined (event_texts first events) ++ behind → text ≡ joined (lines-of events) ++ behind
  split-behind events behind split =
      is ∙ ap (λ t. joined (head_lines version limit) ++ t) split
      ∙ sym (append_assoc (joined (head_lines version limit)) (joined (event_texts first events)) behind)
      ∙ ap (λ t. t ++ behind) (sym (joined-append (head_lines version limit) (event_texts first events)))

  abbrev pub front-is : (events : List Event) (behind : List ℕ) (count : ℕ) → Followed first rest behind events → count ≡ length events → IsFront setup text count
  front-is events behind count followed counted = record {
    version = version;
    has_setup = has_setup;
    limit = limit;
    is_limit = is_limit;
    events = events;
    steps = followed.steps;
    has_events = followed.has;
    plain = all-append (HasNo 10) (head_lines version limit) (event_texts first events) (head-plain version limit is_limit) followed.plain;
    rest = behind;
    is = split-behind events behind followed.split;
    counted = counted;
  }

  -- followed to its closing `stop` it is a true text
  abbrev pub true-text : (events : List Event) (count : ℕ) → Followed first rest (codes "stop" ++ 10 ∷ []) events → count ≡ length events
      → IsTrueText setup text count
  true-text events count followed counted = record {
    version = version;
    has_setup = has_setup;
    limit = limit;
    is_limit = is_limit;
    events = events;
    steps = followed.steps;
    has_events = followed.has;
    plain = all-append (HasNo 10) (head_lines version limit) (event_texts first events ++ codes "stop" ∷ []) (head-plain version limit is_limit)
        (all-append (HasNo 10) (event_texts first events) (codes "stop" ∷ []) followed.plain (stop-plain, tt));
    is = split-behind events (codes "stop" ++ 10 ∷ []) followed.split ∙ sym (joined-append (lines-of events) (codes "stop" ∷ []));
    counted = counted;
  }

  -- how many lines these are
  lines-count : (events : List Event) → length (lines-of events) ≡ length events + 2
  lines-count events = omega (arith, length-append (head_lines version limit) (event_texts first events), texts-count first events)

  stop-before : (events : List Event) (behind : List ℕ) (count number : ℕ) → Followed first rest (codes "stop" ++ 10 ∷ behind) events
      → number ≡ length events + 4 → length events < count → IsBehindStop text count number
  stop-before events behind count number followed counted few = record {
    lines = lines-of events;
    plain = all-append (HasNo 10) (head_lines version limit) (event_texts first events) (head-plain version limit is_limit) followed.plain;
    behind = behind;
    split = split-behind events (codes "stop" ++ 10 ∷ behind) followed.split;
    few = omega (arith, lines-count events, few);
    is = omega (arith, lines-count events, counted);
  }

  wrong-where : (count number : ℕ) (followed : IsFollowed first rest (Rejected number)) → length followed.0 < count
      → (number ≤ count + 2) ⊎ IsBehindStop text count number
  wrong-where count number followed few = go followed.2
    where
      go : (Followed first rest followed.1 followed.0 × IsNotNext (state_after first followed.0) followed.1 × (number ≡ length followed.0 + 3))
          ⊎ (Followed first rest (codes "stop" ++ 10 ∷ followed.1) followed.0 × IsMore followed.1 × (number ≡ length followed.0 + 4))
          → (number ≤ count + 2) ⊎ IsBehindStop text count number
      go (inl next) = inl (omega (arith, next.2, few))
      go (inr behind) = inr (stop-before followed.0 followed.1 count number behind.0 behind.2 few)

  pub front-rules : ((verdict : Verdict) → IsFollowed first rest verdict → IsVerdict setup (joined (head_lines version limit) ++ rest) verdict)
      → (count : ℕ) (front : Front) → AreLeftBefore first rest count front → AreRulesBefore setup text count front
  front-rules law count (Right found) left = (front-is left.0 left.1 count left.2 left.3, left.4)
  front-rules law count Fewer left = (left.0, true-text left.1.0 left.0 left.1.1 left.1.2, left.2)
  front-rules law count (Wrong number) left =
      (subst (λ t. FirstWrong setup t number) (sym is) (law (Rejected number) left.0), wrong-where count number left.0 left.1)

  pub front-known : (count : ℕ) (front : Front) → AreLeftBefore first rest count front → KnowsFront setup.policy front
  front-known count (Right found) left = left.5
  front-known count Fewer left = tt
  front-known count (Wrong number) left = tt
