-- The rules that the run of a trail applied, by the trail's text: those of all its events, or of the first ones.
use Rattle.std.specs.Prelude.{◌≡◌, ◌⊎◌, ◌+◌, ◌<◌, ◌≤◌, ℕ, All, List, [], ◌∷◌, ◌++◌, codes, length}
use Rattle.std.specs.List.{AllByRecursion}
use Rattle.bl_policy.specs.Policy.{SecurityPolicy}
use Rattle.bl_setup.specs.Setup.{Setup, by_version}
use Rattle.bl_setup.specs.declared.version.Version.{Version}
use Rattle.bl_order.specs.Machine.{Event, IsTrail, State, start, state_after}
use Rattle.bl_trail.specs.TrueText.{FirstWrong, HasNoLf, IsLimit, IsTrueText, event_texts, head_lines, joined}
use Rattle.bl_trail.specs.Versions.{HasEvents, HasSetup}
use Rattle.bl_trail.specs.declared.verdict.Verdict.{Verdict}
use Rattle.bl_trail.specs.declared.verdict.Verdict.TheVariants.{Accepted, Rejected}
use Rattle.bl_explain.specs.Run.{rules_of}
use Rattle.bl_explain.specs.Since.{KnowsApplied}
use Rattle.bl_explain.specs.declared.since.Applied.{Applied}
use Rattle.bl_ruled.specs.declared.ruled.Front.{Front}
use Rattle.bl_ruled.specs.declared.ruled.Front.TheVariants.{Right, Fewer, Wrong}

-- Own choice: of a text that is accepted they are those that the starts of its events apply, in their order; of another one there are none.
abbrev pub AreRulesOf : Setup → List ℕ → Verdict → List Applied → Type 0
AreRulesOf setup text (Accepted count) rules =
    (t : IsTrueText setup text count) × (rules ≡ rules_of 0 (start (by_version t.version setup) t.limit) t.events)
AreRulesOf setup text (Rejected number) rules = rules ≡ []

-- the text begins with the head and so many events of a trail, whatever stands behind them
pub record IsFront (setup : Setup) (text : List ℕ) (count : ℕ) : Type 0 where
  pub version : Version
  pub has_setup : HasSetup version setup
  pub limit : ℕ
  pub is_limit : IsLimit limit
  pub events : List Event
  pub steps : IsTrail (start (by_version version setup) limit) events
  pub has_events : HasEvents version events
  pub plain : AllByRecursion HasNoLf (head_lines version limit ++ event_texts (start (by_version version setup) limit) events)
  pub rest : List ℕ
  pub is : text ≡ joined (head_lines version limit ++ event_texts (start (by_version version setup) limit) events) ++ rest
  pub counted : count ≡ length events

module _ (setup : Setup) (text : List ℕ) (count : ℕ) (front : IsFront setup text count) where
  -- where the run began
  abbrev pub front_start : State
  front_start = start (by_version front.version setup) front.limit

  -- where these events lead
  abbrev pub front_end : State
  front_end = state_after front_start front.events

  -- the rules that their starts apply
  abbrev pub front_rules : List Applied
  front_rules = rules_of 0 front_start front.events

-- the line of this number stands behind a `stop` that comes before so many events: behind fewer lines than the head and they have
pub record IsBehindStop (text : List ℕ) (count number : ℕ) : Type 0 where
  pub lines : List (List ℕ)
  pub plain : AllByRecursion HasNoLf lines
  pub behind : List ℕ
  pub split : text ≡ joined lines ++ (codes "stop" ++ 10 ∷ behind)
  pub few : length lines < count + 2
  pub is : number ≡ length lines + 2

-- Own choice: the rules of the first so many events; or an accepted text has fewer; or its first wrong line stands among them, or behind a
-- `stop` that comes before so many.
abbrev pub AreRulesBefore : Setup → List ℕ → ℕ → Front → Type 0
AreRulesBefore setup text count (Right rules) = (front : IsFront setup text count) × (rules.items ≡ front_rules setup text count front)
AreRulesBefore setup text count Fewer = (fewer : ℕ) × IsTrueText setup text fewer × (fewer < count)
AreRulesBefore setup text count (Wrong number) = FirstWrong setup text number × ((number ≤ count + 2) ⊎ IsBehindStop text count number)

-- the ids of these rules are in the policy
abbrev pub KnowsFront : SecurityPolicy → Front → Type 0
KnowsFront p (Right rules) = All (KnowsApplied p) rules.items
KnowsFront p Fewer = Unit {0}
KnowsFront p (Wrong number) = Unit {0}
