-- The rules of one event, and of lines that were followed.
use Rattle.std.specs.Prelude.{◌≡◌, ◌<◌, ℕ, All, List, [], ◌∷◌, ◌++◌, codes, length, Option, Some, None}
use Rattle.bl_order.specs.Machine.{Event, State, Opens, Admits, Starts, Ends, Loses, past_at}
use Rattle.bl_work.specs.declared.work.Work.{Work}
use Rattle.bl_work.specs.declared.work.Work.TheVariants as work
use Rattle.bl_trail.specs.Follow.{Followed, IsFollowed}
use Rattle.bl_trail.specs.declared.verdict.Verdict.{Verdict}
use Rattle.bl_trail.specs.declared.verdict.Verdict.TheVariants.{Accepted, Rejected}
use Rattle.bl_replay.specs.declared.place.Origin.{Origin}
use Rattle.bl_replay.specs.declared.place.Origin.TheVariants.{Line, Child}
use Rattle.bl_replay.specs.declared.place.Place.{Place}
use Rattle.bl_explain.specs.Run.{applied_by, rules_of}
use Rattle.bl_explain.specs.Since.{KnowsApplied}
use Rattle.bl_explain.specs.declared.since.Applied.{Applied}
use Rattle.bl_ruled.specs.declared.follow.Extent.{Extent}
use Rattle.bl_ruled.specs.declared.follow.Extent.TheVariants as extent
use Rattle.bl_ruled.specs.declared.ruled.Front.{Front}
use Rattle.bl_ruled.specs.declared.ruled.Front.TheVariants.{Right, Fewer, Wrong}

-- the rules that an event applies, which is the one of this number: that of a place that it starts
abbrev pub rules_at : ℕ → State → Event → List Applied
rules_at event x (Opens subject) = []
rules_at event x (Admits session ordinal asked) = []
rules_at event x (Starts n) = applied_by event (past_at x n)
rules_at event x (Ends n) = []
rules_at event x (Loses n) = []

-- a rule, where there is one
abbrev pub listed : Option Applied → List Applied
listed None = []
listed (Some rule) = rule ∷ []

-- the rule of what is kept of a place: a child has none
abbrev pub rule_by : ℕ → Work → Origin → List Applied
rule_by event (work.Behaviour script) origin = []
rule_by event (work.Rule rule) (Line subject) = record { event = event; speaker = subject; rule = rule } ∷ []
rule_by event (work.Rule rule) (Child parent which) = []

abbrev pub rule_in : ℕ → Place → List Applied
rule_in event p = rule_by event p.work p.origin

-- what was noted of an accepted text is all that its events apply, whose ids are in the policy; another one is so far right
abbrev pub AreNoted : State → List ℕ → List Applied → Verdict → Type 0
AreNoted x text rules (Accepted count) = (events : List Event) × Followed x text (codes "stop" ++ 10 ∷ []) events
    × (count ≡ length events) × (rules ≡ rules_of 0 x events) × All (KnowsApplied x.setup.policy) rules
AreNoted x text rules (Rejected number) = IsFollowed x text (Rejected number)

-- the same of what is answered, where nothing is noted of another text
abbrev pub AreLeft : State → List ℕ → Verdict → List Applied → Type 0
AreLeft x text (Accepted count) rules = AreNoted x text rules (Accepted count)
AreLeft x text (Rejected number) rules = IsFollowed x text (Rejected number) × (rules ≡ [])

-- fewer than are asked for, where a number is asked for
abbrev pub IsBelow : Option ℕ → ℕ → Type 0
IsBelow None count = Unit {0}
IsBelow (Some most) count = count < most

-- what was noted of lines, of which so many events were asked for: those are right, whatever stands behind them; or the lines end, or are
-- not right, before that
abbrev pub AreNotedTo : State → List ℕ → Option ℕ → List Applied → Extent → Type 0
AreNotedTo x text most rules extent.Front = (events : List Event) × (rest : List ℕ) × Followed x text rest events × (most ≡ Some (length events))
    × (rules ≡ rules_of 0 x events) × All (KnowsApplied x.setup.policy) rules
AreNotedTo x text most rules (extent.Whole (Accepted count)) = AreNoted x text rules (Accepted count) × IsBelow most count
AreNotedTo x text most rules (extent.Whole (Rejected number)) = (followed : IsFollowed x text (Rejected number)) × IsBelow most (length followed.0)

-- the same of what is answered of so many events
abbrev pub AreLeftBefore : State → List ℕ → ℕ → Front → Type 0
AreLeftBefore x text count (Right rules) = (events : List Event) × (rest : List ℕ) × Followed x text rest events × (count ≡ length events)
    × (rules.items ≡ rules_of 0 x events) × All (KnowsApplied x.setup.policy) rules.items
AreLeftBefore x text count Fewer = (fewer : ℕ) × IsFollowed x text (Accepted fewer) × (fewer < count)
AreLeftBefore x text count (Wrong number) = (followed : IsFollowed x text (Rejected number)) × (length followed.0 < count)
