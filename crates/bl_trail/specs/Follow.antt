-- How far the events behind the head lines are right.
use Rattle.std.specs.Prelude.{◌≡◌, ◌≢◌, ◌⊎◌, ℕ, ◌+◌, List, [], ◌∷◌, ◌++◌, length, codes}
use Rattle.std.specs.List.{AllByRecursion}
use Rattle.bl_order.specs.Machine.{State, Event, Needs, IsTrail, change, state_after}
use Rattle.bl_trail.specs.Asks.{HasNo}
use Rattle.bl_trail.specs.EventText.{event_text}
use Rattle.bl_setup.specs.Setup.{Setup}
use Rattle.bl_trail.specs.TrueText.{event_texts, joined, IsTrueText, FirstWrong}
use Rattle.bl_trail.specs.Versions.{HasEvent, HasEvents}
use Rattle.bl_trail.specs.declared.verdict.Verdict.{Verdict}
use Rattle.bl_trail.specs.declared.verdict.Verdict.TheVariants.{Accepted, Rejected}

-- the line is the text of no event that the version has and that may come next
abbrev pub IsNoEvent : State → List ℕ → Type 0
IsNoEvent x line = (event : Event) → Needs x event → HasEvent x.setup.version event → line ≡ event_text x event → ⊥

-- the line is the text of an event that the version has and that may come next, and this is so of the state that it
-- leads to
abbrev pub IsTaken : State → List ℕ → (State → Type 0) → Type 0
IsTaken x line next = (event : Event) × Needs x event × HasEvent x.setup.version event × (line ≡ event_text x event)
    × next (change x event)

-- the text is that of these events, which the version has, and then something else
pub record Followed (x : State) (text rest : List ℕ) (events : List Event) : Type 0 where
  pub steps : IsTrail x events
  pub has : HasEvents x.setup.version events
  pub plain : AllByRecursion (HasNo 10) (event_texts x events)
  pub split : text ≡ joined (event_texts x events) ++ rest

-- a line that ends by its LF, and something behind it
pub record IsLine (text line rest : List ℕ) : Type 0 where
  pub plain : HasNo 10 line
  pub split : text ≡ line ++ 10 ∷ rest

-- what stands next is not right: no whole line, or one that is neither `stop` nor an event's
abbrev pub IsNotNext : State → List ℕ → Type 0
IsNotNext x text =
    HasNo 10 text ⊎ ((line : List ℕ) × (rest : List ℕ) × IsLine text line rest × (line ≢ codes "stop")
    × IsNoEvent x line)

-- something stands behind the closing `stop`
abbrev pub IsMore : List ℕ → Type 0
IsMore text = (HasNo 10 text × (text ≢ [])) ⊎ ((line : List ℕ) × (rest : List ℕ) × IsLine text line rest)

-- the events end by a `stop` with nothing behind it; or behind them, or behind the `stop`, something is not right
abbrev pub IsFollowed : State → List ℕ → Verdict → Type 0
IsFollowed x text (Accepted count) = (events : List Event) × Followed x text (codes "stop" ++ 10 ∷ []) events
    × (count ≡ length events)
IsFollowed x text (Rejected number) =
    (events : List Event) × (rest : List ℕ)
    × ((Followed x text rest events × IsNotNext (state_after x events) rest × (number ≡ length events + 3))
    ⊎ (Followed x text (codes "stop" ++ 10 ∷ rest) events × IsMore rest × (number ≡ length events + 4)))

-- what a verdict says of a text
abbrev pub IsVerdict : Setup → List ℕ → Verdict → Type 0
IsVerdict setup text (Accepted count) = IsTrueText setup text count
IsVerdict setup text (Rejected number) = FirstWrong setup text number
