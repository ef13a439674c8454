-- TrueText: the text of a trail, by its version and its limit, and the first line of a text that is not right.
use Rattle.std.specs.Prelude.{◌≡◌, ◌≢◌, ◌⊎◌, ℕ, suc, ◌≤◌, List, [], ◌∷◌, ◌++◌, length, codes, decimal}
use Rattle.std.specs.List.{flat_map, AllByRecursion}
use Rattle.bl_setup.specs.Setup.{Setup, by_version}
use Rattle.bl_setup.specs.declared.version.Version.{Version}
use Rattle.bl_setup.specs.declared.version.Version.TheVariants.{One, Two}
use Rattle.bl_order.specs.Machine.{State, Event, IsTrail, change, start}
use Rattle.bl_trail.specs.EventText.{event_text}
use Rattle.bl_trail.specs.Versions.{HasSetup, HasEvents}

-- the texts of events, each by the state that it finds
abbrev pub event_texts : State → List Event → List (List ℕ)
event_texts x [] = []
event_texts x (event ∷ events) = event_text x event ∷ event_texts (change x event) events

-- own choice: a run admits lines up to a weight of at most so much
abbrev pub IsLimit : ℕ → Type 0
IsLimit limit = (1 ≤ limit) × (limit ≤ 100000)

-- own choice: a trail says by which version its run is judged
abbrev pub version_line : Version → List ℕ
version_line One = codes "trail 1"
version_line Two = codes "trail 2"

-- own choice: the version and the limit stand first
abbrev pub head_lines : Version → ℕ → List (List ℕ)
head_lines version limit = version_line version ∷ (codes "limit " ++ decimal limit) ∷ []

-- the lines of a trail, without their LF: its steps and its answers are those of a run that is judged by the version
abbrev pub trail_lines : Version → Setup → ℕ → List Event → List (List ℕ)
trail_lines version setup limit events =
    head_lines version limit ++ (event_texts (start (by_version version setup) limit) events ++ codes "stop" ∷ [])

-- lines, each with its LF
abbrev pub joined : List (List ℕ) → List ℕ
joined lines = flat_map (λ line. line ++ 10 ∷ []) lines

-- no byte is an LF
abbrev pub HasNoLf : List ℕ → Type 0
HasNoLf = AllByRecursion (λ b. b ≢ 10)

-- TrueText: the text is that of a trail of so many events, of some version that has them and the setup, and under some
-- limit
pub record IsTrueText (setup : Setup) (text : List ℕ) (count : ℕ) : Type 0 where
  pub version : Version
  pub has_setup : HasSetup version setup
  pub limit : ℕ
  pub is_limit : IsLimit limit
  pub events : List Event
  pub steps : IsTrail (start (by_version version setup) limit) events
  pub has_events : HasEvents version events
  pub plain : AllByRecursion HasNoLf (trail_lines version setup limit events)
  pub is : text ≡ joined (trail_lines version setup limit events)
  pub counted : count ≡ length events

-- a true text begins with these lines, and goes on with those
pub record GoesOn (setup : Setup) (lines : List (List ℕ)) (more : List (List ℕ)) : Type 0 where
  pub version : Version
  pub has_setup : HasSetup version setup
  pub limit : ℕ
  pub is_limit : IsLimit limit
  pub events : List Event
  pub steps : IsTrail (start (by_version version setup) limit) events
  pub has_events : HasEvents version events
  pub is : trail_lines version setup limit events ≡ lines ++ more

-- by the lines before them alone, these lines are right
abbrev pub AreRight : Setup → List (List ℕ) → Type 0
AreRight setup lines = (more : List (List ℕ)) × GoesOn setup lines more

-- these are all the lines of a true text
abbrev pub AreAll : Setup → List (List ℕ) → Type 0
AreAll setup lines = GoesOn setup lines []

-- What stands behind lines that are right is wrong: it has no LF, and is not the nothing behind a closing `stop`; or
-- its first line is not right.
abbrev pub IsWrong : Setup → List (List ℕ) → List ℕ → Type 0
IsWrong setup lines behind =
    (HasNoLf behind × (behind ≡ [] → AreAll setup lines → ⊥))
    ⊎ ((line : List ℕ) × (rest : List ℕ) × HasNoLf line × (behind ≡ line ++ 10 ∷ rest)
    × (AreRight setup (lines ++ line ∷ []) → ⊥))

-- Rejected: this is the number of the first line that is not right, counted from 1
pub record FirstWrong (setup : Setup) (text : List ℕ) (number : ℕ) : Type 0 where
  pub before : List (List ℕ)
  pub behind : List ℕ
  pub whole : AllByRecursion HasNoLf before
  pub split : text ≡ joined before ++ behind
  pub right : AreRight setup before
  pub wrong : IsWrong setup before behind
  pub is : number ≡ suc (length before)
