-- What is said of a trail that lacks its closing `stop`.
use Rattle.std.specs.Prelude.{◌≡◌, ◌≢◌, ◌⊎◌, ℕ, zero, suc, List, [], ◌∷◌, ◌++◌, Option, Some, None, false}
use Rattle.std.specs.Prelude.{codes, decimal, length}
use Rattle.std.specs.List.{All}
use Rattle.std.specs.Io.KnownBytes.{Appends, Keeps}
use Rattle.bl_setup.specs.Setup as setups
use Rattle.bl_trail.specs.Follow.{IsVerdict}
use Rattle.bl_trail.specs.declared.verdict.Verdict.TheVariants.{Accepted}
use Rattle.bl_wire.specs.Watch.{Use}
use Rattle.bl_replaying.specs.Replays.{HasReplayed}

-- with `stop` behind it the text is a true trail of so many events
abbrev pub LacksStop : setups.Setup → List ℕ → ℕ → Type 0
LacksStop begun text events = IsVerdict begun (text ++ codes "stop\n") (Accepted events)

-- a text of which `stop` alone is missing has so many events, or it is no such text
abbrev pub IsUnstopped : setups.Setup → List ℕ → Option ℕ → Type 0
IsUnstopped begun text (Some events) = LacksStop begun text events
IsUnstopped begun text None = (events : ℕ) → LacksStop begun text events → ⊥

-- own choice: what is said on standard error of a trail of which `stop` alone is missing
abbrev pub unstopped_text : Option ℕ → List ℕ
unstopped_text None = []
unstopped_text (Some events) = codes "no stop: all " ++ (decimal events ++ codes " events before are right\n")

-- that `stop` alone is missing of a trail over the setup was said, where it is so, and nothing else
pub record SaysUnstopped (begun : setups.Setup) (trail : List ℕ) (errors : Use) : Type 0 where
  pub unstopped : Option ℕ
  pub lacks : IsUnstopped begun trail unstopped
  pub said : errors.failed ≡ false → Appends errors.before errors.after (unstopped_text unstopped)

-- a text up to its last line end, and the torn line behind that
pub record IsSplit (text lines torn : List ℕ) : Type 0 where
  pub text_is : text ≡ lines ++ torn
  pub ends : (lines ≡ []) ⊎ ((front : List ℕ) × (lines ≡ front ++ 10 ∷ []))
  pub within : All (λ byte. byte ≢ 10) torn

-- own choice: what is said of a torn line of so many bytes
abbrev pub torn_text : ℕ → List ℕ
torn_text zero = []
torn_text (suc n) = codes "left out " ++ (decimal (suc n) ++ codes " bytes\n")

-- own choice: what is told of an open trail of so many events
abbrev pub open_line : ℕ → List ℕ
open_line events = codes "open " ++ (decimal events ++ codes "\n")

-- the lines of a text, without a torn one, are a trail of which `stop` alone is missing
pub record IsOpen (begun : setups.Setup) (trail : List ℕ) (events torn : ℕ) : Type 0 where
  pub lines : List ℕ
  pub rest : List ℕ
  pub split : IsSplit trail lines rest
  pub lacks : LacksStop begun lines events
  pub torn_is : torn ≡ length rest

-- an open trail was told, and the torn line behind it
pub record HasOpened (begun : setups.Setup) (trail : List ℕ) (status : ℕ) (output errors : Use) : Type 0 where
  pub events : ℕ
  pub torn : ℕ
  pub is_open : IsOpen begun trail events torn
  pub status_is : status ≡ 0
  pub told : Appends output.before output.after (open_line events)
  pub said : errors.failed ≡ false → Appends errors.before errors.after (torn_text torn)

-- the verdict was told of a trail that is not open, and nothing was said
pub record HasFound (begun : setups.Setup) (trail : List ℕ) (status : ℕ) (output errors : Use) : Type 0 where
  pub replayed : HasReplayed begun trail status output
  pub closed : status ≡ 1 → (events torn : ℕ) → IsOpen begun trail events torn → ⊥
  pub quiet : Keeps errors.before errors.after
