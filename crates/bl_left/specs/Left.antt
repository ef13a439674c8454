-- What the text of a trail leaves.
use Rattle.std.specs.Prelude.{◌≡◌, ℕ, List, Option, Some, None}
use Rattle.bl_setup.specs.Setup.{Setup, by_version}
use Rattle.bl_setup.specs.declared.version.Version.TheVariants.{Two}
use Rattle.bl_order.specs.Machine.{State, start, state_after}
use Rattle.bl_order.specs.Standing.{HaveAllEnded, setup_now}
use Rattle.bl_trail.specs.TrueText.{IsTrueText}
use Rattle.bl_trail.specs.declared.verdict.Verdict.{Verdict}
use Rattle.bl_trail.specs.declared.verdict.Verdict.TheVariants.{Accepted, Rejected}

-- the state to which the trail of a true text leads
abbrev pub end_of : (setup : Setup) (text : List ℕ) (count : ℕ) → IsTrueText setup text count → State
end_of setup text count true_text =
    state_after (start (by_version true_text.version setup) true_text.limit) true_text.events

-- what stands in a state, where all has ended; own choice: a run over it is judged by version 2, whatever version this one was
abbrev pub Stands : State → Option Setup → Type 0
Stands x (Some left) = HaveAllEnded x × (left ≡ by_version Two (setup_now x))
Stands x None = HaveAllEnded x → ⊥

-- Own choice: a text that is accepted leaves what stands at the end of its trail, where all has ended; another one leaves nothing.
abbrev pub IsLeft : Setup → List ℕ → Verdict → Option Setup → Type 0
IsLeft setup text (Accepted count) left = (true_text : IsTrueText setup text count) × Stands (end_of setup text count true_text) left
IsLeft setup text (Rejected number) left = left ≡ None
