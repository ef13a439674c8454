-- What a trail is found to be that may be open.
use Rattle.std.specs.Prelude.{ℕ, List}
use Rattle.bl_setup.specs.Setup as setups
use Rattle.bl_trail.specs.Follow.{IsVerdict}
use Rattle.bl_trail.specs.declared.verdict.Verdict.TheVariants.{Accepted, Rejected}
use Rattle.bl_replaying.specs.Open.{IsOpen}
use Rattle.bl_replaying.specs.declared.open.Finding.{Finding}
use Rattle.bl_replaying.specs.declared.open.Finding.TheVariants.{Open, Judged}

-- the trail is open; or it is closed; or it is wrong, and not open
abbrev pub IsFound : setups.Setup → List ℕ → Finding → Type 0
IsFound begun trail (Open events torn) = IsOpen begun trail events torn
IsFound begun trail (Judged (Accepted count)) = IsVerdict begun trail (Accepted count)
IsFound begun trail (Judged (Rejected line)) =
    IsVerdict begun trail (Rejected line) × ((events torn : ℕ) → IsOpen begun trail events torn → ⊥)
