-- The words of a start, by what is known of its place.
use Rattle.std.specs.Prelude.{◌≡◌, ℕ, Bool, true, false, Option, Some, None}
use Rattle.bl_setup.specs.Setup.{Setup}
use Rattle.bl_order.specs.Known.{KnowsDenial}
use Rattle.bl_order.specs.Past.{is_done}
use Rattle.bl_order.specs.Machine.{State, past_at}
use Rattle.bl_trail.specs.StartWords.{words_of}
use Rattle.bl_trail.specs.declared.text.Words.{Words}
use Rattle.bl_trail.specs.declared.text.Words.TheVariants.{Run, Rule, Denied}

-- Some: what a start of the place says. None: the place is lost later, and yet it would end at its start.
abbrev pub AreWords : State → ℕ → Bool → Option Words → Type 0
AreWords x n later (Some words) = words_of (past_at x n).answer ≡ Some words
AreWords x n later None = (later ≡ true) × (is_done (past_at x n).answer ≡ false)

-- what the words name is in the setup
abbrev pub KnowsWords : Setup → Words → Type 0
KnowsWords setup Run = Unit {0}
KnowsWords setup Rule = Unit {0}
KnowsWords setup (Denied denial) = KnowsDenial setup denial
