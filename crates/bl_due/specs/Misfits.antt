-- The first token of a line that does not fit.
use Rattle.std.specs.Prelude.{◌≡◌, ℕ, ◌+◌, if◌then◌else◌, List, [], ◌∷◌, ◌++◌, length}
use Rattle.bl_name.specs.declared.lexer.Class.TheVariants as class
use Rattle.bl_level.specs.Canonical.{spelled}
use Rattle.bl_level.specs.Lexing.{Front, nothing, token, broken, front, is_letter, run_len, Begins}
use Rattle.bl_level.specs.Token.{Tok}
use Rattle.bl_due.specs.declared.due.Section.{Section}
use Rattle.bl_due.specs.declared.misfit.Misfit.{Misfit}
use Rattle.bl_due.specs.Due.{AreDue, AreWhole, GoOn}

-- own choice: where no token begins, a word that is too long is at fault as a whole, and else one byte
abbrev pub broken_length : List ℕ → ℕ
broken_length [] = 0
broken_length (b ∷ bytes) = if is_letter b then run_len class.Word (b ∷ bytes) else 1

-- Behind tokens that may stand there comes this in a line of so many bytes: its end, and no declaration ends there; bytes that begin
-- no token; or a token that none goes on with, right before the bytes behind it.
abbrev pub StandsAt : Section → ℕ → List Tok → Front → Misfit → Type 0
StandsAt section total read nothing m = (m.at ≡ total) × (m.len ≡ 0) × (AreWhole section read → ⊥)
StandsAt section total read (broken from) m = (m.at + length from ≡ total) × (m.len ≡ broken_length from)
StandsAt section total read (token t more) m =
    (m.at + (m.len + length more) ≡ total) × (m.len ≡ length (spelled t)) × (GoOn section (read ++ t ∷ []) → ⊥)

-- The first misfit of the line, from the left: the tokens before it are ones that some declaration of the section begins with.
pub record IsMisfit (section : Section) (line : List ℕ) (m : Misfit) : Type 0 where
  pub read : List Tok
  pub rest : List ℕ
  pub begins : Begins line read rest
  pub goes_on : GoOn section read
  pub stands : StandsAt section (length line) read (front rest) m
  pub due : AreDue section read m.due.items
