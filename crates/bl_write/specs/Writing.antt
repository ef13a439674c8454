-- Text while it is written, token by token.
use Rattle.std.specs.Prelude.{ℕ, Bool, false, ◌&&◌, if◌then◌else◌, List, [], ◌∷◌, ◌++◌}
use Rattle.bl_level.specs.Token.{Tok}
use Rattle.bl_level.specs.Canonical.{spelled, is_word}

-- the bytes so far, and whether they end with a word
pub record Written : Type 0 where
  pub bytes : List ℕ
  pub word : Bool

abbrev pub nothing_written : Written
nothing_written = record { bytes = []; word = false }

-- One more token. Between two words stands one space.
abbrev pub with_token : Written → Tok → Written
with_token w t = record {
  bytes = w.bytes ++ ((if w.word && is_word t then 32 ∷ [] else []) ++ spelled t);
  word = is_word t;
}
