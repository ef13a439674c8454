-- How long a line is, counted token by token.
use Rattle.std.specs.Prelude.{ℕ, ◌+◌, min, Bool, false, ◌&&◌, if◌then◌else◌, length}
use Rattle.bl_level.specs.Token.{Tok}
use Rattle.bl_level.specs.Canonical.{spelled, is_word}
use Rattle.bl_state.specs.Texts.{most_text_bytes}

-- the bytes so far, counted up to as many as a text has, and whether they end with a word
pub record Counted : Type 0 where
  pub bytes : ℕ
  pub word : Bool

abbrev pub nothing_counted : Counted
nothing_counted = record { bytes = 0; word = false }

-- the bytes of a token, with a space before it where one word follows another
abbrev pub bytes_behind : Bool → Tok → ℕ
bytes_behind word t = (if word && is_word t then 1 else 0) + length (spelled t)

-- one more token
abbrev pub counted : Counted → Tok → Counted
counted c t = record { bytes = min (c.bytes + bytes_behind c.word t) most_text_bytes; word = is_word t }
