-- The tokens of a text, without where they lie.
use Rattle.std.specs.Prelude.{ℕ, List, map}
use Rattle.bl_name.specs.declared.token.Keyword.{Keyword}
use Rattle.bl_name.specs.declared.token.Sign.{Sign}
use Rattle.bl_name.specs.declared.token.Token.{Token}
use Rattle.bl_name.specs.declared.token.Token.TheVariants as source

-- a reserved word, a name, a text by the bytes between its quotes, or a sign
pub data Tok : Type 0 where
  reserved : Keyword → Tok
  name : List ℕ → Tok
  text : List ℕ → Tok
  sign : Sign → Tok

-- the token that a value of the code stands for
abbrev pub tok : Token → Tok
tok (source.Reserved k) = reserved k
tok (source.Name w) = name w.now
tok (source.Text x) = text x.now
tok (source.Sign s) = sign s

abbrev pub toks : List Token → List Tok
toks = map tok
