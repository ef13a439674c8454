-- The tokens that bytes begin with, up to the first lexical fault or the end, and what stands behind them.
use Rattle.std.specs.Prelude.{ℕ, zero, suc, List, [], ◌∷◌, length}
use Rattle.bl_level.specs.Token.{Tok}
use Rattle.bl_level.specs.Lexing.{Front, nothing, token, broken, front, past_blanks}

-- the tokens from a front on, or so many of them where there are more
abbrev pub tokens_within : ℕ → Front → List Tok
tokens_within zero f = []
tokens_within (suc most) nothing = []
tokens_within (suc most) (broken from) = []
tokens_within (suc most) (token t more) = t ∷ tokens_within most (front (past_blanks more))

-- what stands behind those tokens
abbrev pub end_within : ℕ → Front → Front
end_within zero f = f
end_within (suc most) nothing = nothing
end_within (suc most) (broken from) = broken from
end_within (suc most) (token t more) = end_within most (front (past_blanks more))

-- all the tokens of bytes, up to the first lexical fault or the end: a token takes at least a byte, so that there are no more than bytes
unfoldable pub tokens_of : List ℕ → List Tok
tokens_of bytes = tokens_within (length bytes) (front (past_blanks bytes))

-- what stands behind all the tokens of bytes: nothing, or a lexical fault
unfoldable pub end_of : List ℕ → Front
end_of bytes = end_within (length bytes) (front (past_blanks bytes))

-- the tokens from a front on
abbrev pub tokens_from : Front → List Tok
tokens_from nothing = []
tokens_from (broken from) = []
tokens_from (token t more) = t ∷ tokens_of more

-- what stands behind the tokens from a front on
abbrev pub end_from : Front → Front
end_from nothing = nothing
end_from (broken from) = broken from
end_from (token t more) = end_of more
