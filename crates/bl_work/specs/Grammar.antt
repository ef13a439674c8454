-- The grammar of session lines: the lines as they are spelled, and the tokens that spell each.
use Rattle.std.specs.Prelude.{◌≡◌, ℕ, List, [], ◌∷◌, ◌++◌}
use Rattle.bl_name.specs.declared.token.Keyword.TheVariants.{Hello, Wait}
use Rattle.bl_level.specs.Token.{Tok, reserved, name}
use Rattle.bl_level.specs.Name.{AreProper}
use Rattle.bl_work.specs.Spelled.{SpelledAccess, SpelledBody, spell_when}
use Rattle.bl_work.specs.SpelledRules.{SpelledRule, spell_rule}

-- own choice: a line names its subject, waits, is a behaviour with a first access, more of them and a body, or is a rule
pub data SpelledLine : Type 0 where
  hello : List ℕ → SpelledLine
  wait : SpelledLine
  when : SpelledAccess → List SpelledAccess → SpelledBody → SpelledLine
  rule : SpelledRule → SpelledLine

-- the tokens of a line
abbrev pub spell : SpelledLine → List Tok
spell (hello subject) = reserved Hello ∷ name subject ∷ []
spell wait = reserved Wait ∷ []
spell (when first more body) = spell_when first more body
spell (rule asked) = spell_rule asked

-- some line goes on with these tokens, by tokens that some bytes spell
abbrev pub CanGoOn : List Tok → Type 0
CanGoOn before = (line : SpelledLine) × (rest : List Tok) × (spell line ≡ before ++ rest) × AreProper rest
