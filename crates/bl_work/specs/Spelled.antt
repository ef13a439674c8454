-- The grammar of a `when`: its parts as they are spelled, names and texts by their bytes, and the tokens that spell each.
use Rattle.std.specs.Prelude.{ℕ, List, [], ◌∷◌, ◌++◌}
use Rattle.bl_name.specs.declared.token.Keyword.{Keyword}
use Rattle.bl_name.specs.declared.token.Keyword.TheVariants as word
use Rattle.bl_name.specs.declared.token.Sign.TheVariants.{Comma, Semicolon}
use Rattle.bl_level.specs.Token.{Tok, reserved, name, text, sign}
use Rattle.bl_policy.specs.declared.access.Mode.{Mode}
use Rattle.bl_policy.specs.declared.access.Mode.TheVariants.{Read, Append, Write}
use Rattle.bl_work.specs.declared.script.Condition.{Condition}
use Rattle.bl_work.specs.declared.script.Condition.TheVariants.{Is, Has}

-- an access: a mode, and a document by its name
pub record SpelledAccess : Type 0 where
  pub mode : Mode
  pub document : List ℕ

-- A body: none, or a first statement and the rest. An `if` has an `else` or has none, and a spawn has a whole `when`, with a
-- first access and more of them.
pub data SpelledBody : Type 0 where
  empty : SpelledBody
  show : (document : List ℕ) → (rest : SpelledBody) → SpelledBody
  say : (words : List ℕ) → (rest : SpelledBody) → SpelledBody
  add : (document words : List ℕ) → (rest : SpelledBody) → SpelledBody
  set : (document words : List ℕ) → (rest : SpelledBody) → SpelledBody
  copy : (from to : List ℕ) → (rest : SpelledBody) → SpelledBody
  pour : (from to : List ℕ) → (rest : SpelledBody) → SpelledBody
  if_then : (document : List ℕ) → (asks : Condition) → (words : List ℕ) → (then_body rest : SpelledBody) → SpelledBody
  if_else : (document : List ℕ) → (asks : Condition) → (words : List ℕ) → (then_body else_body rest : SpelledBody) → SpelledBody
  spawn : (first : SpelledAccess) → (more : List SpelledAccess) → (body rest : SpelledBody) → SpelledBody

abbrev pub mode_word : Mode → Keyword
mode_word Read = word.Read
mode_word Append = word.Append
mode_word Write = word.Write

abbrev pub asks_word : Condition → Keyword
asks_word Is = word.Is
asks_word Has = word.Has

-- the tokens of an access
abbrev pub spell_access : SpelledAccess → List Tok → List Tok
spell_access access behind = reserved (mode_word access.mode) ∷ name access.document ∷ behind

-- the tokens of further accesses, each behind a comma, and then these
abbrev pub spell_more : List SpelledAccess → List Tok → List Tok
spell_more [] behind = behind
spell_more (access ∷ more) behind = sign Comma ∷ spell_access access (spell_more more behind)

-- The tokens of a body. Each statement ends with a semicolon.
abbrev pub spell_body : SpelledBody → List Tok
spell_body empty = []
spell_body (show document rest) = reserved word.Show ∷ name document ∷ sign Semicolon ∷ spell_body rest
spell_body (say words rest) = reserved word.Say ∷ text words ∷ sign Semicolon ∷ spell_body rest
spell_body (add document words rest) = reserved word.Add ∷ name document ∷ text words ∷ sign Semicolon ∷ spell_body rest
spell_body (set document words rest) = reserved word.Set ∷ name document ∷ text words ∷ sign Semicolon ∷ spell_body rest
spell_body (copy from to rest) = reserved word.Copy ∷ name from ∷ reserved word.To ∷ name to ∷ sign Semicolon ∷ spell_body rest
spell_body (pour from to rest) = reserved word.Pour ∷ name from ∷ reserved word.To ∷ name to ∷ sign Semicolon ∷ spell_body rest
spell_body (if_then document asks words then_body rest) =
    reserved word.If ∷ name document ∷ reserved (asks_word asks) ∷ text words ∷ reserved word.Then
    ∷ (spell_body then_body ++ reserved word.End ∷ sign Semicolon ∷ spell_body rest)
spell_body (if_else document asks words then_body else_body rest) =
    reserved word.If ∷ name document ∷ reserved (asks_word asks) ∷ text words ∷ reserved word.Then
    ∷ (spell_body then_body ++ reserved word.Else ∷ (spell_body else_body ++ reserved word.End ∷ sign Semicolon ∷ spell_body rest))
spell_body (spawn first more body rest) =
    reserved word.Spawn ∷ reserved word.When
    ∷ spell_access first (spell_more more (reserved word.Do ∷ (spell_body body ++ reserved word.End ∷ sign Semicolon ∷ spell_body rest)))

-- the tokens of a `when`, with all that stands in it
abbrev pub spell_when : SpelledAccess → List SpelledAccess → SpelledBody → List Tok
spell_when first more body =
    reserved word.When ∷ spell_access first (spell_more more (reserved word.Do ∷ (spell_body body ++ reserved word.End ∷ [])))
