-- The grammar of a rule: its parts as they are spelled, names by their bytes, and the tokens that spell each.
use Rattle.std.specs.Prelude.{ℕ, List, [], ◌∷◌}
use Rattle.bl_name.specs.declared.token.Keyword.TheVariants.{Give, Rescind, Current, Classify, Create, Delete}
use Rattle.bl_level.specs.LevelText.{LevelText, spell_level}
use Rattle.bl_level.specs.Token.{Tok, reserved, name}
use Rattle.bl_policy.specs.declared.access.Mode.{Mode}
pub use Rattle.bl_work.specs.Letters.{letter_of}

-- own choice: a rule gives or rescinds a mode, to a subject for a document, or sets the speaker's current level or a document's, or creates
-- or deletes a document
pub data SpelledRule : Type 0 where
  give : (subject document : List ℕ) → (mode : Mode) → SpelledRule
  rescind : (subject document : List ℕ) → (mode : Mode) → SpelledRule
  current : (level : LevelText) → SpelledRule
  classify : (document : List ℕ) → (level : LevelText) → SpelledRule
  create : (document : List ℕ) → SpelledRule
  delete : (document : List ℕ) → SpelledRule

-- the tokens of a rule
abbrev pub spell_rule : SpelledRule → List Tok
spell_rule (give subject document mode) = reserved Give ∷ name subject ∷ name document ∷ name (letter_of mode) ∷ []
spell_rule (rescind subject document mode) = reserved Rescind ∷ name subject ∷ name document ∷ name (letter_of mode) ∷ []
spell_rule (current level) = reserved Current ∷ spell_level level
spell_rule (classify document level) = reserved Classify ∷ name document ∷ spell_level level
spell_rule (create document) = reserved Create ∷ name document ∷ []
spell_rule (delete document) = reserved Delete ∷ name document ∷ []
