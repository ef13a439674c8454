-- What a body does on given contents.
use Rattle.std.specs.Prelude.{ℕ, Bool, if◌then◌else◌, ◌==◌, List, [], ◌∷◌, ◌++◌}
use Rattle.std.specs.Str.{bytes_eq}
use Rattle.bl_work.specs.declared.script.Condition.{Condition}
use Rattle.bl_work.specs.declared.script.Condition.TheVariants.{Is, Has}
use Rattle.bl_document.specs.Content.{added}
use Rattle.bl_work.specs.Piece.{has_piece}
use Rattle.bl_work.specs.Statements as statement
use Rattle.bl_work.specs.Statements.{Statements}

-- A text is shown, a document's content becomes a text, a text is added to a document's end, or one more behaviour is spawned.
pub data Effect : Type 0 where
  Out : (text : List ℕ) → Effect
  Put : (doc : ℕ) → (text : List ℕ) → Effect
  Add : (doc : ℕ) → (text : List ℕ) → Effect
  Child : (behaviour : ℕ) → Effect

-- After: a document's content after the effects on it, in order
abbrev pub after : List ℕ → List Effect → ℕ → List ℕ
after content [] doc = content
after content (Out text ∷ effects) doc = after content effects doc
after content (Put d text ∷ effects) doc = after (if d == doc then text else content) effects doc
after content (Add d text ∷ effects) doc = after (if d == doc then added content text else content) effects doc
after content (Child behaviour ∷ effects) doc = after content effects doc

-- whether a condition holds of a content: it is the text, or has it somewhere as one piece
abbrev pub holds_of : Condition → List ℕ → List ℕ → Bool
holds_of Is content text = bytes_eq content text
holds_of Has content text = has_piece content text

module _ (contents : ℕ → List ℕ) where
  -- own choice: a statement sees a content after the effects so far
  abbrev pub seen : List Effect → ℕ → List ℕ
  seen so_far doc = after (contents doc) so_far doc

  -- the effects so far, and then those of the statements
  abbrev pub effects_from : List Effect → Statements → List Effect
  effects_from so_far statement.Nothing = so_far
  effects_from so_far (statement.Show doc rest) = effects_from (so_far ++ Out (seen so_far doc) ∷ []) rest
  effects_from so_far (statement.Say text rest) = effects_from (so_far ++ Out text ∷ []) rest
  effects_from so_far (statement.Add doc text rest) = effects_from (so_far ++ Add doc text ∷ []) rest
  effects_from so_far (statement.Set doc text rest) = effects_from (so_far ++ Put doc text ∷ []) rest
  effects_from so_far (statement.Copy from to rest) = effects_from (so_far ++ Put to (seen so_far from) ∷ []) rest
  effects_from so_far (statement.Pour from to rest) = effects_from (so_far ++ Add to (seen so_far from) ∷ []) rest
  effects_from so_far (statement.If doc asks text then_body else_body rest) =
      effects_from (if holds_of asks (seen so_far doc) text then effects_from so_far then_body else effects_from so_far else_body) rest
  effects_from so_far (statement.Spawn behaviour rest) = effects_from (so_far ++ Child behaviour ∷ []) rest

-- Effects: what a body does on the contents, in order
abbrev pub effects_of : (ℕ → List ℕ) → Statements → List Effect
effects_of contents body = effects_from contents [] body

-- the texts that are shown, in order
abbrev pub outputs : List Effect → List (List ℕ)
outputs [] = []
outputs (Out text ∷ effects) = text ∷ outputs effects
outputs (Put doc text ∷ effects) = outputs effects
outputs (Add doc text ∷ effects) = outputs effects
outputs (Child behaviour ∷ effects) = outputs effects

-- the behaviours that are spawned, in order
abbrev pub children : List Effect → List ℕ
children [] = []
children (Out text ∷ effects) = children effects
children (Put doc text ∷ effects) = children effects
children (Add doc text ∷ effects) = children effects
children (Child behaviour ∷ effects) = behaviour ∷ children effects
