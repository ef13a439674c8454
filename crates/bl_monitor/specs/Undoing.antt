-- What undoes the changes of a run.
use Rattle.std.specs.Prelude.{ℕ, ◌<◌, List, [], ◌∷◌, take, slice_index_or, slice_set}
use Rattle.bl_monitor.specs.declared.run.Undo.{Undo}
use Rattle.bl_monitor.specs.declared.run.Undo.TheVariants.{Cut, Put}

-- a list as a content of each document
abbrev pub content_listed : List (List ℕ) → ℕ → List ℕ
content_listed contents doc = slice_index_or contents doc []

-- the contents without one change
abbrev pub without : Undo → List (List ℕ) → List (List ℕ)
without (Cut doc len) contents = slice_set contents doc (take len (content_listed contents doc))
without (Put doc content) contents = slice_set contents doc content

-- the contents without the changes, of which the last is undone first
abbrev pub undone : List (List ℕ) → List Undo → List (List ℕ)
undone contents [] = contents
undone contents (undo ∷ undos) = without undo (undone contents undos)

-- the change was of a document that is there
abbrev pub IsOf : ℕ → Undo → Type 0
IsOf count (Cut doc len) = doc < count
IsOf count (Put doc content) = doc < count
