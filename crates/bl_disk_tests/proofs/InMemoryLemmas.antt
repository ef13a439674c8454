-- The moments of a file in memory.
use Rattle.std.proofs.Common.{◌≡◌, ℕ, List, [], ◌∷◌, ◌++◌, map, ◌∙◌, ap}
use Rattle.std.proofs.lemmas.List.{map-append}
use Rattle.bl_disk.specs.File.{File}
use Rattle.bl_disk_tests.specs.InMemory.{file_of}
use Rattle.bl_disk_tests.specs.declared.memory.Moment.{Moment}

abbrev made : List ℕ → List ℕ → File
made kept loose = record { kept = kept; loose = loose }

-- two moments with the same bytes are one file
pub one-file : (m n : Moment) → m.kept.items ≡ n.kept.items → m.loose.items ≡ n.loose.items → file_of m ≡ file_of n
one-file m n kept loose = ap (λ k. made k m.loose.items) kept ∙ ap (made n.kept.items) loose

-- a moment more
pub pushed : (past later : List Moment) (copy stands : Moment) → later ≡ past ++ copy ∷ [] → file_of copy ≡ file_of stands
    → map file_of later ≡ map file_of past ++ file_of stands ∷ []
pushed past later copy stands longer same =
    ap (map file_of) longer ∙ map-append file_of past (copy ∷ []) ∙ ap (λ f. map file_of past ++ f ∷ []) same
