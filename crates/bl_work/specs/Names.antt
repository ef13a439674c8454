-- The names that lines and replies speak in.
use Rattle.std.specs.Prelude.{ℕ, ◌≤◌, List, length}
use Rattle.bl_level.specs.Scheme.{SchemeNames, IsScheme}
use Rattle.bl_level.specs.Table.{IsTable}
use Rattle.bl_policy.specs.Limits.{most_subjects, most_documents}

-- The scheme, and the names of the subjects and of the documents: an id is a place in its list.
-- own choice: a subject and a document may have the same name
pub record KnownNames : Type 0 where
  pub scheme : SchemeNames
  pub subjects : List (List ℕ)
  pub documents : List (List ℕ)

-- at most 256 subjects and 1,024 documents, and no name twice in its kind
pub record AreNames (names : KnownNames) : Type 0 where
  pub scheme : IsScheme names.scheme
  pub subjects : IsTable names.subjects
  pub documents : IsTable names.documents
  pub subjects_fit : length names.subjects ≤ most_subjects
  pub documents_fit : length names.documents ≤ most_documents
