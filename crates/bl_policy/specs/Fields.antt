-- What the fields of a policy stand for, and what is always true of them.
use Rattle.std.specs.Prelude.{◌≡◌, ◌*◌, ◌<◌, ◌≤◌, All, length, map, vec_capacity}
use Rattle.bl_level.specs.Level.{Dominates}
use Rattle.bl_policy.specs.declared.policy.Policy.TheInside.{Inside}
use Rattle.bl_policy.specs.Policy.{SecurityPolicy}
use Rattle.bl_policy.specs.Cells.{clearance_from, modes_of, matrix_of, HaveFirstFailed}
use Rattle.bl_policy.specs.Limits.{most_subjects, most_documents}

-- the policy that the fields stand for
abbrev pub policy_of : Inside → SecurityPolicy
policy_of p =
    record {
      subjects = map clearance_from p.subjects.items;
      documents = p.documents.items;
      present = p.present.items;
      matrix = matrix_of (modes_of p.cells.items);
    }

-- there is room for the most subjects and documents and no more are there, of each document it is kept whether it is present, each subject
-- has a row of cells, no cell has a bit that is no mode, every greatest level dominates the current one, and each cell has the first property
-- that fails
pub record IsSound (p : Inside) : Type 0 where
  pub subject_room : most_subjects ≤ vec_capacity p.subjects
  pub document_room : most_documents ≤ vec_capacity p.documents
  pub presence_room : most_documents ≤ vec_capacity p.present
  pub cell_room : 262144 ≤ vec_capacity p.cells
  pub subject_limit : length p.subjects.items ≤ most_subjects
  pub document_limit : length p.documents.items ≤ most_documents
  pub presence_count : length p.present.items ≡ length p.documents.items
  pub cell_count : length p.cells.items ≡ length p.subjects.items * most_documents
  pub modes_only : All (λ modes. modes.0 < 8) (modes_of p.cells.items)
  pub dominated : All (λ s. Dominates s.greatest s.current) p.subjects.items
  pub first_failed : HaveFirstFailed (map clearance_from p.subjects.items) p.documents.items p.cells.items
