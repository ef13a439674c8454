-- The subjects and documents with a right.
use Rattle.std.specs.Prelude.{ℕ, ◌+◌, ◌||◌, Bool, true, false, List, Option, Some, None, filter_map, flat_map, length, sum_by, if◌then◌else◌}
use Rattle.std.specs.List.{range_with_len}
use Rattle.bl_policy.specs.declared.access.Mode.TheVariants.{Read, Append, Write}
use Rattle.bl_policy.specs.Policy.{SecurityPolicy, allows}
use Rattle.bl_rights.specs.declared.rows.Row.{Row}
use Rattle.bl_rights.specs.Permissions.{permission_of}

-- the subjects of a policy, and its documents, in the order in which the setup declares them
abbrev pub subjects_in : SecurityPolicy → List ℕ
subjects_in p = range_with_len 0 (length p.subjects)

abbrev pub documents_in : SecurityPolicy → List ℕ
documents_in p = range_with_len 0 (length p.documents)

-- whether subject s has a right to document o
abbrev pub has_right : SecurityPolicy → ℕ → ℕ → Bool
has_right p s o = allows p s o Read || (allows p s o Append || allows p s o Write)

-- what its rights permit
abbrev pub row_of : SecurityPolicy → ℕ → ℕ → Row
row_of p s o =
    record {
      subject = s;
      doc = o;
      read = permission_of p s (record { mode = Read; doc = o });
      append = permission_of p s (record { mode = Append; doc = o });
      write = permission_of p s (record { mode = Write; doc = o });
    }

-- the same, where it has one
abbrev pub row_at : SecurityPolicy → ℕ → ℕ → Option Row
row_at p s o = if has_right p s o then Some (row_of p s o) else None

-- the rows of a subject
abbrev pub rows_of : SecurityPolicy → ℕ → List Row
rows_of p s = filter_map (λ o. row_at p s o) (documents_in p)

-- own choice: a row for each subject and document with a right, by subject, then by document
abbrev pub rows : SecurityPolicy → List Row
rows p = flat_map (λ s. rows_of p s) (subjects_in p)

-- how many rights there are: to one document, of one subject, in all
abbrev pub one_if : Bool → ℕ
one_if true = 1
one_if false = 0

abbrev pub right_count : SecurityPolicy → ℕ → ℕ → ℕ
right_count p s o = one_if (allows p s o Read) + (one_if (allows p s o Append) + one_if (allows p s o Write))

abbrev pub rights_of : SecurityPolicy → ℕ → ℕ
rights_of p s = sum_by (λ o. right_count p s o) (documents_in p)

abbrev pub rights : SecurityPolicy → ℕ
rights p = sum_by (λ s. rights_of p s) (subjects_in p)
