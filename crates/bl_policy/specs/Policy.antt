use Rattle.std.specs.Prelude.{ℕ, Bool, true, false, List, [], ◌∷◌, ◌++◌, slice_index_or, slice_set, All}
use Rattle.bl_level.specs.Level.{SecurityLevel, Dominates}
use Rattle.bl_policy.specs.declared.access.Mode.{Mode}
use Rattle.bl_policy.specs.declared.access.ModeSet.{ModeSet}
use Rattle.bl_policy.specs.Matrix.{Matrix, Triple, triple, is_in, put_in, take_out, put_modes, without_document, no_triple}

-- what a policy has of one subject: its levels, and whether it is in the sets of trusted subjects and of administrators
pub record Clearance : Type 0 where
  pub greatest : SecurityLevel
  pub current : SecurityLevel
  pub trusted : Bool
  pub admin : Bool

-- the finite maps from subjects and from documents, by position, the set of the documents that are present, as a truth value for each
-- document, and the matrix
pub record SecurityPolicy : Type 0 where
  pub subjects : List Clearance
  pub documents : List SecurityLevel
  pub present : List Bool
  pub matrix : Matrix

-- own choice: what stands for the level of a document that is not there
abbrev pub lowest : SecurityLevel
lowest = record { rank = 0; categories = 0 }

-- own choice: what stands for a subject that is not there
abbrev pub nobody : Clearance
nobody = record { greatest = lowest; current = lowest; trusted = false; admin = false }

-- the policy with no subject, no document and no triple
abbrev pub no_policy : SecurityPolicy
no_policy = record { subjects = []; documents = []; present = []; matrix = no_triple }

-- what the policy has of subject s
abbrev pub clearance_of : SecurityPolicy → ℕ → Clearance
clearance_of p s = slice_index_or p.subjects s nobody

-- the greatest level of subject s
abbrev pub greatest_of : SecurityPolicy → ℕ → SecurityLevel
greatest_of p s = (clearance_of p s).greatest

-- the current level of subject s
abbrev pub current_of : SecurityPolicy → ℕ → SecurityLevel
current_of p s = (clearance_of p s).current

-- the level of document o
abbrev pub level_of : SecurityPolicy → ℕ → SecurityLevel
level_of p o = slice_index_or p.documents o lowest

-- document o is present: it has not been reserved alone, nor deleted
abbrev pub is_present : SecurityPolicy → ℕ → Bool
is_present p o = slice_index_or p.present o false

-- subject s is trusted
abbrev pub is_trusted : SecurityPolicy → ℕ → Bool
is_trusted p s = (clearance_of p s).trusted

-- subject s is an administrator
abbrev pub is_admin : SecurityPolicy → ℕ → Bool
is_admin p s = (clearance_of p s).admin

-- the triple of subject s, document o and mode m is in the matrix
abbrev pub allows : SecurityPolicy → ℕ → ℕ → Mode → Bool
allows p s o m = is_in p.matrix (triple s o m)

-- the policy with one more subject
abbrev pub with_subject : SecurityPolicy → Clearance → SecurityPolicy
with_subject p clearance = record p { subjects = p.subjects ++ clearance ∷ [] }

-- the policy with one more document, which is present or not
abbrev pub with_declared : SecurityPolicy → SecurityLevel → Bool → SecurityPolicy
with_declared p level there = record p { documents = p.documents ++ level ∷ []; present = p.present ++ there ∷ [] }

-- the policy with one more document, which is present
abbrev pub with_document : SecurityPolicy → SecurityLevel → SecurityPolicy
with_document p level = with_declared p level true

-- the policy with one more document, which is not present
abbrev pub with_reserved : SecurityPolicy → SecurityLevel → SecurityPolicy
with_reserved p level = with_declared p level false

-- the policy whose matrix also has the triples of subject s, document o and these modes
abbrev pub with_modes : SecurityPolicy → ℕ → ℕ → ModeSet → SecurityPolicy
with_modes p s o modes = record p { matrix = put_modes p.matrix s o modes }

-- the policy whose matrix also has this triple
abbrev pub with_triple : SecurityPolicy → Triple → SecurityPolicy
with_triple p t = record p { matrix = put_in p.matrix t }

-- the policy whose matrix does not have this triple
abbrev pub without_triple : SecurityPolicy → Triple → SecurityPolicy
without_triple p t = record p { matrix = take_out p.matrix t }

-- the policy in which this is the current level of subject s
abbrev pub with_current : SecurityPolicy → ℕ → SecurityLevel → SecurityPolicy
with_current p s level = record p { subjects = slice_set p.subjects s (record (clearance_of p s) { current = level }) }

-- the policy in which this is the level of document o
abbrev pub with_level : SecurityPolicy → ℕ → SecurityLevel → SecurityPolicy
with_level p o level = record p { documents = slice_set p.documents o level }

-- the policy in which document o is present or not
abbrev pub with_presence : SecurityPolicy → ℕ → Bool → SecurityPolicy
with_presence p o there = record p { present = slice_set p.present o there }

-- the policy in whose matrix each cell of document o is empty
abbrev pub without_cells : SecurityPolicy → ℕ → SecurityPolicy
without_cells p o = record p { matrix = without_document p.matrix o }

-- the greatest level of every subject dominates its current one (Bell and La Padula 1976)
abbrev pub CurrentBelowGreatest : SecurityPolicy → Type 0
CurrentBelowGreatest p = All (λ clearance. Dominates clearance.greatest clearance.current) p.subjects
