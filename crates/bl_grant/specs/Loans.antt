-- The grants of one behaviour.
use Rattle.std.specs.Prelude.{◌≡◌, ◌≢◌, ℕ, ◌<◌, if◌then◌else◌, ◌==◌, List, [], ◌∷◌, map, length, slice_index_or}
use Rattle.bl_policy.specs.declared.access.Access.{Access}
use Rattle.bl_grant.specs.Loaned.{Loaned, loan, holding, no_loan}

-- grants of these contents for these accesses, in order, as they are lent
abbrev pub loans : ℕ → List Access → List (List ℕ) → List Loaned
loans entry (access ∷ accesses) (content ∷ contents) = loan entry access content ∷ loans entry accesses contents
loans entry [] contents = []
loans entry (access ∷ accesses) [] = []

-- what the grants are for, in order
abbrev pub accesses_of : List Loaned → List Access
accesses_of grants = map (λ (g : Loaned). g.access) grants

-- the contents that were lent, in order
abbrev pub lent_of : List Loaned → List (List ℕ)
lent_of grants = map (λ (g : Loaned). g.lent) grants

-- the entry that the grants are for
abbrev pub entry_of : List Loaned → ℕ
entry_of grants = (slice_index_or grants 0 no_loan).entry

-- a document's content now
abbrev pub content_of : List Loaned → ℕ → List ℕ
content_of [] doc = []
content_of (g ∷ grants) doc = if g.access.doc == doc then g.now else content_of grants doc

-- the grants with one document's content changed
abbrev pub changed : (List ℕ → List ℕ) → ℕ → List Loaned → List Loaned
changed change doc [] = []
changed change doc (g ∷ grants) = if g.access.doc == doc then holding g (change g.now) ∷ grants else g ∷ changed change doc grants

-- the first grant of the document stands at this place
pub record IsPlace (grants : List Loaned) (doc place : ℕ) : Type 0 where
  pub within : place < length grants
  pub found : (slice_index_or grants place no_loan).access.doc ≡ doc
  pub first : (k : ℕ) → k < place → (slice_index_or grants k no_loan).access.doc ≢ doc
