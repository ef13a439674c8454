-- The shelves: what is lent, what comes back, and what is emptied.
use Rattle.std.specs.Prelude.{◌≡◌, ℕ, Bool, true, false, if◌then◌else◌, List, [], ◌∷◌, length, map, slice_index_or, slice_set}
use Rattle.bl_policy.specs.Mode.{is_exclusive}
use Rattle.bl_policy.specs.declared.access.Access.{Access}
use Rattle.bl_grant.specs.Loaned.{Back}
use Rattle.bl_place.specs.declared.shelf.Shelf.{Shelf}

-- a content at home
abbrev pub new_shelf : List ℕ → Shelf
new_shelf content = record { content = content; lent = false }

abbrev pub shelf_in : List Shelf → ℕ → Shelf
shelf_in shelves doc = slice_index_or shelves doc (new_shelf [])

abbrev pub content_in : List Shelf → ℕ → List ℕ
content_in shelves doc = (shelf_in shelves doc).content

-- the contents of what the accesses name, in order
abbrev pub contents_in : List Shelf → List Access → List (List ℕ)
contents_in shelves accesses = map (λ (a : Access). content_in shelves a.doc) accesses

-- the shelves where what an access alters is lent
abbrev pub mark_one : List Shelf → Access → List Shelf
mark_one shelves a = if is_exclusive a.mode then slice_set shelves a.doc (record (shelf_in shelves a.doc) { lent = true }) else shelves

abbrev pub marked : List Shelf → List Access → List Shelf
marked shelves [] = shelves
marked shelves (a ∷ rest) = marked (mark_one shelves a) rest

-- the shelves where what was lent exclusively has come back
abbrev pub put_one : List Shelf → Back → List Shelf
put_one shelves b = if is_exclusive b.access.mode then slice_set shelves b.access.doc (new_shelf b.content) else shelves

-- the last one first
abbrev pub put_back : List Shelf → List Back → List Shelf
put_back shelves [] = shelves
put_back shelves (b ∷ rest) = put_one (put_back shelves rest) b

-- the shelf with an empty content
abbrev pub emptied : Shelf → Shelf
emptied shelf = record { content = []; lent = shelf.lent }

-- the contents of the documents that pass a test are empty, and all else is as it was
pub record AreEmptied (these : ℕ → Bool) (shelves after : List Shelf) : Type 0 where
  pub as_many : length after ≡ length shelves
  pub each : (doc : ℕ) → shelf_in after doc ≡ (if these doc then emptied (shelf_in shelves doc) else shelf_in shelves doc)
