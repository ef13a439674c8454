-- What comes back is put on the shelves, the last one first.
use Rattle.std.proofs.Common.{◌≡◌, ℕ, Bool, true, false, cond, List, [], ◌∷◌, ◌++◌, set, refl, ap, sym, ◌∙◌}
use Rattle.bl_policy.specs.Mode.{is_exclusive}
use Rattle.bl_policy.specs.declared.access.Access.{Access}
use Rattle.std.specs.Prelude.{map}
use Rattle.std.proofs.lemmas.List.{map-append}
use Rattle.bl_grant.specs.Loaned.{Loaned, Back, back_of, HasClosed}
use Rattle.bl_place.specs.Shelves.{new_shelf, put_one, put_back}
use Rattle.bl_place.specs.declared.shelf.Shelf.{Shelf}

-- what came back of the last grant stands behind what will come back of the others
pub came-last : (before after : List Loaned) (b : Back) → HasClosed before after b → map back_of before ≡ map back_of after ++ b ∷ []
came-last before after b h = ap (map back_of) h.last ∙ map-append back_of after (h.grant ∷ []) ∙ ap (λ (v : Back). map back_of after ++ v ∷ []) (sym h.gives)

pub put_back-last : (s : List Shelf) (xs : List Back) (b : Back) → put_back s (xs ++ b ∷ []) ≡ put_back (put_one s b) xs
put_back-last s [] b = refl
put_back-last s (x ∷ xs) b = ap (λ t. put_one t x) (put_back-last s xs b)

module _ (s : List Shelf) (xs ys : List Back) (t : List Shelf) (b : Back) (a : Access) (content : List ℕ)
    (popped : xs ≡ ys ++ b ∷ []) (for : a ≡ b.access) (was : put_back s xs ≡ t) where
  last : put_back (put_one s b) ys ≡ t
  last = sym (put_back-last s ys b) ∙ ap (put_back s) (sym popped) ∙ was

  -- the last one is put on its shelf
  pub put-taken : content ≡ b.content → is_exclusive a.mode ≡ true → put_back (set s a.doc (new_shelf content)) ys ≡ t
  put-taken held alone =
      ap (λ (c : List ℕ). put_back (set s a.doc (new_shelf c)) ys) held
      ∙ ap (λ (e : Access). put_back (set s e.doc (new_shelf b.content)) ys) for
      ∙ ap (λ (v : Bool). put_back (cond v (set s b.access.doc (new_shelf b.content)) s) ys) (sym alone ∙ ap (λ (e : Access). is_exclusive e.mode) for)
      ∙ last

  -- one that was lent for reading changes nothing
  pub put-read : is_exclusive a.mode ≡ false → put_back s ys ≡ t
  put-read shared =
      ap (λ (v : Bool). put_back (cond v (set s b.access.doc (new_shelf b.content)) s) ys) (sym shared ∙ ap (λ (e : Access). is_exclusive e.mode) for)
      ∙ last
