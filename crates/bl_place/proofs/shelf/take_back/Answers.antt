use Rattle.std.proofs.Common.{◌≡◌, ◌<◌, ℕ, List, length, set, ap, sym, ◌∙◌, subst, length-set}
use Rattle.std.specs.Prelude.{All, Some, map}
use Rattle.std.proofs.lemmas.List.Elements.{All-pop}
use Rattle.bl_grant.specs.Loaned.{Back, back_of}
use Rattle.bl_place.specs.Shelves.{new_shelf, put_back}
use Rattle.bl_place.specs.declared.shelf.Shelf.{Shelf}
use Rattle.bl_place.proofs.Returning.{came-last, put-taken, put-read}
use Rattle.bl_place.proofs.shelf.take_back.Goals as goal

-- the shelf of the document that came back
placed : (i j : ℕ) (h : List Shelf) (bs : List Back) (s : Shelf) (t : List Shelf) → i ≡ j → put_back (set h j s) bs ≡ t → put_back (set h i s) bs ≡ t
placed i j h bs s t e is = ap (λ (k : ℕ). put_back (set h k s) bs) e ∙ is

pub loop-back-preserved-then-is_exclusive : goal.loop-back-preserved-then-is_exclusive
loop-back-preserved-then-is_exclusive c = (
  placed c.position.result c.access-access.result.doc c.loop-back.shelves (map back_of c.close_last.new.self) (new_shelf c.into_content-content.result) _ c.position.ensures
      (put-taken c.loop-back.shelves (map back_of c.loop-back.grants) (map back_of c.close_last.new.self) _ c.in-Some.back c.access-access.result c.into_content-content.result
      (came-last c.loop-back.grants c.close_last.new.self c.in-Some.back c.in-Some.ensures) c.access-access.ensures c.loop-back.invariant.0 c.into_content-content.ensures (sym c.is_exclusive.ensures ∙ c.if-is_exclusive.true)),
  subst (λ (n : ℕ). All (λ (r : Back). r.access.doc < n) (map back_of c.close_last.new.self))
      (sym (length-set c.loop-back.shelves c.position.result _))
      (All-pop (λ (r : Back). r.access.doc < length c.loop-back.shelves) (map back_of c.loop-back.grants) (map back_of c.close_last.new.self) (Some c.in-Some.back) (came-last c.loop-back.grants c.close_last.new.self c.in-Some.back c.in-Some.ensures) c.loop-back.invariant.1).0,
)

pub loop-back-preserved : goal.loop-back-preserved
loop-back-preserved c = (
  put-read c.loop-back.shelves (map back_of c.loop-back.grants) (map back_of c.close_last.new.self) _ c.in-Some.back c.access-access.result c.into_content-content.result
      (came-last c.loop-back.grants c.close_last.new.self c.in-Some.back c.in-Some.ensures) c.access-access.ensures c.loop-back.invariant.0 (sym c.is_exclusive.ensures ∙ c.if-is_exclusive.false),
  (All-pop (λ (r : Back). r.access.doc < length c.loop-back.shelves) (map back_of c.loop-back.grants) (map back_of c.close_last.new.self) (Some c.in-Some.back) (came-last c.loop-back.grants c.close_last.new.self c.in-Some.back c.in-Some.ensures) c.loop-back.invariant.1).0,
)
