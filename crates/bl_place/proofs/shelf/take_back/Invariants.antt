use Rattle.std.proofs.Common.{◌≡◌, ◌<◌, length}
use Rattle.std.specs.Prelude.{All, map}
use Rattle.bl_grant.specs.Loaned.{Back, back_of}
use Rattle.bl_place.specs.Shelves.{put_back}
use Rattle.bl_place.proofs.shelf.take_back.Given as goal

abbrev pub invariant-loop-back : goal.invariant-loop-back
invariant-loop-back l =
    (put_back l.shelves (map back_of l.grants) ≡ put_back l.initial.shelves (map back_of l.initial.grants)) × All (λ (b : Back). b.access.doc < length l.shelves) (map back_of l.grants)

abbrev pub decreases-loop-back : goal.decreases-loop-back
decreases-loop-back l = length l.grants
