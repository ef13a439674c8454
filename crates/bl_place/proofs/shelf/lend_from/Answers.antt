use Rattle.std.proofs.Common.{ℕ, List, [], ◌∷◌, ◌++◌, ◌≤◌, length, drop, ap, arith}
use Rattle.bl_policy.specs.declared.access.Access.{Access}
use Rattle.bl_grant.specs.Loaned.{Loaned}
use Rattle.bl_grant.specs.Loans.{loans}
use Rattle.bl_place.specs.Shelves.{contents_in}
use Rattle.bl_place.specs.declared.shelf.Shelf.{Shelf}
use Rattle.bl_place.proofs.shelf.lend_from.Goals as goal

-- no more is lent than accesses are declared
few-loans : (entry : ℕ) (shelves : List Shelf) (accesses : List Access) → length (loans entry accesses (contents_in shelves accesses)) ≤ length accesses
few-loans entry shelves [] = omega arith
few-loans entry shelves (access ∷ accesses) = omega (arith, few-loans entry shelves accesses)

few-front : (front rest : List Loaned) → length front ≤ length (front ++ rest)
few-front [] rest = omega arith
few-front (grant ∷ front) rest = omega (arith, few-front front rest)

pub finish-requires : goal.finish-requires
finish-requires c =
    let xs = drop c.loop-access.access-index c.args.accesses.now in
    omega (
      arith,
      few-front c.loop-access.lending.0 (loans c.args.entry xs (contents_in c.args.shelves.now xs)),
      ap length c.loop-access.invariant.0,
      few-loans c.args.entry c.args.shelves.now c.args.accesses.now,
      c.requires.few,
    )
