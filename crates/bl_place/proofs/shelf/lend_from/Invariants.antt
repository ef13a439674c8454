use Rattle.std.proofs.Common.{◌≡◌, ◌+◌, ◌++◌, drop, length}
use Rattle.bl_grant.specs.Loans.{loans}
use Rattle.bl_place.specs.Shelves.{contents_in}
use Rattle.bl_place.proofs.shelf.lend_from.Given as goal

-- what was lent so far, with what is still to be lent, is all, and there is room for that
abbrev pub invariant-loop-access : goal.invariant-loop-access
invariant-loop-access l =
    (l.lending.0 ++ loans l.entry (drop l.access-index l.accesses) (contents_in l.shelves (drop l.access-index l.accesses)) ≡ loans l.entry l.accesses (contents_in l.shelves l.accesses))
    × (l.access-index + l.lending.1 ≡ length l.accesses)
