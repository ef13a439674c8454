use Rattle.std.proofs.Common.{◌≡◌, ◌+◌, take, length}
use Rattle.bl_grant.specs.Loans.{loans}
use Rattle.bl_grant.proofs.grants.Grants.lend.Given as goal

-- what was lent so far is for the accesses so far, and there is room for the others
abbrev pub invariant-loop-i : goal.invariant-loop-i
invariant-loop-i l = (l.lending.0 ≡ loans l.entry (take l.i l.accesses) (take l.i l.documents)) × (l.i + l.lending.1 ≡ length l.accesses)
