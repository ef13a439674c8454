use Rattle.std.proofs.Common.{◌≡◌, take}
use Rattle.std.specs.Prelude.{map}
use Rattle.bl_grant.specs.Loans.{loans}
use Rattle.bl_grant.proofs.Lists.{was}
use Rattle.bl_grant.proofs.grants.Grants.were_lent.Given as goal

-- the grants so far were lent of the accesses and documents so far
abbrev pub invariant-loop-i : goal.invariant-loop-i
invariant-loop-i l = map was (take l.i l.self-inside.grants.items) ≡ loans l.entry (take l.i l.accesses) (take l.i l.documents)
