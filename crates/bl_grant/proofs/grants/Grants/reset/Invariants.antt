use Rattle.std.proofs.Common.{◌≡◌, ◌++◌, take, drop}
use Rattle.std.specs.Prelude.{map}
use Rattle.bl_grant.specs.Loaned.{as_lent}
use Rattle.bl_grant.specs.Granted.{loaned_of}
use Rattle.bl_grant.proofs.grants.Grants.reset.Given as goal

-- the grants so far are as lent, and the others as they were
abbrev pub invariant-loop-grant : goal.invariant-loop-grant
invariant-loop-grant l =
    map loaned_of l.grant-items ≡ map as_lent (take l.grant-index (map loaned_of l.initial.grant-items)) ++ drop l.grant-index (map loaned_of l.initial.grant-items)
