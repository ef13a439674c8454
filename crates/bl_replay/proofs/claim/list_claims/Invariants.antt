use Rattle.std.proofs.Common.{◌≡◌, ◌++◌, ◌∷◌, drop}
use Rattle.std.specs.Prelude.{map, true}
use Rattle.bl_replay.proofs.Claiming.{access_claim}
use Rattle.bl_replay.proofs.claim.list_claims.Given as goal

abbrev pub invariant-loop-access : goal.invariant-loop-access
invariant-loop-access l = l.claims.items ++ map access_claim (drop l.access-index l.accesses) ≡ record { cown = 0; shared = true } ∷ map access_claim l.accesses
