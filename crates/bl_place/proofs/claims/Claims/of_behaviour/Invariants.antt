use Rattle.std.proofs.Common.{◌≡◌, ◌+◌, true, ◌∷◌, length, take}
use Rattle.std.specs.Prelude.{map}
use Rattle.bl_queue.specs.Claims.{most_claims}
use Rattle.bl_place.specs.Queueing.{document_claim, policy_claim}
use Rattle.bl_place.proofs.claims.Claims.of_behaviour.Given as goal

-- so far the documents' claims stand behind the policy's
abbrev pub invariant-loop-i : goal.invariant-loop-i
invariant-loop-i l = (length l.claims ≡ most_claims) × (take (l.i + 1) l.claims ≡ policy_claim true ∷ map document_claim (take l.i l.accesses))
