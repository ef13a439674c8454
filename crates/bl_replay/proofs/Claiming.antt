-- What a place claims.
use Rattle.std.proofs.Common.{◌≡◌, ℕ, zero, suc, ◌+◌, ◌-◌, ◌<◌, ◌≤◌, List, [], ◌∷◌, ◌++◌, drop, length, get_or, refl, sym, ◌∙◌, ap, subst, arith}
use Rattle.std.specs.Prelude.{All, map, true, false}
use Rattle.std.proofs.lemmas.List.{length-map, get_or-map}
use Rattle.bl_policy.specs.declared.access.Access.{Access}
use Rattle.bl_work.specs.Modes.{alters}
use Rattle.bl_work.specs.Statements.{Part}
use Rattle.bl_order.specs.Claims.{NumberedClaim, numbered, numbered_claims, AreFewAndApart}
use Rattle.bl_order.specs.Order.{Task, Runs, OfDocument, accesses_of, document_claims}
use Rattle.bl_queue.specs.Claims.{AreClaims}
use Rattle.bl_queue.specs.declared.claim.Claim.{Claim}
use Rattle.bl_replay.specs.Kept.{queue_claim, queue_claims}

-- the claim of an access
abbrev pub access_claim : Access → Claim
access_claim a = queue_claim (numbered (record { cown = OfDocument a.doc; exclusive = alters a.mode }))

access-claims : (accesses : List Access) → map queue_claim (map numbered (document_claims accesses)) ≡ map access_claim accesses
access-claims [] = refl
access-claims (a ∷ accesses) = ap (λ l. access_claim a ∷ l) (access-claims accesses)

-- what a behaviour claims: the policy, and what it declares
pub behaviour-claims : (script : List Part) (index : ℕ) → record { cown = 0; shared = true } ∷ map access_claim (accesses_of (Runs script index)) ≡ queue_claims (Runs script index)
behaviour-claims script index = ap (λ l. record { cown = 0; shared = true } ∷ l) (sym (access-claims (accesses_of (Runs script index))))

no_claim : NumberedClaim
no_claim = record { cown = 0; shared = false }

claim-read : (l : List NumberedClaim) (k : ℕ) (d : Claim) → k < length l → get_or (map queue_claim l) k d ≡ queue_claim (get_or l k no_claim)
claim-read l k d lt = get_or-map queue_claim l k no_claim d lt

below-cowns : (k c : ℕ) → 1 ≤ c → k < (c - 1) + 1 → k < c
below-cowns k c some lt = omega (arith, some, lt)

-- the queues may be told them
pub claims-fit : (t : Task) (cowns : ℕ) → 1 ≤ cowns → AreFewAndApart (numbered_claims t) → All (λ (c : NumberedClaim). c.cown < (cowns - 1) + 1) (numbered_claims t)
    → AreClaims cowns (queue_claims t)
claims-fit t cowns some fit known = record {
  few = omega (arith, fit.few, length-map (numbered_claims t) queue_claim);
  known = λ k d lt.
      let l : k < length (numbered_claims t) = omega (arith, lt, length-map (numbered_claims t) queue_claim) in
      subst (λ (c : Claim). c.cown < cowns) (sym (claim-read (numbered_claims t) k d l)) (below-cowns _ cowns some (known k no_claim l));
  apart = λ i j d lt l same.
      let lj : j < length (numbered_claims t) = omega (arith, l, length-map (numbered_claims t) queue_claim) in
      let li : i < length (numbered_claims t) = omega (arith, lt, lj) in
      fit.apart i j no_claim lt lj
      (ap (λ (c : Claim). c.cown) (sym (claim-read (numbered_claims t) i d li)) ∙ same ∙ ap (λ (c : Claim). c.cown) (claim-read (numbered_claims t) j d lj));
}

drop-all : (l : List Access) (i : ℕ) → length l ≤ i → drop i l ≡ []
drop-all [] zero le = refl
drop-all [] (suc i) le = refl
drop-all (a ∷ l) zero le = absurd (omega (arith, le))
drop-all (a ∷ l) (suc i) le = drop-all l i (omega (arith, le))

append-nil : (l : List Claim) → l ≡ l ++ []
append-nil [] = refl
append-nil (c ∷ l) = ap (λ m. c ∷ m) (append-nil l)

-- when no access is left, all claims are listed
pub claims-done : (claims : List Claim) (accesses : List Access) (i : ℕ) (all : List Claim) → length accesses ≤ i → claims ++ map access_claim (drop i accesses) ≡ all → claims ≡ all
claims-done claims accesses i all le is = append-nil claims ∙ ap (λ l. claims ++ map access_claim l) (sym (drop-all accesses i le)) ∙ is
