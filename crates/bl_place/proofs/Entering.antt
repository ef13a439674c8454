-- The claims of places, and the queues that they enter.
use Rattle.std.proofs.Common.{◌≡◌, ◌≢◌, ℕ, ◌+◌, ◌<◌, ◌⊎◌, inl, inr, true, false, List, [], ◌∷◌, ◌++◌, length-append, refl, ap, sym, ◌∙◌, arith, true≢false}
use Rattle.std.specs.Prelude.{map}
use Rattle.std.proofs.Math.ListN.{get_or-append}
use Rattle.std.proofs.Math.Seq.{get_or-append_seam}
use Rattle.bl_policy.specs.declared.access.Access.{Access}
use Rattle.bl_order.specs.Claims.{NumberedClaim, numbered}
use Rattle.bl_order.specs.Order.{Task, Runs, Applies, accesses_of, document_claims, is_rule}
use Rattle.bl_queue.specs.Entries.{no_entry, entry_at, entered}
use Rattle.bl_queue.specs.Queues.{Queue, with_entry}
use Rattle.bl_queue.specs.declared.claim.Claim.{Claim}
use Rattle.bl_queue.specs.declared.entry.Stand.TheVariants as stands
use Rattle.bl_place.specs.Places.{place_in, task_in}
use Rattle.bl_place.specs.Queueing.{claims_for, document_claim, behaviour_claims, stand_for, queued_at, QueuesTell}
use Rattle.bl_place.specs.declared.place.Place.{Place}

abbrev as_claim : NumberedClaim → Claim
as_claim c = record { cown = c.cown; shared = c.shared }

documents-for : (accesses : List Access) → map as_claim (map numbered (document_claims accesses)) ≡ map document_claim accesses
documents-for [] = refl
documents-for (access ∷ accesses) = ap (λ l. document_claim access ∷ l) (documents-for accesses)

-- the claims of a behaviour are those of what it declares
pub claims-runs : (task : Task) (accesses : List Access) → accesses ≡ accesses_of task → is_rule task ≡ false → claims_for task ≡ behaviour_claims accesses
claims-runs (Runs script index) accesses is behaviour = ap (λ l. record { cown = 0; shared = true } ∷ l) (documents-for (accesses_of (Runs script index))) ∙ ap behaviour_claims (sym is)
claims-runs (Applies rule) accesses is behaviour = absurd (true≢false behaviour)

equal_or_not : (m n : ℕ) → (m ≡ n) ⊎ (m ≢ n)
equal_or_not m n = grind arith

-- one place more has entered
pub tell-more : (cowns limit : ℕ) (places : List Place) (n : ℕ) (q : Queue) (claims : List Claim) → QueuesTell cowns limit places n q
    → claims ≡ claims_for (task_in places n) → stand_for (place_in places n).stand ≡ stands.Waiting → QueuesTell cowns limit places (n + 1) (with_entry q claims)
tell-more cowns limit places n q claims tell are waits = record {
  cowns_are = tell.cowns_are;
  limit_is = tell.limit_is;
  as_many = omega (arith, tell.as_many, length-append q.entries (entered claims ∷ []));
  each = λ m lt. each m lt (equal_or_not m n);
}
  where
    each : (m : ℕ) → m < n + 1 → (m ≡ n) ⊎ (m ≢ n) → entry_at (q.entries ++ entered claims ∷ []) m ≡ queued_at places m
    each m lt (inl e) =
        ap (entry_at (q.entries ++ entered claims ∷ [])) (e ∙ sym tell.as_many)
        ∙ get_or-append_seam q.entries (entered claims) [] no_entry
        ∙ (λ i. record { claims = are i; stand = sym waits i })
        ∙ ap (queued_at places) (sym e)
    each m lt (inr ne) =
        get_or-append q.entries (entered claims ∷ []) no_entry m (omega (arith, lt, ne, tell.as_many)) ∙ tell.each m (omega (arith, lt, ne))
