use Rattle.std.proofs.Common.{◌∷◌, ℕ, sym, ◌∙◌, ap, arith}
use Rattle.std.specs.Prelude.{map, true, slice_index_or}
use Rattle.bl_work.specs.Statements.{no_part}
use Rattle.bl_work.specs.declared.work.Work.{Work}
use Rattle.bl_order.specs.Past.{child_task, first_task}
use Rattle.bl_replay.specs.Kept.{queue_claims}
use Rattle.bl_replay.proofs.Claiming.{access_claim, behaviour-claims, claims-done}
use Rattle.bl_replay.proofs.claim.list_claims.Goals as goal

pub returns-after-loop-access : goal.returns-after-loop-access
returns-after-loop-access c =
    claims-done c.loop-access.claims.items c.accesses-accesses.result.now c.loop-access.access-index _ (omega (arith, c.loop-access-test.false, c.loop-access.auto.access-index-end)) c.loop-access.invariant
    ∙ ap (λ l. record { cown = 0; shared = true } ∷ map access_claim l)
    (c.accesses-accesses.ensures ∙ ap (λ (i : ℕ). (slice_index_or c.in-Behaviour.script i no_part).accesses) c.from.ensures)
    ∙ behaviour-claims c.in-Behaviour.script c.args.index
    ∙ ap (λ (w : Work). queue_claims (child_task (first_task w) c.args.index)) (sym c.in-Behaviour.is)
