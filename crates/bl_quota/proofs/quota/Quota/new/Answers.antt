use Rattle.std.proofs.Common.{◌≡◌, ◌<◌, ℕ, true, refl, sym, subst, arith}
use Rattle.bl_order.specs.Machine.{State, has_ended}
use Rattle.bl_sizes.specs.Sizes.{HoldsDocuments}
use Rattle.bl_quota.specs.Quotas.{IsSettled}
use Rattle.bl_quota.proofs.Asking.{recounted-quota}
use Rattle.bl_quota.proofs.quota.Quota.new.Goals as goal

-- nothing is settled
none : (x : State) → IsSettled x 0 0
none x = record { there = omega arith; ended = λ n lt. absurd (omega (arith, lt)); are = refl }

pub returns-clause-quota : goal.returns-clause-quota
returns-clause-quota c =
    let x = c.args.core.now in
    recounted-quota c.recount.new.self x c.recount.result (subst HoldsDocuments c.setup.ensures c.documents_hold.ensures) (c.recount.ensures.recounted (none x))
