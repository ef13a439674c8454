use Rattle.std.proofs.Common.{◌≡◌, ℕ, ◌<◌, length, slice_index, sym, subst}
use Rattle.bl_queue.specs.Entries.{MayStart}
use Rattle.bl_queue.specs.Queues.{Queue}
use Rattle.bl_queue.specs.Rooms.{queue_of}
use Rattle.bl_queue.proofs.Kept.{front_may_start, none_may_start, if_some}
use Rattle.bl_queue.proofs.queues.Queues.ready.Goals as goal

pub returns-clause-some : goal.returns-clause-some
returns-clause-some c =
    let r = c.self.inside.roster in
    if_some (λ (n : ℕ). (r.front < length r.holders.free) × (slice_index r.holders.free r.front ≡ n)) (λ (n : ℕ). MayStart c.args.self.now.entries n) c.first.result
    c.first.ensures.some
    (λ n p. subst (λ (q : Queue). MayStart q.entries n) c.self.view_is
    (front_may_start (queue_of c.self.inside) r.places r.holders r.front n c.self.invariant.kept.queued p.0 p.1))

pub returns-clause-none : goal.returns-clause-none
returns-clause-none c =
    let r = c.self.inside.roster in
    λ none n may. none_may_start (queue_of c.self.inside) r.places r.holders r.front n c.self.invariant.kept.right c.self.invariant.kept.queued (c.first.ensures.none none)
    (subst (λ (q : Queue). MayStart q.entries n) (sym c.self.view_is) may)
