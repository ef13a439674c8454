use Rattle.std.proofs.Common.{◌≡◌, ◌<◌, true, length, sym, subst, ◌∙◌}
use Rattle.bl_queue.specs.Entries.{MayStart, entry_at, is_waiting}
use Rattle.bl_queue.specs.Queues.{Queue}
use Rattle.bl_queue.specs.Rooms.{queue_of}
use Rattle.bl_queue.proofs.Kept.{may_start_from, waits_none}
use Rattle.bl_queue.proofs.queues.Queues.is_ready.Goals as goal

pub returns : goal.returns
returns c =
    let r = c.self.inside.roster in
    let there : c.args.n < length c.self.inside.roster.entries = c.is_there.ensures.0 c.if-not-is_there.false in
    let waiting : is_waiting (entry_at c.self.inside.roster.entries c.args.n).stand ≡ true = sym c.is_waiting.ensures ∙ c.if-not-is_waiting.false in (
      λ t. subst (λ (q : Queue). MayStart q.entries c.args.n) c.self.view_is
          (may_start_from (queue_of c.self.inside) r.places r.holders r.front c.args.n c.self.invariant.kept.queued there waiting (c.is_free.ensures.0 t)),
      λ m. c.is_free.ensures.1 (waits_none (queue_of c.self.inside) r.places r.holders r.front c.args.n c.self.invariant.kept.right c.self.invariant.kept.queued
          (subst (λ (q : Queue). MayStart q.entries c.args.n) (sym c.self.view_is) m)),
    )
