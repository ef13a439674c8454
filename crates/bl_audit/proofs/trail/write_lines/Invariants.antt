use Rattle.std.proofs.Common.{◌≡◌, false}
use Rattle.bl_audit.proofs.Trails.{WroteFirst, events_after, state_at}
use Rattle.bl_audit.proofs.trail.write_lines.Given as goal

abbrev pub invariant-loop-event : goal.invariant-loop-event
invariant-loop-event g l =
    WroteFirst (state_at l.hall l.bookmark.written) (events_after l.hall l.bookmark.written) l.event-index l.place (g.W.Write.contents l.fn.writer.inner) (g.W.Write.contents l.writer.inner)
    × (l.writer.failed ≡ false)
