use Rattle.std.proofs.Common.{◌≡◌, ◌-◌}
use Rattle.bl_session.specs.Pages.{HaveRun}
use Rattle.bl_session.proofs.entries.run.Given as goal

abbrev pub invariant-places : goal.invariant-places
invariant-places l = HaveRun l.fn.pages.hall l.fn.pages.next l.pages.hall l.pages.next × (l.pages.session ≡ l.fn.pages.session)

abbrev pub decreases-places : goal.decreases-places
decreases-places l = l.pages.hall.limit - l.pages.next
