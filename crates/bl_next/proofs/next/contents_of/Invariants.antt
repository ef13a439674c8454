use Rattle.std.proofs.Common.{◌≡◌}
use Rattle.bl_order.specs.Now.{content_now}
use Rattle.bl_order.specs.Standing.{tabled}
use Rattle.bl_next.proofs.next.contents_of.Given as goal

-- the contents up to there
abbrev pub invariant-loop-doc : goal.invariant-loop-doc
invariant-loop-doc l = l.contents.items ≡ tabled 0 l.doc (content_now l.core)
