use Rattle.std.proofs.Common.{refl, Some}
use Rattle.bl_spot.proofs.Failing.{fails_here, fails_later, none_there, not_none_there}
use Rattle.bl_spot.proofs.asked.allow_at_fault.Goals as goal

pub returns-then-is_none : goal.returns-then-is_none
returns-then-is_none c = fails_here _ _ _ (none_there _ c.subject.result c.is_none.result c.is_none.ensures c.if-is_none.true c.subject.ensures.found) refl refl refl

pub returns-then-is_none-2 : goal.returns-then-is_none-2
returns-then-is_none-2 c =
    fails_later _ _ (Some _) (not_none_there _ c.subject.result c.is_none.result c.is_none.ensures c.if-is_none.false c.subject.ensures.found)
    (fails_here _ _ _ (none_there _ c.document.result c.is_none-2.result c.is_none-2.ensures c.if-is_none-2.true c.document.ensures.found) refl refl refl)
