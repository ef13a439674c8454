use Rattle.std.proofs.Common.{refl}
use Rattle.bl_setup.specs.Taking.{Stops}
use Rattle.bl_setup.proofs.TakingLemmas.{leads_none, leads_both, takes_on, line_stops, stops_behind}
use Rattle.bl_setup.proofs.WholeLemmas.{remain_more, remain_next, remain_same}
use Rattle.bl_setup.proofs.lines.Lines.read_into.Goals as goal

pub loop-line-init : goal.loop-line-init
loop-line-init c = record { agree = c.requires; there = λ after r. r; back = λ after r. r; leads = leads_none _ _ _ }

pub loop-line-preserved : goal.loop-line-preserved
loop-line-preserved c =
    record {
      agree = c.in-Ok.ensures.agree;
      there = λ after r. c.loop-line.invariant.there after (remain_more _ _ _ _ _ after c.in-Some.ensures.line c.in-Ok.ensures.ok r);
      back = λ after r. remain_next _ _ _ _ _ after c.in-Some.ensures.line c.in-Ok.ensures.ok (c.loop-line.invariant.back after r);
      leads = leads_both _ _ _ _ _ _ _ _ _ c.loop-line.invariant.leads (takes_on _ _ _ _ _ _ _ c.in-Some.ensures.taken (_, c.in-Ok.ensures.ok, refl));
    }

pub returns-in-Err-clause-fault : goal.returns-in-Err-clause-fault
returns-in-Err-clause-fault c =
    rw (c.fault.ensures.kind, c.fault.ensures.line)
    (stops_behind (Stops c.in-Err.kind) _ _ _ _ _ _ _ c.loop-line.invariant.leads (line_stops _ _ _ _ _ _ _ c.in-Some.ensures.taken c.in-Err.ensures.fault))

pub returns-clause-only : goal.returns-clause-only
returns-clause-only c = λ after r. remain_same _ _ after c.in_default.ensures.line (c.loop-line.invariant.back after r)
