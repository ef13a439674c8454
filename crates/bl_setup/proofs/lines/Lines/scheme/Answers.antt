use Rattle.std.proofs.Common.{refl}
use Rattle.bl_setup.specs.Agreement.{of_scheme}
use Rattle.bl_setup.specs.FirstSetupFault.{nothing, ranked, declared, ReadsNext}
use Rattle.bl_setup.specs.Taking.{Stops}
use Rattle.bl_declare.proofs.Parts.{exits}
use Rattle.bl_setup.proofs.TakingLemmas.{takes_on, leads_both, line_stops, line_reads, end_stops, stops_behind}
use Rattle.bl_setup.proofs.lines.Lines.scheme.Goals as goal

pub returns-in_err-first-clause-fault : goal.returns-in_err-first-clause-fault
returns-in_err-first-clause-fault c = exits _ _ _ _ c.from_residual.ensures.1 (end_stops nothing _ _ _ (λ b. b) c.in_err-first.ensures.taken)

pub returns-in-Err-clause-fault : goal.returns-in-Err-clause-fault
returns-in-Err-clause-fault c = rw (c.fault.ensures.kind, c.fault.ensures.line) (line_stops nothing _ _ _ _ _ _ c.in_ok-first.ensures.taken c.in-Err.ensures.fault)

pub returns-in_err-second-clause-fault : goal.returns-in_err-second-clause-fault
returns-in_err-second-clause-fault c =
    exits _ _ _ _ c.from_residual-in_err-second.ensures.1
    (stops_behind (Stops c.in_err-second.field-0.0.kind) _ _ _ _ _ _ _ (takes_on nothing (ranked c.in-Ok.ranks.items) _ _ _ _ _ c.in_ok-first.ensures.taken (_, c.in-Ok.ensures.ok, refl))
    (end_stops (ranked c.in-Ok.ranks.items) _ _ _ (λ b. b) c.in_err-second.ensures.taken))

pub returns-clause-fault : goal.returns-clause-fault
returns-clause-fault c =
    rw (c.fault-in-Err-scheme_of.ensures.kind, c.fault-in-Err-scheme_of.ensures.line)
    (stops_behind (Stops c.in-Err-scheme_of.kind) _ _ _ _ _ _ _ (takes_on nothing (ranked c.in-Ok.ranks.items) _ _ _ _ _ c.in_ok-first.ensures.taken (_, c.in-Ok.ensures.ok, refl))
    (line_stops (ranked c.in-Ok.ranks.items) _ _ _ _ _ _ c.in_ok-second.ensures.taken (rw c.as_slice.ensures.value at c.in-Err-scheme_of.ensures.fault)))

pub returns-in-Ok-scheme_of-clause-leads : goal.returns-in-Ok-scheme_of-clause-leads
returns-in-Ok-scheme_of-clause-leads c =
    leads_both _ _ _ _ _ _ _ _ _ (takes_on nothing (ranked c.in-Ok.ranks.items) _ _ _ _ _ c.in_ok-first.ensures.taken (_, c.in-Ok.ensures.ok, refl))
    (takes_on (ranked c.in-Ok.ranks.items) (declared (of_scheme c.in-Ok-scheme_of.scheme)) _ _ _ _ _ c.in_ok-second.ensures.taken
    (_, rw c.as_slice.ensures.value at c.in-Ok-scheme_of.ensures.ok, refl))

pub returns-in-Ok-scheme_of-clause-reads : goal.returns-in-Ok-scheme_of-clause-reads
returns-in-Ok-scheme_of-clause-reads c =
    stops_behind ReadsNext _ _ _ _ _ _ _ (takes_on nothing (ranked c.in-Ok.ranks.items) _ _ _ _ _ c.in_ok-first.ensures.taken (_, c.in-Ok.ensures.ok, refl))
    (line_reads (ranked c.in-Ok.ranks.items) _ _ _ _ _ c.in_ok-second.ensures.taken)
