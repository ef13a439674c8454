use Rattle.bl_status.proofs.setup.given_setup.Goals as goal

-- the bytes are no setup
pub returns-in-Err-clause-fault : goal.returns-in-Err-clause-fault
returns-in-Err-clause-fault c = record {
  of = c.in-Err.fault;
  named = c.of_setup.ensures;
  why = c.in-Err.ensures.fault;
  earliest = c.in-Err.ensures.first;
  refused = c.in-Err.ensures.memory;
}
