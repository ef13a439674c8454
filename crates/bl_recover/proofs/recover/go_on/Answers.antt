use Rattle.std.proofs.KnownBytes.{Keeps-refl}
use Rattle.bl_status.specs.Named.{unnamed}
use Rattle.bl_status.specs.declared.fault.ProgramFault.TheVariants.{NotBegun}
use Rattle.bl_recover.specs.declared.recover.RecoveryEnd.TheVariants.{Refused}
use Rattle.bl_recover.proofs.recover.go_on.Goals as goal

-- nothing is gone on with
pub returns-in-Err-clause-run : goal.returns-in-Err-clause-run
returns-in-Err-clause-run g c trail beside = record {
  end = Refused c.in-Err.fault;
  written = Keeps-refl _;
  said = c.refuse.ensures.said;
  status_is = c.refuse.ensures.status;
}

-- the head is torn
pub returns-then-found-clause-run : goal.returns-then-found-clause-run
returns-then-found-clause-run g c trail beside = record {
  end = Refused (unnamed NotBegun);
  written = Keeps-refl _;
  said = c.refuse-then-found.ensures.said;
  status_is = c.refuse-then-found.ensures.status;
}
