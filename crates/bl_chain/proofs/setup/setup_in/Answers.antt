use Rattle.bl_folder.specs.Names.{setup_of}
use Rattle.bl_chain.proofs.Exits.{silent, told}
use Rattle.bl_chain.proofs.Reasons.{unread-refused}
use Rattle.bl_chain.proofs.Spans.{not-none}
use Rattle.bl_chain.proofs.setup.setup_in.Goals as goal

pub returns-in_err-setup : goal.returns-in_err-setup
returns-in_err-setup g c = record {
  same = c.in_err-setup.ensures.same;
  setup = silent _ _ _ c.from_residual.ensures.1;
  whole = silent _ _ _ c.from_residual.ensures.1;
  fault = told _ _ _ c.from_residual.ensures.1
      (λ before is some. unread-refused before.seen c.args.run c.in_err-setup.field-0.0 (c.in_err-setup.ensures.fault before is));
}

pub returns-in-Some : goal.returns-in-Some
returns-in-Some g c = record {
  same = c.in_ok-setup.ensures.same;
  setup = λ before is. rw c.in-Some.is at (c.in_ok-setup.ensures.setup before is);
  whole = rw c.in-Some.is at c.in_ok-setup.ensures.whole;
  fault = tt;
}

pub returns-in-None : goal.returns-in-None
returns-in-None g c = record {
  same = c.in_ok-setup.ensures.same;
  setup = tt;
  whole = tt;
  fault = λ before is some. absurd (not-none (before.seen (setup_of c.args.run)) some (rw c.in-None.is at (c.in_ok-setup.ensures.setup before is)));
}
