use Rattle.std.proofs.Common.{◌≡◌, Some, inr, sym, subst}
use Rattle.bl_declare.specs.Faults.{UnlessMemory}
use Rattle.bl_setup.specs.FirstSetupFault.{FirstSetupFaultWithin}
use Rattle.bl_setup.specs.Grammar.{IsSetupWithin}
use Rattle.bl_state.specs.Texts.{most_text_bytes}
use Rattle.bl_folder.specs.Names.{setup_of}
use Rattle.bl_chain.proofs.Exits.{silent, told}
use Rattle.bl_chain.proofs.Reasons.{no-setup}
use Rattle.bl_chain.proofs.setup.found_setup.Goals as goal

pub returns-in_err-text : goal.returns-in_err-text
returns-in_err-text g c = record {
  same = c.in_err-text.ensures.same;
  setup = silent _ _ _ c.from_residual.ensures.1;
  whole = silent _ _ _ c.from_residual.ensures.1;
  fault = told _ _ _ c.from_residual.ensures.1 (λ before is. inr c.in_err-text.ensures.fault);
}

pub returns-in_default : goal.returns-in_default
returns-in_default g c = record {
  same = c.in_ok-text.ensures.same;
  setup = λ before is. sym (rw (c.setup.ensures, c.in_default.is) at (c.in_ok-text.ensures.bytes before is));
  whole = tt;
  fault = tt;
}

pub returns-in-Ok : goal.returns-in-Ok
returns-in-Ok g c = record {
  same = c.in_ok-text.ensures.same;
  setup = λ before is. record {
    text = c.in-Some.text.items;
    has = sym (rw (c.setup.ensures, c.in-Some.is) at (c.in_ok-text.ensures.bytes before is));
    is = subst (λ t. IsSetupWithin most_text_bytes t c.in-Ok.setup) c.deref.ensures.value c.in-Ok.ensures.setup;
  };
  whole = c.read_setups_are_whole.ensures _ _ _ c.in-Ok.ensures.setup;
  fault = tt;
}

pub returns : goal.returns
returns g c = record {
  same = c.in_ok-text.ensures.same;
  setup = tt;
  whole = tt;
  fault = λ before is.
      let has : before.seen (setup_of c.args.run) ≡ Some c.in-Some.text.items = sym (rw (c.setup.ensures, c.in-Some.is) at (c.in_ok-text.ensures.bytes before is)) in
      no-setup before.seen c.args.run c.in-Some.text.items has c.in-Err.fault c.of_setup.result c.of_setup.ensures.memory c.of_setup.ensures.other
      (subst (λ t. UnlessMemory c.in-Err.fault.kind (FirstSetupFaultWithin most_text_bytes t c.in-Err.fault)) c.deref.ensures.value c.in-Err.ensures.first);
}
