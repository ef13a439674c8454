use Rattle.std.proofs.Common.{inl, inr, refl, subst}
use Rattle.bl_folder.specs.Standing.{IsSpanOf}
use Rattle.bl_folder.specs.declared.name.FileKind.TheVariants.{Setup}
use Rattle.bl_chain.proofs.Exits.{silent, told}
use Rattle.bl_chain.proofs.setup.setups_in.Goals as goal

pub returns-in_err-setups : goal.returns-in_err-setups
returns-in_err-setups g c = record {
  same = c.in_err-setups.ensures.same;
  setups = silent _ _ _ c.from_residual.ensures.1;
  fault = told _ _ _ c.from_residual.ensures.1 (λ before is. inr c.in_err-setups.ensures.fault);
}

pub returns-in-Some : goal.returns-in-Some
returns-in-Some g c = record {
  same = c.in_ok-setups.ensures.same;
  setups = λ before is. subst (IsSpanOf before.seen Setup) c.in-Some.is (c.in_ok-setups.ensures.span before is);
  fault = tt;
}

pub returns-in-None : goal.returns-in-None
returns-in-None g c = record {
  same = c.in_ok-setups.ensures.same;
  setups = tt;
  fault = λ before is.
      let none = subst (IsSpanOf before.seen Setup) c.in-None.is (c.in_ok-setups.ensures.span before is) in
      inl (refl, none);
}
