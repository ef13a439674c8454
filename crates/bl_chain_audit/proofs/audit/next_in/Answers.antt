use Rattle.std.proofs.Common.{◌∙◌, Some, ap, refl, sym, true≢false}
use Rattle.bl_folder.specs.declared.fault.FolderFault.TheVariants as folders
use Rattle.bl_chain.proofs.Exits.{silent, told}
use Rattle.bl_chain_audit.proofs.audit.next_in.Goals as goal

pub returns-in_err-text : goal.returns-in_err-text
returns-in_err-text g c = record {
  same = c.in_err-text.ensures.same;
  next = silent _ _ _ c.from_residual.ensures.1;
  fault = told _ _ _ c.from_residual.ensures.1 c.in_err-text.ensures.fault;
}

pub returns-in_default : goal.returns-in_default
returns-in_default g c = record {
  same = c.in_ok-text.ensures.same;
  next = λ before is. sym (rw (c.setup.ensures, c.in_default.is) at (c.in_ok-text.ensures.bytes before is));
  fault = tt;
}

pub returns-in_err-is_text_of : goal.returns-in_err-is_text_of
returns-in_err-is_text_of g c = record {
  same = c.in_ok-text.ensures.same;
  next = silent _ _ _ c.from_residual-in_err-is_text_of.ensures.1;
  fault = told _ _ _ c.from_residual-in_err-is_text_of.ensures.1 (folders.Memory, refl);
}

pub returns-then-branch : goal.returns-then-branch
returns-then-branch g c = record {
  same = c.in_ok-text.ensures.same;
  next = λ before is.
      let has = sym (rw (c.setup.ensures, c.in-Some.is) at (c.in_ok-text.ensures.bytes before is)) in
      has ∙ ap Some (sym c.deref.ensures.value ∙ c.in_ok-is_text_of.ensures.0 c.if-branch.true);
  fault = tt;
}

pub returns : goal.returns
returns g c = record {
  same = c.in_ok-text.ensures.same;
  next = λ before is.
      let has = sym (rw (c.setup.ensures, c.in-Some.is) at (c.in_ok-text.ensures.bytes before is)) in
      (c.in-Some.text.items, has, λ e. true≢false (sym (c.in_ok-is_text_of.ensures.1 (c.deref.ensures.value ∙ e)) ∙ c.if-branch.false));
  fault = tt;
}
