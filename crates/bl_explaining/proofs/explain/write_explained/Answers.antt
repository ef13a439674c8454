use Rattle.std.proofs.Common.{rules, ◌≡◌, ◌∙◌, ℕ, List, ap, inl, inr, not, refl, subst}
use Rattle.std.proofs.KnownBytes.{Keeps-refl}
use Rattle.std.proofs.lemmas.Result.{err_from_is_err_and}
use Rattle.bl_explaining.specs.Explained.{IsExplained}
use Rattle.bl_explaining.proofs.explain.write_explained.Goals as goal

-- the bytes are no setup
pub returns-in-Err-clause-fault : goal.returns-in-Err-clause-fault
returns-in-Err-clause-fault g c = inl (c.in-Err.fault, refl, record { unwritten = Keeps-refl _; none = c.in-Err.ensures.fault })

-- something that is asked is not known there
pub returns-in_err-told-clause-fault : goal.returns-in_err-told-clause-fault
returns-in_err-told-clause-fault g c =
    let p = err_from_is_err_and c.from_residual.result c.from_residual.ensures.1 in
    rw (p.1, p.2)
    (inr (inl (record { setup = c.in-Ok.setup; is = c.in-Ok.ensures.setup; why = c.in_err-told.ensures.fault; unwritten = Keeps-refl _ })))

-- the output failed
pub returns-then-not-put_out-clause-fault : goal.returns-then-not-put_out-clause-fault
returns-then-not-put_out-clause-fault g c =
    let told = c.in_ok-told.told in
    let is : told.text.items ≡ c.deref.result.now = search rules in
    inr (inr (record {
      setup = c.in-Ok.setup;
      is = c.in-Ok.ensures.setup;
      text = c.deref.result.now;
      granted = told.granted;
      explained = subst (λ (b : List ℕ). IsExplained c.in-Ok.setup c.args.bytes.now c.args.question.now b told.granted) is c.in_ok-told.ensures.explained;
      much = c.put_out.ensures.some.0;
      written = c.put_out.ensures.some.1;
      why = refl;
      failed = c.put_out.ensures.failed ∙ ap not c.if-not-put_out.true;
    }))

pub returns-clause-explained : goal.returns-clause-explained
returns-clause-explained g c =
    let told = c.in_ok-told.told in
    let is : told.text.items ≡ c.deref.result.now = search rules in
    record {
      setup = c.in-Ok.setup;
      is = c.in-Ok.ensures.setup;
      text = c.deref.result.now;
      granted = told.granted;
      explained = subst (λ (b : List ℕ). IsExplained c.in-Ok.setup c.args.bytes.now c.args.question.now b told.granted) is c.in_ok-told.ensures.explained;
      written = c.put_out.ensures.all c.if-not-put_out.false;
      status_is = c.status_of.ensures;
    }
