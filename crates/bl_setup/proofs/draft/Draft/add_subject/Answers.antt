use Rattle.std.proofs.Common.{refl, arith}
use Rattle.bl_declare.specs.Words.{subject_text}
use Rattle.bl_setup.specs.Draft.{setup_of}
use Rattle.bl_declare.proofs.Parts.{exits}
use Rattle.bl_setup.proofs.AddLemmas.{same_setup, not_there, above_from_not, ok_not_err}
use Rattle.bl_setup.proofs.Agreeing.{agree_subject}
use Rattle.bl_setup.proofs.DraftFaults.{same_scheme, subject_greatest, subject_current, subject_above}
use Rattle.bl_setup.proofs.draft.Draft.add_subject.Goals as goal

pub returns-in_err-greatest-clause-fault : goal.returns-in_err-greatest-clause-fault
returns-in_err-greatest-clause-fault c =
    exits _ _ _ _ c.from_residual.ensures.1
    (subject_greatest (setup_of c.args.self.now) (subject_text c.args.subject.now) _ (omega arith) (not_there _ _ c.is_some.ensures c.if-is_some.false c.subject.ensures.found)
    (same_scheme _ _ (subject_text c.args.subject.now).greatest _ c.scheme.ensures.value c.in_err-greatest.ensures))

pub returns-in_err-current-clause-fault : goal.returns-in_err-current-clause-fault
returns-in_err-current-clause-fault c =
    exits _ _ _ _ c.from_residual-in_err-current.ensures.1
    (subject_current (setup_of c.args.self.now) (subject_text c.args.subject.now) c.in_ok-greatest.greatest _ (omega arith)
    (not_there _ _ c.is_some.ensures c.if-is_some.false c.subject.ensures.found) (rw c.scheme.ensures.value at c.in_ok-greatest.ensures)
    (same_scheme _ _ (subject_text c.args.subject.now).current _ c.scheme-2.ensures.value c.in_err-current.ensures))

pub returns-in_err-add_subject-clause-fault : goal.returns-in_err-add_subject-clause-fault
returns-in_err-add_subject-clause-fault c =
    let h = c.in_err-add_subject.ensures in
    exits _ _ _ _ c.from_residual-in_err-add_subject.ensures.1
    (subject_above (setup_of c.args.self.now) (subject_text c.args.subject.now) c.in_ok-greatest.greatest c.in_ok-current.current c.in_err-add_subject.field-0.0 _ (omega arith)
    (not_there _ _ c.is_some.ensures c.if-is_some.false c.subject.ensures.found) (rw c.scheme.ensures.value at c.in_ok-greatest.ensures)
    (rw c.scheme-2.ensures.value at c.in_ok-current.ensures) (omega arith) h.too_many h.above)

pub returns-clause-ok : goal.returns-clause-ok
returns-clause-ok c =
    let h = c.in_ok-add_subject.ensures.ok in
    let name = rw c.unwrap.ensures at c.new.ensures.value in
    record {
      room = omega arith;
      is_new = not_there _ _ c.is_some.ensures c.if-is_some.false c.subject.ensures.found;
      greatest = c.in_ok-greatest.greatest;
      current = c.in_ok-current.current;
      means_greatest = rw c.scheme.ensures.value at c.in_ok-greatest.ensures;
      means_current = rw c.scheme-2.ensures.value at c.in_ok-current.ensures;
      dominates = above_from_not _ _ (λ d. ok_not_err (c.in_ok-add_subject.ensures.above.1 (omega arith, d)));
      is = same_setup (rw name at c.in_ok-add_subject-2.ensures.ok.1) h.1 refl;
    }

pub returns-clause-agree : goal.returns-clause-agree
returns-clause-agree c = agree_subject (setup_of c.args.self.now) (subject_text c.args.subject.now) _ c.requires.agree (returns-clause-ok c)
