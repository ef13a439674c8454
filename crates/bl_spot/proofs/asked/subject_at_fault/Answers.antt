use Rattle.std.proofs.Common.{◌+◌, subst}
use Rattle.std.specs.Prelude.{Contains}
use Rattle.bl_declare.specs.Words.{level_text, subject_text}
use Rattle.bl_setup.specs.FirstSetupFault.{AllHold}
use Rattle.bl_spot.specs.Asking.{Fails, FailsFirst, ask_level, questions_of}
use Rattle.bl_spot.proofs.Failing.{not_some_there, some_there, subject_current, subject_greatest, subject_repeated}
use Rattle.bl_spot.proofs.asked.subject_at_fault.Goals as goal

pub returns-then-is_some : goal.returns-then-is_some
returns-then-is_some c =
    subject_repeated c.args.names.now (subject_text c.args.subject.now)
    (some_there (Contains c.args.names.now.subjects c.args.subject.now.name.now) c.subject.result c.is_some.result c.is_some.ensures c.if-is_some.true c.subject.ensures.found)

pub returns-in-Some : goal.returns-in-Some
returns-in-Some c =
    subject_greatest c.args.names.now (subject_text c.args.subject.now) c.in-Some.asked
    (not_some_there (Contains c.args.names.now.subjects c.args.subject.now.name.now) c.subject.result c.is_some.result c.is_some.ensures c.if-is_some.false c.subject.ensures.found)
    (subst (λ scheme. FailsFirst (ask_level scheme 3 (level_text c.args.subject.now.greatest)) c.in-Some.asked) c.scheme.ensures.value c.in-Some.ensures)

pub returns-in-None : goal.returns-in-None
returns-in-None c =
    let greatest = level_text c.args.subject.now.greatest in
    let current = level_text c.args.subject.now.current in
    let names = c.args.names.now in
    subject_current names (subject_text c.args.subject.now) c.level_at_fault-in-None.result
    (not_some_there (Contains names.subjects c.args.subject.now.name.now) c.subject.result c.is_some.result c.is_some.ensures c.if-is_some.false c.subject.ensures.found)
    (subst (λ scheme. AllHold (questions_of (ask_level scheme 3 greatest))) c.scheme.ensures.value c.in-None.ensures)
    (subst (λ width. Fails (ask_level names.scheme (4 + width) current) c.level_at_fault-in-None.result) c.level_width.ensures
    (subst (λ scheme. Fails (ask_level scheme (4 + c.level_width.result) current) c.level_at_fault-in-None.result) c.scheme-in-None.ensures.value c.level_at_fault-in-None.ensures))
