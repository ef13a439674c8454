use Rattle.std.proofs.Common.{subst}
use Rattle.std.specs.Prelude.{Contains}
use Rattle.bl_declare.specs.Words.{document_text, level_text}
use Rattle.bl_spot.specs.Asking.{Fails, ask_level}
use Rattle.bl_spot.proofs.Failing.{document_level, document_repeated, not_some_there, some_there}
use Rattle.bl_spot.proofs.asked.document_at_fault.Goals as goal

pub returns-then-is_some : goal.returns-then-is_some
returns-then-is_some c =
    document_repeated c.args.names.now (document_text c.args.document.now)
    (some_there (Contains c.args.names.now.documents c.args.document.now.name.now) c.document.result c.is_some.result c.is_some.ensures c.if-is_some.true c.document.ensures.found)

pub returns : goal.returns
returns c =
    document_level c.args.names.now (document_text c.args.document.now) c.level_at_fault.result
    (not_some_there (Contains c.args.names.now.documents c.args.document.now.name.now) c.document.result c.is_some.result c.is_some.ensures c.if-is_some.false c.document.ensures.found)
    (subst (λ scheme. Fails (ask_level scheme 2 (level_text c.args.document.now.level)) c.level_at_fault.result) c.scheme.ensures.value c.level_at_fault.ensures)
