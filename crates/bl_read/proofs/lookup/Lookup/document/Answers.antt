use Rattle.std.proofs.Common.{ap, ◌∙◌, arith}
use Rattle.bl_work.specs.Meaning.{document_of}
use Rattle.bl_check.proofs.Declared.{is_same}
use Rattle.bl_read.proofs.Lookups.{document_behind}
use Rattle.bl_check.proofs.Passes.{no_access}
use Rattle.bl_read.proofs.lookup.Lookup.document.Goals as goal

pub returns-then-eq-2 : goal.returns-then-eq-2
returns-then-eq-2 c =
    let lookup = c.args.self.now in
    document_behind lookup.names.now lookup.first lookup.more.now lookup.accesses c.as_slice-then-eq-2.result.now c.loop-i.i no_access c.index-as_slice-i.result
    c.as_slice-then-eq-2.ensures lookup.looked_up (omega arith)
    ∙ ap (document_of lookup.names.now) (is_same _ _ c.if-eq-2.ensures)
