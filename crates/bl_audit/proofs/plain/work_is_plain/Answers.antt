use Rattle.std.proofs.Common.{◌≢◌}
use Rattle.std.proofs.lemmas.List.Elements.{recursion_from_All}
use Rattle.bl_work.specs.declared.asked.Line.TheVariants as asked
use Rattle.bl_write.specs.CanonicalLine.{canonical_line}
use Rattle.bl_audit.proofs.plain.work_is_plain.Goals as goal

pub returns : goal.returns
returns c =
    let names = c.args.names.now in
    let line = asked.Work c.args.work.now in
    recursion_from_All (λ b. b ≢ 10) (canonical_line names line)
    (c.lines_have_no_lf.ensures names (canonical_line names line) line (c.canonical_works_read_again.ensures names c.args.work.now c.scheme-scheme.ensures.names c.requires))
