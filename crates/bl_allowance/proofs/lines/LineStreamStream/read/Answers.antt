use Rattle.bl_allowance.proofs.Giving.{reads_by}
use Rattle.bl_allowance.proofs.lines.LineStreamStream.read.Goals as goal

pub returns-else-is_none-clause-answer : goal.returns-else-is_none-clause-answer
returns-else-is_none-clause-answer g c =
    let old = c.args.self.now in (
      c.read_lines.ensures.allowance,
      (c.read_lines.new.room, reads_by old.allowance c.is_none.result g.S.Stream.reads old c.read_lines.result c.read_lines.new.room c.read_lines.new.self c.is_none.ensures c.if-is_none.false c.read_lines.ensures.lines),
    )

pub returns-else-is_none-clause-lines : goal.returns-else-is_none-clause-lines
returns-else-is_none-clause-lines g c =
    let old = c.args.self.now in
    reads_by old.allowance c.is_none.result g.S.Stream.reads old c.read_lines.result c.read_lines.new.room c.read_lines.new.self c.is_none.ensures c.if-is_none.false c.read_lines.ensures.lines
