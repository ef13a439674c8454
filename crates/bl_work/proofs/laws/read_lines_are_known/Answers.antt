use Rattle.bl_work.proofs.KnownLines.{line_known}
use Rattle.bl_work.proofs.laws.read_lines_are_known.Goals as goal

pub returns : goal.returns
returns c = line_known
