use Rattle.std.proofs.Common.{drop, sym, take-append-drop}
use Rattle.bl_file.proofs.answered.add.Goals as goal

pub returns-clause-part : goal.returns-clause-part
returns-clause-part g c = (drop c.in_ok-len.len c.args.text.now, sym (take-append-drop c.in_ok-len.len c.args.text.now))
