use Rattle.bl_name.proofs.Same.{told}
use Rattle.bl_name.proofs.lexer.are.Goals as goal

pub returns : goal.returns
returns c = told c.are_same.result c.args.these.now c.args.bytes.now c.are_same.ensures
