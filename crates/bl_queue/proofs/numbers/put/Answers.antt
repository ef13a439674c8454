use Rattle.bl_queue.proofs.Words.{marked}
use Rattle.bl_queue.proofs.numbers.put.Goals as goal

pub returns : goal.returns
returns c = marked c.args.words.now c.args.n c.requires
