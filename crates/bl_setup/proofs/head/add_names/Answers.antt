use Rattle.std.proofs.Common.{arith}
use Rattle.bl_setup.proofs.HeadLemmas.{name_at}
use Rattle.bl_setup.proofs.head.add_names.Goals as goal

pub unwrap-requires : goal.unwrap-requires
unwrap-requires c = c.new.ensures.some.1 (name_at c.args.words.now c.loop-word.word-index _ (omega arith) c.requires)
