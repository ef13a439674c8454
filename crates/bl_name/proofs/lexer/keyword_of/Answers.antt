use Rattle.bl_name.proofs.Words.{reserved_is, free_is}
use Rattle.bl_name.proofs.lexer.keyword_of.Goals as goal

pub returns-clause-reserved : goal.returns-clause-reserved
returns-clause-reserved c = reserved_is c.args.word.now c.reserved.result c.reserved.ensures

pub returns-clause-free : goal.returns-clause-free
returns-clause-free c = free_is c.args.word.now c.reserved.result c.reserved.ensures
