use Rattle.std.proofs.Common.{length}
use Rattle.bl_name.proofs.Lexes.{sound}
use Rattle.bl_name.proofs.lexer.next_token.Goals as goal

pub returns-clause-sound : goal.returns-clause-sound
returns-clause-sound c = sound c.front_of.result c.past_blanks.result.now (length c.args.bytes.now) c.past_blanks.ensures.within c.front_of.ensures
