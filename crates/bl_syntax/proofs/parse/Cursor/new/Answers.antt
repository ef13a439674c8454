use Rattle.std.proofs.Common.{sym, ap, ◌∙◌}
use Rattle.bl_syntax.specs.Tokens.{tokens_from, end_from}
use Rattle.bl_syntax.proofs.Tokens.{tokens_are, end_is}
use Rattle.bl_syntax.proofs.parse.Cursor.new.Goals as goal

pub returns-clause-left : goal.returns-clause-left
returns-clause-left c = ap tokens_from c.next_token.ensures.front ∙ sym (tokens_are c.args.bytes.now)

pub returns-clause-ending : goal.returns-clause-ending
returns-clause-ending c = ap end_from c.next_token.ensures.front ∙ sym (end_is c.args.bytes.now)
