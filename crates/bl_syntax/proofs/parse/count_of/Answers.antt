use Rattle.std.proofs.Common.{length, sym, ap, ◌∙◌, arith}
use Rattle.bl_level.specs.Token.{tok}
use Rattle.bl_syntax.specs.Tokens.{tokens_from}
use Rattle.bl_syntax.proofs.Tokens.{tokens_are, token_first, no_token, few_tokens}
use Rattle.bl_syntax.proofs.parse.count_of.Goals as goal

pub overflow_add-count : goal.overflow_add-count
overflow_add-count c =
    let first = ap length (token_first c.loop-more.rest.now (tok c.in-Token.field-0) c.in-Token.more.now c.in-Token.ensures.front) in
    let few = few_tokens c.args.bytes.now in
    omega arith

pub loop-more-preserved : goal.loop-more-preserved
loop-more-preserved c =
    let first = ap length (token_first c.loop-more.rest.now (tok c.in-Token.field-0) c.in-Token.more.now c.in-Token.ensures.front) in
    omega arith

pub returns : goal.returns
returns c =
    let none = ap length (tokens_are c.loop-more.rest.now ∙ ap tokens_from (sym c.next_token.ensures.front) ∙ no_token c.next_token.result c.in_default.not-Token) in
    let few = few_tokens c.args.bytes.now in
    record { value = omega arith; room = omega arith }
