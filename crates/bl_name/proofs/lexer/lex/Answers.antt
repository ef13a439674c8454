use Rattle.std.proofs.Common.{◌≡◌, ℕ, ◌≤◌, ◌+◌, ◌-◌, length, List, Some, None, arith, refl, sym, ap, ◌∙◌}
use Rattle.bl_name.specs.Lexing.{front, nothing, broken}
use Rattle.bl_name.specs.Token.{tok}
use Rattle.bl_name.proofs.Fronts.{front_shorter, broken_within}
use Rattle.bl_name.proofs.Lexes.{joins_end, joins_more, toks_push, cut_proper, cut_whole}
use Rattle.bl_name.proofs.lexer.lex.Goals as goal

pub returns-in-Nothing : goal.returns-in-Nothing
returns-in-Nothing c =
    let cut = joins_end (length c.args.bytes.now) _ c.loop-tokens.rest.now _ _ None nothing c.loop-tokens.invariant.joins (c.in-Nothing.ensures ∙ ap front c.past_blanks-rest.ensures.value) refl in
    record { cut = cut; proper = cut_proper _ _ _ _ _ cut; whole = cut_whole _ _ _ _ _ cut }

pub returns-in-Broken : goal.returns-in-Broken
returns-in-Broken c =
    let from = c.in-Broken.from.now in
    let total = length c.args.bytes.now in
    let within : length from ≤ total = omega (arith, broken_within c.past_blanks-rest.result.now from (sym c.in-Broken.ensures)) in
    let fits : total - length from + length from ≡ total = omega arith in
    let cut =
    joins_end total _ c.loop-tokens.rest.now _ _ (Some (total - length from)) (broken from) c.loop-tokens.invariant.joins (c.in-Broken.ensures ∙ ap front c.past_blanks-rest.ensures.value)
    (_, refl, fits)
    in
    record { cut = cut; proper = cut_proper _ _ _ _ _ cut; whole = cut_whole _ _ _ _ _ cut }

pub loop-tokens-smaller : goal.loop-tokens-smaller
loop-tokens-smaller c = omega (arith, front_shorter c.past_blanks-rest.result.now (tok c.in-Token.token) c.in-Token.more.now (sym c.in-Token.ensures))

pub loop-tokens-preserved : goal.loop-tokens-preserved
loop-tokens-preserved c =
    let total = length c.args.bytes.now in
    let shorter = front_shorter c.past_blanks-rest.result.now (tok c.in-Token.token) c.in-Token.more.now (sym c.in-Token.ensures) in
    let at : total - length c.past_blanks-rest.result.now + length c.past_blanks-rest.result.now ≡ total = omega arith in
    record {
      joins = rw (c.in_ok-push-in-Token-2.ensures.items, c.in_ok-push-in-Token.ensures.items, toks_push c.loop-tokens.tokens.items c.in-Token.token)
          (joins_more total _ c.loop-tokens.rest.now _ _ (tok c.in-Token.token) c.in-Token.more.now _ c.loop-tokens.invariant.joins
          (c.in-Token.ensures ∙ ap front c.past_blanks-rest.ensures.value) (ap (λ (x : List ℕ). total - length c.past_blanks-rest.result.now + length x) (sym c.past_blanks-rest.ensures.value) ∙ at));
      within = omega (arith, shorter);
    }
