use Rattle.std.proofs.Common.{◌≡◌, ◌+◌, ◌<◌, length, sym, ap, subst, arith}
use Rattle.std.specs.Prelude.{Option, Some}
use Rattle.bl_state.specs.declared.line.Line.{Line}
use Rattle.bl_state.specs.Texts.{setup_text}
use Rattle.bl_state.proofs.Spelling.{IsThere, fewer-left, first-there, left-over, left_text, lines_left, next-there, none-counted, one-longer}
use Rattle.bl_state.proofs.text.setup_len.Goals as goal

pub lines-init : goal.lines-init
lines-init c = (none-counted (length (setup_text c.args.setup.now)), first-there c.args.setup.now c.requires)

pub line_len-more-requires-clause-there : goal.line_len-more-requires-clause-there
line_len-more-requires-clause-there c = subst (IsThere c.args.setup.now) c.in-Some.is c.lines.invariant.1

pub line_behind-next-requires-clause-there : goal.line_behind-next-requires-clause-there
line_behind-next-requires-clause-there c = subst (IsThere c.args.setup.now) c.in-Some.is c.lines.invariant.1

pub overflow_add-bytes : goal.overflow_add-bytes
overflow_add-bytes c =
    omega (arith, c.lines.invariant.0, c.whole_setups_are_short.ensures c.args.setup.now c.requires, c.line_len-more.ensures)

pub lines-smaller : goal.lines-smaller
lines-smaller c =
    subst (λ (o : Option Line). lines_left c.args.setup.now c.line_behind-next.result < lines_left c.args.setup.now o) (sym c.in-Some.is)
    (fewer-left c.args.setup.now c.in-Some.line c.line_behind-next.result c.line_behind-next.ensures)

pub lines-preserved : goal.lines-preserved
lines-preserved c =
    let setup = c.args.setup.now in
    let next = c.line_behind-next.result in
    let so_far : c.lines.bytes + length (left_text setup (Some c.in-Some.line)) ≡ length (setup_text setup) =
    subst (λ (o : Option Line). c.lines.bytes + length (left_text setup o) ≡ length (setup_text setup)) c.in-Some.is c.lines.invariant.0 in (
      omega (
        arith,
        so_far,
        c.line_len-more.ensures,
        one-longer setup c.in-Some.line next c.line_behind-next.ensures,
        c.whole_setups_are_short.ensures setup c.requires,
      ),
      next-there setup c.in-Some.line next c.line_behind-next.ensures,
    )

pub returns-clause-len : goal.returns-clause-len
returns-clause-len c =
    omega (arith, c.lines.invariant.0, ap length (left-over c.args.setup.now c.lines.next c.in_default.not-Some))

pub returns-clause-within : goal.returns-clause-within
returns-clause-within c = omega (arith, c.lines.invariant.0, c.whole_setups_are_short.ensures c.args.setup.now c.requires)
