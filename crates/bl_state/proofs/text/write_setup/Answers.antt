use Rattle.std.proofs.Common.{◌≡◌, ◌<◌, List, ℕ, [], ◌∷◌, ◌++◌, sym, ◌∙◌, ap, subst, append-nil}
use Rattle.std.specs.Prelude.{Option, Some}
use Rattle.bl_state.specs.declared.line.Line.{Line}
use Rattle.bl_state.specs.Texts.{setup_text}
use Rattle.bl_state.proofs.Spelling.{IsThere, fewer-left, first-there, left-over, left_text, lines_left, next-there, one-more}
use Rattle.bl_state.proofs.text.write_setup.Goals as goal

pub lines-init : goal.lines-init
lines-init c =
    (ap (λ (l : List ℕ). l ++ setup_text c.args.setup.now) c.in_ok-bytes.ensures.items, first-there c.args.setup.now c.requires)

pub write_line-requires-clause-there : goal.write_line-requires-clause-there
write_line-requires-clause-there c = subst (IsThere c.args.setup.now) c.in-Some.is c.lines.invariant.1

pub line_behind-next-requires-clause-there : goal.line_behind-next-requires-clause-there
line_behind-next-requires-clause-there c = subst (IsThere c.args.setup.now) c.in-Some.is c.lines.invariant.1

pub lines-smaller : goal.lines-smaller
lines-smaller c =
    subst (λ (o : Option Line). lines_left c.args.setup.now c.line_behind-next.result < lines_left c.args.setup.now o) (sym c.in-Some.is)
    (fewer-left c.args.setup.now c.in-Some.line c.line_behind-next.result c.line_behind-next.ensures)

pub lines-preserved : goal.lines-preserved
lines-preserved c =
    let setup = c.args.setup.now in
    let next = c.line_behind-next.result in
    let so_far : c.lines.bytes.items ++ left_text setup (Some c.in-Some.line) ≡ setup_text setup =
    subst (λ (o : Option Line). c.lines.bytes.items ++ left_text setup o ≡ setup_text setup) c.in-Some.is c.lines.invariant.0 in (
      one-more setup c.in-Some.line next c.lines.bytes.items c.add_line.new.bytes.items (setup_text setup) c.line_behind-next.ensures
          (c.in_ok-add_line.ensures ∙ ap (λ (t : List ℕ). c.lines.bytes.items ++ (t ++ 10 ∷ [])) (c.bytes.ensures ∙ c.in_ok-write_line.ensures))
          so_far,
      next-there setup c.in-Some.line next c.line_behind-next.ensures,
    )

pub returns : goal.returns
returns c =
    sym (append-nil c.lines.bytes.items)
    ∙ ap (λ (t : List ℕ). c.lines.bytes.items ++ t) (sym (left-over c.args.setup.now c.lines.next c.in_default.not-Some))
    ∙ c.lines.invariant.0
