use Rattle.std.proofs.Common.{◌<◌, List, ℕ, [], ◌∷◌, ◌++◌, sym, ◌∙◌, ap, subst}
use Rattle.std.specs.Prelude.{Option, Some, not}
use Rattle.bl_wire.specs.Watch.{EndState, Puts, end_state}
use Rattle.bl_wire.proofs.PutLaws.{puts-all}
use Rattle.bl_state.specs.declared.line.Line.{Line}
use Rattle.bl_state.specs.declared.line.Line.TheVariants as line
use Rattle.bl_state.specs.Texts.{setup_text}
use Rattle.bl_state.proofs.Putting.{HasPut, on-err, put-more, put-none, put-over, put-stopped}
use Rattle.bl_state.proofs.Spelling.{IsThere, fewer-left, first-there, left_text, lines_left, next-there}
use Rattle.bl_state.proofs.put.put_setup.Goals as goal

pub returns-then-failed-clause-puts : goal.returns-then-failed-clause-puts
returns-then-failed-clause-puts g c =
    let at : EndState = end_state g.W.Write.contents c.args.writer.now in
    put-stopped c.args.setup.now at at (Some line.Ranks) (put-none c.args.setup.now at at at) (sym c.failed.ensures ∙ c.if-failed.true)

pub lines-init : goal.lines-init
lines-init g c =
    let at : EndState = end_state g.W.Write.contents c.args.writer.now in
    (put-none c.args.setup.now at at at, first-there c.args.setup.now c.requires, sym c.failed.ensures ∙ c.if-failed.false)

pub write_line-requires-clause-there : goal.write_line-requires-clause-there
write_line-requires-clause-there g c = subst (IsThere c.args.setup.now) c.in-Some.is c.lines.invariant.1

pub line_behind-next-requires-clause-there : goal.line_behind-next-requires-clause-there
line_behind-next-requires-clause-there g c = subst (IsThere c.args.setup.now) c.in-Some.is c.lines.invariant.1

pub lines-smaller : goal.lines-smaller
lines-smaller g c =
    subst (λ (o : Option Line). lines_left c.args.setup.now c.line_behind-next.result < lines_left c.args.setup.now o) (sym c.in-Some.is)
    (fewer-left c.args.setup.now c.in-Some.line c.line_behind-next.result c.line_behind-next.ensures)

pub lines-preserved : goal.lines-preserved
lines-preserved g c =
    let setup = c.args.setup.now in
    let next = c.line_behind-next.result in
    let old : EndState = end_state g.W.Write.contents c.args.writer.now in
    let mid : EndState = end_state g.W.Write.contents c.lines.writer in
    let new : EndState = end_state g.W.Write.contents c.put_with_lf.new.writer in
    let so_far : HasPut setup (Some c.in-Some.line) old mid = subst (λ (o : Option Line). HasPut setup o old mid) c.in-Some.is c.lines.invariant.0 in (
      put-more setup old mid new c.in-Some.line next c.line_behind-next.ensures so_far
          (subst (λ (t : List ℕ). Puts (t ++ 10 ∷ []) mid new) (c.bytes.ensures ∙ c.in_ok-write_line.ensures) c.put_with_lf.ensures.puts),
      next-there setup c.in-Some.line next c.line_behind-next.ensures,
      c.put_with_lf.ensures.failed ∙ ap not c.if-not-put_with_lf.false,
    )

-- after the line at which the writer failed nothing is put
pub returns-then-not-put_with_lf-clause-puts : goal.returns-then-not-put_with_lf-clause-puts
returns-then-not-put_with_lf-clause-puts g c =
    let setup = c.args.setup.now in
    let next = c.line_behind-next.result in
    let old : EndState = end_state g.W.Write.contents c.args.writer.now in
    let mid : EndState = end_state g.W.Write.contents c.lines.writer in
    let new : EndState = end_state g.W.Write.contents c.put_with_lf.new.writer in
    let so_far : HasPut setup (Some c.in-Some.line) old mid = subst (λ (o : Option Line). HasPut setup o old mid) c.in-Some.is c.lines.invariant.0 in
    put-stopped setup old new next
    (put-more setup old mid new c.in-Some.line next c.line_behind-next.ensures so_far
    (subst (λ (t : List ℕ). Puts (t ++ 10 ∷ []) mid new) (c.bytes.ensures ∙ c.in_ok-write_line.ensures) c.put_with_lf.ensures.puts))
    (c.put_with_lf.ensures.failed ∙ ap not c.if-not-put_with_lf.true)

pub returns-in_err-write_line-clause-front : goal.returns-in_err-write_line-clause-front
returns-in_err-write_line-clause-front g c =
    let so_far = c.lines.invariant.0 in
    on-err c.from_residual.result _ (so_far.done, left_text c.args.setup.now c.lines.next, sym so_far.all, so_far.puts)

pub returns-clause-puts : goal.returns-clause-puts
returns-clause-puts g c =
    put-over c.args.setup.now (end_state g.W.Write.contents c.args.writer.now) (end_state g.W.Write.contents c.lines.writer) c.lines.next
    c.in_default.not-Some c.lines.invariant.0

pub returns-clause-all : goal.returns-clause-all
returns-clause-all g c = λ yes.
    puts-all (setup_text c.args.setup.now) (end_state g.W.Write.contents c.args.writer.now) (end_state g.W.Write.contents c.lines.writer)
    (put-over c.args.setup.now (end_state g.W.Write.contents c.args.writer.now) (end_state g.W.Write.contents c.lines.writer) c.lines.next
    c.in_default.not-Some c.lines.invariant.0) c.lines.invariant.2
