use Rattle.std.proofs.Common.{◌≡◌, length, sym, ◌∙◌, subst, arith, eqb-true, true≢false}
use Rattle.bl_setup.specs.Lines.{file_lines, without_cr}
use Rattle.bl_explain.specs.SetupLines.{SpellsIt}
use Rattle.bl_explain.proofs.Passing.{Passed, passed_on, passed_more, passed_found, passed_all, passed_none, no_lines}
use Rattle.bl_explain.proofs.setup_lines.declared_at.Goals as goal

pub loop-rest-init : goal.loop-rest-init
loop-rest-init c = record { passed = passed_none (SpellsIt c.args.sought.now) (file_lines c.args.bytes.now); counted = omega arith }

pub loop-rest-preserved : goal.loop-rest-preserved
loop-rest-preserved c =
    let P = SpellsIt c.args.sought.now in
    let lines = file_lines c.args.bytes.now in
    let line = c.split_line.result.0.now in
    let behind = c.split_line.result.1.now in
    let on = passed_on P lines c.loop-rest.rest.now behind line c.loop-rest.number c.loop-rest.invariant.passed c.split_line.ensures.lines in
    record {
      passed = passed_more P lines (file_lines behind) (without_cr line) c.loop-rest.number on
          (λ h. true≢false (sym (c.in_ok-found.ensures.1 (subst P (sym c.without_cr.ensures) h)) ∙ c.if-found.false));
      counted = omega (arith, c.loop-rest.invariant.counted, c.split_line.ensures.fewer);
    }

pub returns-then-found : goal.returns-then-found
returns-then-found c =
    let P = SpellsIt c.args.sought.now in
    let lines = file_lines c.args.bytes.now in
    let line = c.split_line.result.0.now in
    let behind = c.split_line.result.1.now in
    let on = passed_on P lines c.loop-rest.rest.now behind line c.loop-rest.number c.loop-rest.invariant.passed c.split_line.ensures.lines in
    passed_found P lines (file_lines behind) (without_cr line) c.loop-rest.number on (subst P c.without_cr.ensures (c.in_ok-found.ensures.0 c.if-found.true))

pub returns : goal.returns
returns c =
    let P = SpellsIt c.args.sought.now in
    let lines = file_lines c.args.bytes.now in
    let empty : length c.loop-rest.rest.now ≡ 0 = eqb-true _ 0 (sym c.is_empty.ensures ∙ c.loop-rest-test.false) in
    passed_all P lines c.loop-rest.number (subst (λ l. Passed P lines l c.loop-rest.number) (no_lines c.loop-rest.rest.now empty) c.loop-rest.invariant.passed)
