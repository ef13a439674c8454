use Rattle.std.proofs.Common.{◌≡◌, ◌+◌, ◌-◌, ◌≤◌, ◌∙◌, sym, ap, arith, true, length, take, drop, length-drop}
use Rattle.std.proofs.lemmas.List.{take_rest, drop-drop}
use Rattle.std.specs.List.{list_all}
use Rattle.bl_name.specs.declared.lexer.Class.TheVariants as class
use Rattle.bl_name.specs.Lexing.{is_in, run_len}
use Rattle.bl_name.proofs.Runs.{run_of_all}
use Rattle.bl_name.proofs.lexer.text_run_len.Goals as goal

pub loop-end-preserved : goal.loop-end-preserved
loop-end-preserved c =
    let i = c.loop-end.end in
    let bytes = c.args.bytes.now in
    let sixteen : (i + 16) - i ≡ 16 = omega arith in
    let within : 16 ≤ length (drop i bytes) = omega (arith, length-drop i bytes, c.loop-end.invariant.1, c.loop-end-test.true) in
    let all : list_all (is_in class.Text) (take 16 (drop i bytes)) ≡ true = ap (λ k. list_all (is_in class.Text) (take k (drop i bytes))) (sym sixteen) ∙ sym c.are_text.ensures ∙ c.if-are_text.true in
    let step = run_of_all class.Text 16 (drop i bytes) within all in
    let behind : drop 16 (drop i bytes) ≡ drop (i + 16) bytes = drop-drop 16 i bytes in
    (omega (arith, step, ap (run_len class.Text) behind, c.loop-end.invariant.0), omega (arith, length-drop i bytes, within, c.loop-end.invariant.1))

pub returns-clause-value : goal.returns-clause-value
returns-clause-value c =
    let rest : run_len class.Text (take (length c.args.bytes.now - c.loop-end.end) (drop c.loop-end.end c.args.bytes.now)) ≡ run_len class.Text (drop c.loop-end.end c.args.bytes.now) = ap (run_len class.Text) (take_rest c.args.bytes.now c.loop-end.end) in
    omega (arith, c.run_len.ensures.value, rest, c.loop-end.invariant.0)
