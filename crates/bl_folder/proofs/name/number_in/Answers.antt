use Rattle.std.proofs.Common.{rules, ◌≡◌, ◌∙◌, arith, ap, sym, true≢false}
use Rattle.bl_folder.specs.Names.{number_text}
use Rattle.bl_folder.proofs.Numbers.{none-read, one-read}
use Rattle.bl_folder.proofs.name.number_in.Goals as goal

pub returns-in_default : goal.returns-in_default
returns-in_default c run is_run is =
    none-read run c.args.text.now c.parse.result c.in_default.field-0 is_run c.in_default.is c.parse.ensures.value.0 is

pub returns-then-run-eq0 : goal.returns-then-run-eq0
returns-then-run-eq0 c run is_run is =
    omega (arith, one-read run c.in-Ok.run' c.args.text.now c.parse.result is_run c.in-Ok.is c.parse.ensures.value.0 is, c.if-run-eq0.true, is_run.0)

pub returns-then-run-gt-MOST_RUN : goal.returns-then-run-gt-MOST_RUN
returns-then-run-gt-MOST_RUN c run is_run is =
    omega (arith, one-read run c.in-Ok.run' c.args.text.now c.parse.result is_run c.in-Ok.is c.parse.ensures.value.0 is, c.if-run-gt-MOST_RUN.true, is_run.1)

pub returns-then-not-is_number_text : goal.returns-then-not-is_number_text
returns-then-not-is_number_text c run is_run is =
    let bytes : c.as_bytes.result.now ≡ c.args.text.now = search rules in
    let one : c.in-Ok.run' ≡ run = one-read run c.in-Ok.run' c.args.text.now c.parse.result is_run c.in-Ok.is c.parse.ensures.value.0 is in
    true≢false (sym (c.is_number_text.ensures.1 (bytes ∙ is ∙ ap number_text (sym one))) ∙ c.if-not-is_number_text.true)
