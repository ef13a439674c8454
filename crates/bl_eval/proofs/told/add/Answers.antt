use Rattle.std.proofs.Common.{ap, ◌∙◌}
use Rattle.std.proofs.lemmas.Result.{on_ok_weaker}
use Rattle.bl_work.specs.Content.{added}
use Rattle.bl_grant.specs.Loans.{changed}
use Rattle.bl_eval.proofs.Steps.{tried-kept}
use Rattle.bl_eval.proofs.Runs.{add-run}
use Rattle.bl_eval.proofs.told.add.Goals as goal

pub returns-clause-kept : goal.returns-clause-kept
returns-clause-kept c = tried-kept c.add.result (λ content. added content c.bytes.result.now) c.args.doc c.args.grants.now c.add.new.self c.add.ensures.ok c.add.ensures.err

pub returns-clause-ran : goal.returns-clause-ran
returns-clause-ran c =
    on_ok_weaker c.add.result
    (λ e told. add-run c.args.grants.now c.add.new.self told c.args.doc c.args.text.now c.requires.apart
    (e ∙ ap (λ text. changed (λ content. added content text) c.args.doc c.args.grants.now) c.bytes.ensures.value))
    c.add.ensures.ok
