use Rattle.std.proofs.Common.{ap, ◌∙◌}
use Rattle.std.proofs.lemmas.Result.{on_ok_weaker}
use Rattle.bl_work.specs.Content.{added}
use Rattle.bl_grant.specs.Loans.{changed}
use Rattle.bl_eval.proofs.Steps.{tried-kept}
use Rattle.bl_eval.proofs.Runs.{pour-run}
use Rattle.bl_eval.proofs.told.pour.Goals as goal

pub returns-clause-kept : goal.returns-clause-kept
returns-clause-kept c = tried-kept c.add.result (λ content. added content c.bytes.result.now) c.args.to c.args.grants.now c.add.new.self c.add.ensures.ok c.add.ensures.err

pub returns-clause-ran : goal.returns-clause-ran
returns-clause-ran c =
    on_ok_weaker c.add.result
    (λ e told. pour-run c.args.grants.now c.add.new.self told c.args.from c.args.to c.requires.observes c.requires.apart
    (e ∙ ap (λ text. changed (λ content. added content text) c.args.to c.args.grants.now) (c.bytes.ensures.value ∙ c.in_ok-content.ensures ∙ c.content.ensures)))
    c.add.ensures.ok
