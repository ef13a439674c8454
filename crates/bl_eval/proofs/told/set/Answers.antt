use Rattle.std.proofs.Common.{ap, ◌∙◌}
use Rattle.std.specs.Prelude.{map}
use Rattle.bl_grant.specs.Loaned.{as_lent}
use Rattle.bl_grant.specs.Loans.{changed}
use Rattle.bl_eval.proofs.Steps.{changed-kept}
use Rattle.bl_eval.proofs.Runs.{set-run}
use Rattle.bl_eval.proofs.told.set.Goals as goal

pub returns-clause-kept : goal.returns-clause-kept
returns-clause-kept c = ap (map as_lent) c.put.ensures ∙ changed-kept (λ _. c.in_ok-content.content) c.args.doc c.args.grants.now

pub returns-clause-ran : goal.returns-clause-ran
returns-clause-ran c told =
    set-run c.args.grants.now c.put.new.self told c.args.doc c.args.text.now c.requires.apart
    (c.put.ensures ∙ ap (λ text. changed (λ _. text) c.args.doc c.args.grants.now) c.in_ok-content.ensures)
