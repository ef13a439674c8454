use Rattle.std.proofs.Common.{◌≡◌, ◌≤◌, ◌++◌, ℕ, List, sym, ◌∙◌, ap, subst}
use Rattle.bl_work.specs.Names.{AreNames}
use Rattle.bl_setup.specs.Setup.{by_version}
use Rattle.bl_order.specs.Machine.{start}
use Rattle.bl_trail.specs.Follow.{IsVerdict}
use Rattle.bl_trail.specs.TrueText.{FirstWrong, IsLimit, head_lines, joined}
use Rattle.bl_trail.specs.Heads.{IsHead}
use Rattle.bl_trail.specs.Versions.{HasSetup}
use Rattle.bl_replay.specs.Marks.{lost_later}
use Rattle.bl_replay.proofs.Taking.{if-ok}
use Rattle.bl_replay.proofs.replay.replay.Goals as goal

pub follow-verdict-requires : goal.follow-verdict-requires
follow-verdict-requires c = (
  start (by_version c.in-Right.version c.args.setup.now) c.in-Right.limit,
  record {
    keeps = c.in_ok-replayer-in-Right.ensures.keeps;
    found = c.in_ok-marks-in-Right.ensures.0;
    are = c.in_ok-marks-in-Right.ensures.1;
    foretell = λ k. ap (λ m. lost_later m.items k) c.in_ok-replayer-in-Right.ensures.marks ∙ c.in_ok-marks-in-Right.ensures.2 k;
  },
)

pub returns-in-Wrong : goal.returns-in-Wrong
returns-in-Wrong c =
    let wrong : FirstWrong c.args.setup.now c.args.text.now c.in-Wrong.line × (c.in-Wrong.line ≤ 2) = subst (IsHead c.args.setup.now c.args.text.now) c.in-Wrong.is c.in_ok-line.ensures in
    wrong.0

pub returns-in_ok-replayer-in-Right : goal.returns-in_ok-replayer-in-Right
returns-in_ok-replayer-in-Right c =
    let head : HasSetup c.in-Right.version c.args.setup.now × IsLimit c.in-Right.limit
    × (c.args.text.now ≡ joined (head_lines c.in-Right.version c.in-Right.limit) ++ c.in-Right.rest.now) =
    subst (IsHead c.args.setup.now c.args.text.now) c.in-Right.is c.in_ok-line.ensures in
    if-ok c.follow-verdict.result _ _ c.follow-verdict.ensures
    (λ verdict followed. subst (λ (t : List ℕ). IsVerdict c.args.setup.now t verdict) (sym head.2)
    (c.what_was_followed_tells_the_verdict.ensures c.args.setup.now c.in-Right.version c.in-Right.limit head.0 head.1 c.names-names.ensures.agree
    (subst AreNames c.names.ensures.value c.subjects-subjects.ensures.names) c.in-Right.rest.now verdict
    (followed (start (by_version c.in-Right.version c.args.setup.now) c.in-Right.limit) (record {
      keeps = c.in_ok-replayer-in-Right.ensures.keeps;
      found = c.in_ok-marks-in-Right.ensures.0;
      are = c.in_ok-marks-in-Right.ensures.1;
      foretell = λ k. ap (λ m. lost_later m.items k) c.in_ok-replayer-in-Right.ensures.marks ∙ c.in_ok-marks-in-Right.ensures.2 k;
    }))))
