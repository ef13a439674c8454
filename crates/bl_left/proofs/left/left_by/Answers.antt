use Rattle.std.proofs.Common.{◌≡◌, ◌≤◌, ◌++◌, ◌∙◌, ap, subst}
use Rattle.std.proofs.lemmas.Result.{IfOk-weaker}
use Rattle.bl_work.specs.Names.{AreNames}
use Rattle.bl_setup.specs.Setup.{by_version}
use Rattle.bl_order.specs.Machine.{start}
use Rattle.bl_trail.specs.TrueText.{FirstWrong, IsLimit, head_lines, joined}
use Rattle.bl_trail.specs.Heads.{IsHead}
use Rattle.bl_trail.specs.Versions.{HasSetup}
use Rattle.bl_replay.specs.Marks.{lost_later}
use Rattle.bl_left.proofs.Leaving.{left-of, verdict-of, whole-of}
use Rattle.bl_left.proofs.left.left_by.Goals as goal

pub remains_of-left-requires : goal.remains_of-left-requires
remains_of-left-requires c = (
  start (by_version c.in-Right.version c.args.setup.now) c.in-Right.limit,
  record {
    keeps = c.in_ok-replayer-in-Right.ensures.keeps;
    found = c.in_ok-marks-in-Right.ensures.0;
    are = c.in_ok-marks-in-Right.ensures.1;
    foretell = λ k. ap (λ m. lost_later m.items k) c.in_ok-replayer-in-Right.ensures.marks ∙ c.in_ok-marks-in-Right.ensures.2 k;
  },
)

pub returns-in-Wrong-clause-verdict : goal.returns-in-Wrong-clause-verdict
returns-in-Wrong-clause-verdict c =
    let wrong : FirstWrong c.args.setup.now c.args.text.now c.in-Wrong.line × (c.in-Wrong.line ≤ 2) =
    subst (IsHead c.args.setup.now c.args.text.now) c.in-Wrong.is c.in_ok-line.ensures in
    wrong.0

pub returns-in_ok-replayer-in-Right-clause-verdict : goal.returns-in_ok-replayer-in-Right-clause-verdict
returns-in_ok-replayer-in-Right-clause-verdict c =
    let setup = c.args.setup.now in
    let head : HasSetup c.in-Right.version setup × IsLimit c.in-Right.limit
    × (c.args.text.now ≡ joined (head_lines c.in-Right.version c.in-Right.limit) ++ c.in-Right.rest.now) =
    subst (IsHead setup c.args.text.now) c.in-Right.is c.in_ok-line.ensures in
    IfOk-weaker c.remains_of-left.result _ _
    (λ left leaves. verdict-of setup c.in-Right.version c.in-Right.limit head.0 head.1 c.args.text.now c.in-Right.rest.now head.2
    (c.what_was_followed_tells_the_verdict.ensures setup c.in-Right.version c.in-Right.limit head.0 head.1 c.names-names.ensures.agree
    (subst AreNames c.names.ensures.value c.subjects-subjects.ensures.names) c.in-Right.rest.now)
    left.verdict left.setup (leaves (start (by_version c.in-Right.version setup) c.in-Right.limit) (record {
      keeps = c.in_ok-replayer-in-Right.ensures.keeps;
      found = c.in_ok-marks-in-Right.ensures.0;
      are = c.in_ok-marks-in-Right.ensures.1;
      foretell = λ k. ap (λ m. lost_later m.items k) c.in_ok-replayer-in-Right.ensures.marks ∙ c.in_ok-marks-in-Right.ensures.2 k;
    })))
    c.remains_of-left.ensures

pub returns-in_ok-replayer-in-Right-clause-setup : goal.returns-in_ok-replayer-in-Right-clause-setup
returns-in_ok-replayer-in-Right-clause-setup c =
    let setup = c.args.setup.now in
    let head : HasSetup c.in-Right.version setup × IsLimit c.in-Right.limit
    × (c.args.text.now ≡ joined (head_lines c.in-Right.version c.in-Right.limit) ++ c.in-Right.rest.now) =
    subst (IsHead setup c.args.text.now) c.in-Right.is c.in_ok-line.ensures in
    IfOk-weaker c.remains_of-left.result _ _
    (λ left leaves. left-of setup c.in-Right.version c.in-Right.limit head.0 head.1 c.args.text.now c.in-Right.rest.now head.2
    left.verdict left.setup (leaves (start (by_version c.in-Right.version setup) c.in-Right.limit) (record {
      keeps = c.in_ok-replayer-in-Right.ensures.keeps;
      found = c.in_ok-marks-in-Right.ensures.0;
      are = c.in_ok-marks-in-Right.ensures.1;
      foretell = λ k. ap (λ m. lost_later m.items k) c.in_ok-replayer-in-Right.ensures.marks ∙ c.in_ok-marks-in-Right.ensures.2 k;
    })))
    c.remains_of-left.ensures

pub returns-in_ok-replayer-in-Right-clause-whole : goal.returns-in_ok-replayer-in-Right-clause-whole
returns-in_ok-replayer-in-Right-clause-whole c whole =
    let setup = c.args.setup.now in
    let head : HasSetup c.in-Right.version setup × IsLimit c.in-Right.limit
    × (c.args.text.now ≡ joined (head_lines c.in-Right.version c.in-Right.limit) ++ c.in-Right.rest.now) =
    subst (IsHead setup c.args.text.now) c.in-Right.is c.in_ok-line.ensures in
    IfOk-weaker c.remains_of-left.result _ _
    (λ left leaves. whole-of setup c.in-Right.version c.in-Right.limit head.0 head.1 c.args.text.now c.in-Right.rest.now head.2
    c.states_stay_whole.ensures.as_two whole left.verdict left.setup (leaves (start (by_version c.in-Right.version setup) c.in-Right.limit) (record {
      keeps = c.in_ok-replayer-in-Right.ensures.keeps;
      found = c.in_ok-marks-in-Right.ensures.0;
      are = c.in_ok-marks-in-Right.ensures.1;
      foretell = λ k. ap (λ m. lost_later m.items k) c.in_ok-replayer-in-Right.ensures.marks ∙ c.in_ok-marks-in-Right.ensures.2 k;
    })))
    c.remains_of-left.ensures
