use Rattle.std.proofs.Common.{rules, take, ◌≡◌, ◌≤◌, ◌∙◌, ◌∷◌, ◌++◌, [], ℕ, List, map, drop, refl, sym, ap, subst, All}
use Rattle.bl_setup.specs.Setup.{Setup}
use Rattle.bl_setup.specs.Agreement.{Agree}
use Rattle.bl_order.specs.Machine.{start}
use Rattle.bl_gate.specs.Gates.{GateId, PassView, state_seen}
use Rattle.bl_hall.specs.Told.{AreAnswers, reply_of}
use Rattle.bl_order.specs.Known.{KnowsAnswer}
use Rattle.bl_engine.specs.declared.request.Request.TheVariants.{Settles}
use Rattle.bl_serve.proofs.Telling.{GoByLines}
use Rattle.bl_hall.specs.declared.reply.Reply.{Reply}
use Rattle.bl_session.proofs.RunLaws.{setup_after}
use Rattle.bl_serve.specs.Told.{ordinal_of, BeginsAbove, IsBlock}
use Rattle.bl_serve.proofs.Coming.{come_cut, come_quiet, come_settled, course_is, on_err}
use Rattle.bl_serve.proofs.Cutting.{left_is_block, line_stays}
use Rattle.bl_serve.proofs.Going.{kept_session}
use Rattle.bl_serve.proofs.Quiet.{quiet_then}
use Rattle.bl_serve.proofs.visit.Visitor.settle.Goals as goal

-- the session is open in what the pass has seen
pub hear-requires-clause-open : goal.hear-requires-clause-open
hear-requires-clause-open g c =
    let w = c.requires.come in
    let old = c.args.visit.now.pass in
    let quiet = c.run.ensures in
    let course = course_is c.args.self.now.gate.now c.args.self.now.first.value c.args.visit.now w.0 c.in-Some.session c.in-Some.is w.1 w.2 in
    (kept_session old c.run.new.pass quiet.follows (quiet.trail course.trail) c.in-Some.session course.there).there

pub returns-in_err-replies-clause-kept : goal.returns-in_err-replies-clause-kept
returns-in_err-replies-clause-kept g c = on_err c.from_residual.result (λ replies told came.
    come_quiet c.args.self.now.gate.now c.args.self.now.first.value c.args.visit.now replies c.in-Some.session c.in-Some.is told came _
    (quiet_then c.args.visit.now.pass c.run.new.pass c.hear.new.pass c.run.ensures c.hear.ensures.quiet) refl refl refl)

-- what was heard and is not left out is the block
is_block : (gate : GateId) (pass : PassView) (session after upto count : ℕ) (heard : List Reply) → GoByLines → pass.gate ≡ gate → Agree gate.base.setup → AreAnswers (state_seen pass) session after (map reply_of heard)
    → All (λ (r : Reply). ordinal_of r ≤ upto) (take count heard) → All (λ (r : Reply). KnowsAnswer (state_seen pass).setup r.answer) heard → IsBlock gate.base.setup.names after upto (take count heard)
is_block gate pass session after upto count heard by_lines same agree answers low known =
    let setup : (state_seen pass).setup ≡ gate.base.setup = setup_after (start pass.gate.base.setup pass.gate.base.limit) pass.seen ∙ ap (λ (k : GateId). k.base.setup) same in
    subst (λ (k : Setup). IsBlock k.names after upto (take count heard)) setup
    (left_is_block by_lines (state_seen pass) session after upto count heard answers (subst Agree (sym setup) agree) low known)

pub returns-clause-block : goal.returns-clause-block
returns-clause-block g c =
    let gate = c.args.self.now.gate.now in
    let heard = c.in_ok-replies.replies.items in
    let n = c.count_up_to-count.result in
    let own = c.requires.come.2.own in
    let quiet = quiet_then c.args.visit.now.pass c.run.new.pass c.hear.new.pass c.run.ensures c.hear.ensures.quiet in
    let same : c.deref-2.result.now ≡ heard = search rules in
    let cut : c.truncate.new.self.items ≡ take n heard = c.truncate.ensures.items in
    subst (IsBlock gate.base.setup.names c.args.visit.now.upto c.args.ordinal) (sym cut)
    (is_block gate c.hear.new.pass c.in-Some.session c.args.visit.now.upto c.args.ordinal n heard c.replies_go_by_lines.ensures (quiet.follows.gate ∙ own.gate_is) own.agree c.in_ok-replies.ensures.told
    (subst (λ (l : List Reply). All (λ (r : Reply). ordinal_of r ≤ c.args.ordinal) (take n l)) same c.count_up_to-count.ensures.low) c.in_ok-replies.ensures.known)

pub returns-clause-come : goal.returns-clause-come
returns-clause-come g c = λ replies told came.
    let gate = c.args.self.now.gate.now in
    let first = c.args.self.now.first.value in
    let heard = c.in_ok-replies.replies.items in
    let n = c.count_up_to-count.result in
    let upto = c.args.visit.now.upto in
    let quiet = quiet_then c.args.visit.now.pass c.run.new.pass c.hear.new.pass c.run.ensures c.hear.ensures.quiet in
    let same : c.deref-2.result.now ≡ heard = search rules in
    let cut : c.truncate.new.self.items ≡ take n heard = c.truncate.ensures.items in
    let block : IsBlock gate.base.setup.names upto c.args.ordinal (take n heard) =
    is_block gate c.hear.new.pass c.in-Some.session upto c.args.ordinal n heard c.replies_go_by_lines.ensures (quiet.follows.gate ∙ came.own.gate_is) came.own.agree c.in_ok-replies.ensures.told
    (subst (λ (l : List Reply). All (λ (r : Reply). ordinal_of r ≤ c.args.ordinal) (take n l)) same c.count_up_to-count.ensures.low) c.in_ok-replies.ensures.known
    in
    come_cut gate first _ replies (take n heard) c.truncate.new.self.items (told ++ Settles ∷ []) cut
    (come_settled gate first c.args.visit.now replies c.in-Some.session c.in-Some.is told came c.replies_go_by_lines.ensures _ (take n heard) heard c.args.ordinal quiet c.hear.ensures.trail
    c.in_ok-replies.ensures.told
    (λ k low.
    line_stays c.replies_go_by_lines.ensures (state_seen c.hear.new.pass) c.in-Some.session upto c.args.ordinal n heard c.in_ok-replies.ensures.told k low
    (subst (λ (l : List Reply). BeginsAbove c.args.ordinal (drop n l)) same c.count_up_to-count.ensures.next))
    block.are c.requires.last refl refl refl)
