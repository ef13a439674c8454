use Rattle.std.proofs.Common.{◌∷◌, ◌++◌, [], refl, subst, inr}
use Rattle.bl_core.specs.Answers.{IsCause}
use Rattle.bl_gate.specs.Gates.{state_seen}
use Rattle.bl_engine.specs.declared.request.Request.TheVariants as request
use Rattle.bl_serve.proofs.Coming.{come_asked, come_full, come_no_more, come_quiet, not_full, own_here, spoken_for}
use Rattle.bl_serve.proofs.Quiet.{quiet_once}
use Rattle.bl_worker.proofs.Adding.{adds_itself}
use Rattle.bl_serve.proofs.visit.Visitor.ask.Goals as goal

pub returns-in-Ok-clause-come : goal.returns-in-Ok-clause-come
returns-in-Ok-clause-come g c = λ replies told came.
    come_no_more c.args.self.now.gate.now c.args.self.now.first.value _ replies (told ++ request.Admits c.args.ordinal c.args.work ∷ [])
    (come_asked c.args.self.now.gate.now c.args.self.now.first.value c.args.visit.now replies c.in-Some.session c.in-Some.is told came _ c.args.ordinal c.args.work c.requires.last
    c.line.ensures.follows c.line.ensures.trail refl refl _ c.in-Ok.ensures.ok refl)

pub returns-in-Full-clause-come : goal.returns-in-Full-clause-come
returns-in-Full-clause-come g c = λ replies told came.
    come_no_more c.args.self.now.gate.now c.args.self.now.first.value _ replies (told ++ request.Admits c.args.ordinal c.args.work ∷ [])
    (come_full c.args.self.now.gate.now c.args.self.now.first.value c.args.visit.now replies c.in-Some.session c.in-Some.is told came _ c.args.ordinal c.args.work c.requires.last
    c.line.ensures.follows c.line.ensures.trail refl refl c.in-Err.ensures.err.0 (subst (IsCause (state_seen c.line.new.pass) c.in-Some.session c.args.ordinal c.args.work) c.in-Full.is c.in-Err.ensures.err.1) refl)

pub returns-clause-kept : goal.returns-clause-kept
returns-clause-kept g c = λ replies told came.
    come_quiet c.args.self.now.gate.now c.args.self.now.first.value c.args.visit.now replies c.in-Some.session c.in-Some.is told came _
    (quiet_once c.args.visit.now.pass c.line.new.pass c.line.ensures.follows (adds_itself _ c.args.visit.now.pass c.line.new.pass c.in-Err.ensures.err.0) c.line.ensures.trail) refl refl refl

pub returns-clause-why : goal.returns-clause-why
returns-clause-why g c =
    let w = c.requires.come in
    inr (
      refl,
      (
        c.in-Some.session,
        own_here c.args.self.now.gate.now c.args.self.now.first.value c.args.visit.now w.0 c.in-Some.session c.in-Some.is w.1 w.2
            (record { pass = c.line.new.pass; session = c.args.visit.now.session; asked = c.reserve.new.self; last = c.args.visit.now.last; upto = c.args.visit.now.upto })
            c.args.ordinal c.args.work c.requires.last c.line.ensures.follows c.line.ensures.trail refl refl c.in-Err.ensures.err.0,
        spoken_for c.args.self.now.gate.now c.args.self.now.first.value c.args.visit.now w.0 c.in-Some.session c.in-Some.is w.1 w.2
            (record { pass = c.line.new.pass; session = c.args.visit.now.session; asked = c.reserve.new.self; last = c.args.visit.now.last; upto = c.args.visit.now.upto })
            c.args.ordinal c.args.work c.requires.last c.line.ensures.follows c.line.ensures.trail refl refl c.in-Err.ensures.err.0 c.in-Err.refused.cause c.in-Err.ensures.err.1 (not_full c.in-Err.refused.cause c.in-Stranger.is) c.requires.takes,
      ),
    )
