use Rattle.std.proofs.Common.{None, ap, refl, sym, subst}
use Rattle.bl_work.specs.Readable.{IsReadable}
use Rattle.bl_setup.specs.Setup.{Setup}
use Rattle.bl_gate.specs.Gates.{PassView}
use Rattle.bl_crowd.specs.Steps.{IsClash}
use Rattle.bl_crowd.proofs.Fitting.{fits_entered, fits_itself}
use Rattle.bl_crowd.proofs.Meeting.{admits_open, readable, setup_is, way_clash, way_entered}
use Rattle.bl_crowd.proofs.Opening.{own_entered, own_itself}
use Rattle.bl_crowd.proofs.Streaming.{way_tally}
use Rattle.bl_crowd.proofs.member.Member.admit.Goals as goal

pub unreachable-requires : goal.unreachable-requires
unreachable-requires g c =
    let way = c.requires.way in
    let opens = admits_open g.S.Stream.remaining g.S.Stream.contents way.0 way.1 c.args.turn.now c.args.self.now c.args.ordinal c.args.work way.3 c.args.self.now.reception refl in
    c.in_default.not-Open opens.0 opens.1

pub enter-requires : goal.enter-requires
enter-requires g c =
    let way = c.requires.way in
    let p = c.args.turn.now in
    subst (λ (s : Setup). IsReadable s.names c.args.work) (sym (setup_is p))
    (readable g.S.Stream.remaining g.S.Stream.contents way.0 way.1 p c.args.self.now c.args.ordinal c.args.work way.3 way.2)

pub returns-in-Err-clause-own : goal.returns-in-Err-clause-own
returns-in-Err-clause-own g c =
    own_itself c.args.self.now.reception c.args.self.now.reception c.args.turn.now c.enter.new.turn (ap (λ (p : PassView). p.own) c.in-Err.ensures.err.0)

pub returns-in-Err-clause-clash : goal.returns-in-Err-clause-clash
returns-in-Err-clause-clash g c names first home w =
    let refused = c.in-Err.ensures.err in
    let why = refused.2 in
    subst (λ (p : PassView). IsClash first p c.args.self.now.reception) (sym refused.0)
    (subst (IsClash first c.args.turn.now) (sym c.in-Open.is)
    (way_clash g.S.Stream.remaining g.S.Stream.contents names first c.args.turn.now c.args.self.now c.args.ordinal c.args.work w c.in-Open.session c.in-Open.is why.0 home why.2 why.1))

pub returns-clause-own : goal.returns-clause-own
returns-clause-own g c =
    own_entered c.args.turn.now c.enter.new.turn c.in-Open.session c.args.ordinal c.args.work c.args.self.now.reception c.args.self.now.reception c.in-Open.is c.in-Ok.ensures.ok

pub returns-clause-ok : goal.returns-clause-ok
returns-clause-ok g c names first home speaks w =
    let R = g.S.Stream.remaining in
    let W = g.S.Stream.contents in
    let self = c.args.self.now in
    let entered = way_entered R W names first c.args.turn.now self c.args.ordinal c.args.work w c.in-Open.session c.in-Open.is c.enter.new.turn c.enter.ensures.goes c.in-Ok.ensures.ok speaks in
    (way_tally R W names first c.enter.new.turn (record self { last = c.args.ordinal }) c.note.new.self None entered.0, entered.1)

pub returns-clause-fits : goal.returns-clause-fits
returns-clause-fits g c bound fit =
    fits_entered bound c.args.turn.now c.enter.new.turn c.in-Open.session c.args.ordinal c.args.work c.enter.ensures.goes.follows c.enter.ensures.alone c.in-Ok.ensures.ok fit

pub returns-in-Err-clause-fits : goal.returns-in-Err-clause-fits
returns-in-Err-clause-fits g c bound fit = fits_itself bound c.args.turn.now c.enter.new.turn (ap (λ (p : PassView). p.own) c.in-Err.ensures.err.0)
