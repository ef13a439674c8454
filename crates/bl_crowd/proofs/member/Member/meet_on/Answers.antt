use Rattle.std.proofs.Common.{rules, ◌≡◌, ◌≢◌, ◌∙◌, arith, inl, refl, sym, Ok, true}
use Rattle.bl_gate.specs.Gates.{state_seen}
use Rattle.bl_gate.proofs.Following.{follows_itself}
use Rattle.bl_crowd.specs.declared.member.Met.TheVariants as mets
use Rattle.bl_crowd.proofs.Crowding.{met_by}
use Rattle.bl_crowd.proofs.Fitting.{fits_itself, fits_more, full_asks, met_as}
use Rattle.bl_crowd.proofs.Passing.{home_on}
use Rattle.bl_crowd.proofs.Rounding.{cause, gone_hears, gone_itself, gone_meets, heard_all, heard_unmet, met_by_line, met_since, one_nearer}
use Rattle.bl_crowd.proofs.member.Member.meet_on.Goals as goal

pub loop-heard-init : goal.loop-heard-init
loop-heard-init g c = record {
  gone = gone_itself g.S.Stream.remaining g.S.Stream.contents c.args.turn.now c.args.self.now c.requires.trail;
  fault = refl;
  nearer = omega arith;
  fits = λ known. (fits_itself (g.Q.Asks.bound c.args.quota.now) c.args.turn.now c.args.turn.now refl, known);
  bound = refl;
}

pub meet-requires-clause-trail : goal.meet-requires-clause-trail
meet-requires-clause-trail g c = c.loop-heard.invariant.gone.goes.trail

pub meet-requires-clause-way : goal.meet-requires-clause-way
meet-requires-clause-way g c =
    let w = c.requires.way in
    let gone = c.loop-heard.invariant.gone in
    (w.0, w.1, home_on w.0 c.args.turn.now c.loop-heard.turn gone.goes.follows w.2, (gone.way w.0 w.1 w.2 w.3 w.4).0)

pub meet-requires-2-clause-trail : goal.meet-requires-2-clause-trail
meet-requires-2-clause-trail g c = c.loop-heard.invariant.gone.goes.trail

pub meet-requires-2-clause-way : goal.meet-requires-2-clause-way
meet-requires-2-clause-way g c =
    let w = c.requires.way in
    let gone = c.loop-heard.invariant.gone in
    (w.0, w.1, home_on w.0 c.args.turn.now c.loop-heard.turn gone.goes.follows w.2, (gone.way w.0 w.1 w.2 w.3 w.4).0)

pub hear_more-requires-clause-way : goal.hear_more-requires-clause-way
hear_more-requires-clause-way g c =
    let w = c.requires.way in
    let gone = c.loop-heard.invariant.gone in
    let there = gone.way w.0 w.1 w.2 w.3 w.4 in
    (w.0, w.1, c.meet.new.turn, (c.meet.ensures.way w.0 w.1 (home_on w.0 c.args.turn.now c.loop-heard.turn gone.goes.follows w.2) there.1 there.0).0)

pub returns-then-ne-clause-way : goal.returns-then-ne-clause-way
returns-then-ne-clause-way g c =
    let R = g.S.Stream.remaining in
    let W = g.S.Stream.contents in
    let was = c.args.self.now in
    let mid = c.loop-heard.self in
    let now = c.meet.new.self in
    let before = c.args.turn.now in
    let p = c.loop-heard.turn in
    let q = c.meet.new.turn in
    let i = c.loop-heard.invariant in
    let m = c.meet.ensures in
    let met = gone_meets R W before p was mid now i.gone q m.goes m.way m.own m.hand m.new m.stays in
    met.way

pub returns-then-ne-clause-goes : goal.returns-then-ne-clause-goes
returns-then-ne-clause-goes g c =
    let R = g.S.Stream.remaining in
    let W = g.S.Stream.contents in
    let was = c.args.self.now in
    let mid = c.loop-heard.self in
    let now = c.meet.new.self in
    let before = c.args.turn.now in
    let p = c.loop-heard.turn in
    let q = c.meet.new.turn in
    let i = c.loop-heard.invariant in
    let m = c.meet.ensures in
    let met = gone_meets R W before p was mid now i.gone q m.goes m.way m.own m.hand m.new m.stays in
    met.goes

pub returns-then-ne-clause-own : goal.returns-then-ne-clause-own
returns-then-ne-clause-own g c =
    let R = g.S.Stream.remaining in
    let W = g.S.Stream.contents in
    let was = c.args.self.now in
    let mid = c.loop-heard.self in
    let now = c.meet.new.self in
    let before = c.args.turn.now in
    let p = c.loop-heard.turn in
    let q = c.meet.new.turn in
    let i = c.loop-heard.invariant in
    let m = c.meet.ensures in
    let met = gone_meets R W before p was mid now i.gone q m.goes m.way m.own m.hand m.new m.stays in
    met.own

pub returns-then-ne-clause-hand : goal.returns-then-ne-clause-hand
returns-then-ne-clause-hand g c =
    let R = g.S.Stream.remaining in
    let W = g.S.Stream.contents in
    let was = c.args.self.now in
    let mid = c.loop-heard.self in
    let now = c.meet.new.self in
    let before = c.args.turn.now in
    let p = c.loop-heard.turn in
    let q = c.meet.new.turn in
    let i = c.loop-heard.invariant in
    let m = c.meet.ensures in
    let met = gone_meets R W before p was mid now i.gone q m.goes m.way m.own m.hand m.new m.stays in
    met.hand

pub returns-then-ne-clause-new : goal.returns-then-ne-clause-new
returns-then-ne-clause-new g c =
    let R = g.S.Stream.remaining in
    let W = g.S.Stream.contents in
    let was = c.args.self.now in
    let mid = c.loop-heard.self in
    let now = c.meet.new.self in
    let before = c.args.turn.now in
    let p = c.loop-heard.turn in
    let q = c.meet.new.turn in
    let i = c.loop-heard.invariant in
    let m = c.meet.ensures in
    let met = gone_meets R W before p was mid now i.gone q m.goes m.way m.own m.hand m.new m.stays in
    met.new

pub returns-then-ne-clause-stays : goal.returns-then-ne-clause-stays
returns-then-ne-clause-stays g c =
    let R = g.S.Stream.remaining in
    let W = g.S.Stream.contents in
    let was = c.args.self.now in
    let mid = c.loop-heard.self in
    let now = c.meet.new.self in
    let before = c.args.turn.now in
    let p = c.loop-heard.turn in
    let q = c.meet.new.turn in
    let i = c.loop-heard.invariant in
    let m = c.meet.ensures in
    let met = gone_meets R W before p was mid now i.gone q m.goes m.way m.own m.hand m.new m.stays in
    met.stays

pub returns-then-ne-clause-met : goal.returns-then-ne-clause-met
returns-then-ne-clause-met g c names first home speaks here =
    let R = g.S.Stream.remaining in
    let W = g.S.Stream.contents in
    let was = c.args.self.now in
    let mid = c.loop-heard.self in
    let now = c.meet.new.self in
    let before = c.args.turn.now in
    let p = c.loop-heard.turn in
    let q = c.meet.new.turn in
    let i = c.loop-heard.invariant in
    let m = c.meet.ensures in
    let met = gone_meets R W before p was mid now i.gone q m.goes m.way m.own m.hand m.new m.stays in
    let K = g.Q.Asks.was c.args.quota.now (state_seen before) in
    let b = g.Q.Asks.bound c.args.quota.now in
    let L = g.Q.Asks.was c.loop-heard.quota (state_seen p) in
    let known : K → L = λ k. (i.fits k).1 in
    inl (met_since K b first before p was mid now q i.gone.goes.follows i.fault
    (met_as K L b (g.Q.Asks.bound c.loop-heard.quota) known i.bound first p q mid now
    (met_by L (g.Q.Asks.bound c.loop-heard.quota) first p p q mid now c.meet.result (follows_itself p) m.goes.follows m.done m.waits m.full m.failed
    (λ fault fine failed. cause (m.fault fault fine failed) (λ clash. clash names first (home_on names before p i.gone.goes.follows home) (i.gone.way names first home speaks here).0)) m.kept)))

pub returns-then-ne-clause-heard : goal.returns-then-ne-clause-heard
returns-then-ne-clause-heard g c =
    let R = g.S.Stream.remaining in
    let W = g.S.Stream.contents in
    let was = c.args.self.now in
    let mid = c.loop-heard.self in
    let now = c.meet.new.self in
    let before = c.args.turn.now in
    let p = c.loop-heard.turn in
    let q = c.meet.new.turn in
    let i = c.loop-heard.invariant in
    let m = c.meet.ensures in
    let met = gone_meets R W before p was mid now i.gone q m.goes m.way m.own m.hand m.new m.stays in
    let other : c.meet.result ≢ mets.Done = search rules in
    let L = g.Q.Asks.was c.loop-heard.quota (state_seen p) in
    heard_unmet c.args.most was mid now c.meet.result other (λ is. (m.waits is).0) m.asks
    (λ is. full_asks L (g.Q.Asks.bound c.loop-heard.quota) (state_seen p) mid now (m.full is).0 (m.full is).2) m.failed

pub returns-in-Ok-false-clause-way : goal.returns-in-Ok-false-clause-way
returns-in-Ok-false-clause-way g c =
    let R = g.S.Stream.remaining in
    let W = g.S.Stream.contents in
    let was = c.args.self.now in
    let mid = c.loop-heard.self in
    let now = c.meet.new.self in
    let before = c.args.turn.now in
    let p = c.loop-heard.turn in
    let q = c.meet.new.turn in
    let i = c.loop-heard.invariant in
    let m = c.meet.ensures in
    let met = gone_meets R W before p was mid now i.gone q m.goes m.way m.own m.hand m.new m.stays in
    let on = gone_hears R W before q was now c.hear_more.new.self met (λ names first. c.hear_more.ensures.way names first q) c.hear_more.ensures.same in
    on.way

pub returns-in-Ok-false-clause-goes : goal.returns-in-Ok-false-clause-goes
returns-in-Ok-false-clause-goes g c =
    let R = g.S.Stream.remaining in
    let W = g.S.Stream.contents in
    let was = c.args.self.now in
    let mid = c.loop-heard.self in
    let now = c.meet.new.self in
    let before = c.args.turn.now in
    let p = c.loop-heard.turn in
    let q = c.meet.new.turn in
    let i = c.loop-heard.invariant in
    let m = c.meet.ensures in
    let met = gone_meets R W before p was mid now i.gone q m.goes m.way m.own m.hand m.new m.stays in
    let on = gone_hears R W before q was now c.hear_more.new.self met (λ names first. c.hear_more.ensures.way names first q) c.hear_more.ensures.same in
    on.goes

pub returns-in-Ok-false-clause-own : goal.returns-in-Ok-false-clause-own
returns-in-Ok-false-clause-own g c =
    let R = g.S.Stream.remaining in
    let W = g.S.Stream.contents in
    let was = c.args.self.now in
    let mid = c.loop-heard.self in
    let now = c.meet.new.self in
    let before = c.args.turn.now in
    let p = c.loop-heard.turn in
    let q = c.meet.new.turn in
    let i = c.loop-heard.invariant in
    let m = c.meet.ensures in
    let met = gone_meets R W before p was mid now i.gone q m.goes m.way m.own m.hand m.new m.stays in
    let on = gone_hears R W before q was now c.hear_more.new.self met (λ names first. c.hear_more.ensures.way names first q) c.hear_more.ensures.same in
    on.own

pub returns-in-Ok-false-clause-hand : goal.returns-in-Ok-false-clause-hand
returns-in-Ok-false-clause-hand g c =
    let R = g.S.Stream.remaining in
    let W = g.S.Stream.contents in
    let was = c.args.self.now in
    let mid = c.loop-heard.self in
    let now = c.meet.new.self in
    let before = c.args.turn.now in
    let p = c.loop-heard.turn in
    let q = c.meet.new.turn in
    let i = c.loop-heard.invariant in
    let m = c.meet.ensures in
    let met = gone_meets R W before p was mid now i.gone q m.goes m.way m.own m.hand m.new m.stays in
    let on = gone_hears R W before q was now c.hear_more.new.self met (λ names first. c.hear_more.ensures.way names first q) c.hear_more.ensures.same in
    on.hand

pub returns-in-Ok-false-clause-new : goal.returns-in-Ok-false-clause-new
returns-in-Ok-false-clause-new g c =
    let R = g.S.Stream.remaining in
    let W = g.S.Stream.contents in
    let was = c.args.self.now in
    let mid = c.loop-heard.self in
    let now = c.meet.new.self in
    let before = c.args.turn.now in
    let p = c.loop-heard.turn in
    let q = c.meet.new.turn in
    let i = c.loop-heard.invariant in
    let m = c.meet.ensures in
    let met = gone_meets R W before p was mid now i.gone q m.goes m.way m.own m.hand m.new m.stays in
    let on = gone_hears R W before q was now c.hear_more.new.self met (λ names first. c.hear_more.ensures.way names first q) c.hear_more.ensures.same in
    on.new

pub returns-in-Ok-false-clause-stays : goal.returns-in-Ok-false-clause-stays
returns-in-Ok-false-clause-stays g c =
    let R = g.S.Stream.remaining in
    let W = g.S.Stream.contents in
    let was = c.args.self.now in
    let mid = c.loop-heard.self in
    let now = c.meet.new.self in
    let before = c.args.turn.now in
    let p = c.loop-heard.turn in
    let q = c.meet.new.turn in
    let i = c.loop-heard.invariant in
    let m = c.meet.ensures in
    let met = gone_meets R W before p was mid now i.gone q m.goes m.way m.own m.hand m.new m.stays in
    let on = gone_hears R W before q was now c.hear_more.new.self met (λ names first. c.hear_more.ensures.way names first q) c.hear_more.ensures.same in
    on.stays

pub returns-in-Err-clause-way : goal.returns-in-Err-clause-way
returns-in-Err-clause-way g c =
    let R = g.S.Stream.remaining in
    let W = g.S.Stream.contents in
    let was = c.args.self.now in
    let mid = c.loop-heard.self in
    let now = c.meet.new.self in
    let before = c.args.turn.now in
    let p = c.loop-heard.turn in
    let q = c.meet.new.turn in
    let i = c.loop-heard.invariant in
    let m = c.meet.ensures in
    let met = gone_meets R W before p was mid now i.gone q m.goes m.way m.own m.hand m.new m.stays in
    let on = gone_hears R W before q was now c.hear_more.new.self met (λ names first. c.hear_more.ensures.way names first q) c.hear_more.ensures.same in
    on.way

pub returns-in-Err-clause-goes : goal.returns-in-Err-clause-goes
returns-in-Err-clause-goes g c =
    let R = g.S.Stream.remaining in
    let W = g.S.Stream.contents in
    let was = c.args.self.now in
    let mid = c.loop-heard.self in
    let now = c.meet.new.self in
    let before = c.args.turn.now in
    let p = c.loop-heard.turn in
    let q = c.meet.new.turn in
    let i = c.loop-heard.invariant in
    let m = c.meet.ensures in
    let met = gone_meets R W before p was mid now i.gone q m.goes m.way m.own m.hand m.new m.stays in
    let on = gone_hears R W before q was now c.hear_more.new.self met (λ names first. c.hear_more.ensures.way names first q) c.hear_more.ensures.same in
    on.goes

pub returns-in-Err-clause-own : goal.returns-in-Err-clause-own
returns-in-Err-clause-own g c =
    let R = g.S.Stream.remaining in
    let W = g.S.Stream.contents in
    let was = c.args.self.now in
    let mid = c.loop-heard.self in
    let now = c.meet.new.self in
    let before = c.args.turn.now in
    let p = c.loop-heard.turn in
    let q = c.meet.new.turn in
    let i = c.loop-heard.invariant in
    let m = c.meet.ensures in
    let met = gone_meets R W before p was mid now i.gone q m.goes m.way m.own m.hand m.new m.stays in
    let on = gone_hears R W before q was now c.hear_more.new.self met (λ names first. c.hear_more.ensures.way names first q) c.hear_more.ensures.same in
    on.own

pub returns-in-Err-clause-hand : goal.returns-in-Err-clause-hand
returns-in-Err-clause-hand g c =
    let R = g.S.Stream.remaining in
    let W = g.S.Stream.contents in
    let was = c.args.self.now in
    let mid = c.loop-heard.self in
    let now = c.meet.new.self in
    let before = c.args.turn.now in
    let p = c.loop-heard.turn in
    let q = c.meet.new.turn in
    let i = c.loop-heard.invariant in
    let m = c.meet.ensures in
    let met = gone_meets R W before p was mid now i.gone q m.goes m.way m.own m.hand m.new m.stays in
    let on = gone_hears R W before q was now c.hear_more.new.self met (λ names first. c.hear_more.ensures.way names first q) c.hear_more.ensures.same in
    on.hand

pub returns-in-Err-clause-new : goal.returns-in-Err-clause-new
returns-in-Err-clause-new g c =
    let R = g.S.Stream.remaining in
    let W = g.S.Stream.contents in
    let was = c.args.self.now in
    let mid = c.loop-heard.self in
    let now = c.meet.new.self in
    let before = c.args.turn.now in
    let p = c.loop-heard.turn in
    let q = c.meet.new.turn in
    let i = c.loop-heard.invariant in
    let m = c.meet.ensures in
    let met = gone_meets R W before p was mid now i.gone q m.goes m.way m.own m.hand m.new m.stays in
    let on = gone_hears R W before q was now c.hear_more.new.self met (λ names first. c.hear_more.ensures.way names first q) c.hear_more.ensures.same in
    on.new

pub returns-in-Err-clause-stays : goal.returns-in-Err-clause-stays
returns-in-Err-clause-stays g c =
    let R = g.S.Stream.remaining in
    let W = g.S.Stream.contents in
    let was = c.args.self.now in
    let mid = c.loop-heard.self in
    let now = c.meet.new.self in
    let before = c.args.turn.now in
    let p = c.loop-heard.turn in
    let q = c.meet.new.turn in
    let i = c.loop-heard.invariant in
    let m = c.meet.ensures in
    let met = gone_meets R W before p was mid now i.gone q m.goes m.way m.own m.hand m.new m.stays in
    let on = gone_hears R W before q was now c.hear_more.new.self met (λ names first. c.hear_more.ensures.way names first q) c.hear_more.ensures.same in
    on.stays

pub returns-in-Err-clause-met : goal.returns-in-Err-clause-met
returns-in-Err-clause-met g c names first home speaks here =
    let R = g.S.Stream.remaining in
    let W = g.S.Stream.contents in
    let was = c.args.self.now in
    let mid = c.loop-heard.self in
    let now = c.meet.new.self in
    let before = c.args.turn.now in
    let p = c.loop-heard.turn in
    let q = c.meet.new.turn in
    let i = c.loop-heard.invariant in
    let m = c.meet.ensures in
    let met = gone_meets R W before p was mid now i.gone q m.goes m.way m.own m.hand m.new m.stays in
    let failed = c.hear_more.ensures.failed c.in-Err._fault (search rules) in
    let there = met.way names first home speaks here in
    let K = g.Q.Asks.was c.args.quota.now (state_seen before) in
    met_by_line R W names K (g.Q.Asks.bound c.args.quota.now) first before q was c.hear_more.new.self c.in-Err._fault met.goes.follows failed.0 (cause failed.1 (λ long. long names first q there.0))

pub loop-heard-preserved : goal.loop-heard-preserved
loop-heard-preserved g c =
    let R = g.S.Stream.remaining in
    let W = g.S.Stream.contents in
    let was = c.args.self.now in
    let mid = c.loop-heard.self in
    let now = c.meet.new.self in
    let before = c.args.turn.now in
    let p = c.loop-heard.turn in
    let q = c.meet.new.turn in
    let i = c.loop-heard.invariant in
    let m = c.meet.ensures in
    let met = gone_meets R W before p was mid now i.gone q m.goes m.way m.own m.hand m.new m.stays in
    let done : c.meet.result ≡ mets.Done = search rules in
    let fine = m.fine done in
    let heard : c.hear_more.result ≡ Ok true = search rules in
    let h = c.hear_more.ensures.heard heard in
    record {
      gone = gone_hears R W before q was now c.hear_more.new.self met (λ names first. c.hear_more.ensures.way names first q) c.hear_more.ensures.same;
      fault = h.0 ∙ (sym fine.0 ∙ i.fault);
      nearer = one_nearer c.args.most was mid now c.hear_more.new.self c.loop-heard._heard m.hears h.2 h.1 i.nearer;
      fits = fits_more (g.Q.Asks.was c.args.quota.now (state_seen before)) (g.Q.Asks.was c.loop-heard.quota (state_seen p)) (g.Q.Asks.was c.meet.new.quota (state_seen q))
          (g.Q.Asks.bound c.args.quota.now) (g.Q.Asks.bound c.loop-heard.quota) before p q i.bound m.goes.follows i.fits m.fits;
      bound = m.bound ∙ i.bound;
    }

pub returns-clause-way : goal.returns-clause-way
returns-clause-way g c =
    let R = g.S.Stream.remaining in
    let W = g.S.Stream.contents in
    let was = c.args.self.now in
    let mid = c.loop-heard.self in
    let now = c.meet-2.new.self in
    let before = c.args.turn.now in
    let p = c.loop-heard.turn in
    let q = c.meet-2.new.turn in
    let i = c.loop-heard.invariant in
    let m = c.meet-2.ensures in
    let met = gone_meets R W before p was mid now i.gone q m.goes m.way m.own m.hand m.new m.stays in
    met.way

pub returns-clause-goes : goal.returns-clause-goes
returns-clause-goes g c =
    let R = g.S.Stream.remaining in
    let W = g.S.Stream.contents in
    let was = c.args.self.now in
    let mid = c.loop-heard.self in
    let now = c.meet-2.new.self in
    let before = c.args.turn.now in
    let p = c.loop-heard.turn in
    let q = c.meet-2.new.turn in
    let i = c.loop-heard.invariant in
    let m = c.meet-2.ensures in
    let met = gone_meets R W before p was mid now i.gone q m.goes m.way m.own m.hand m.new m.stays in
    met.goes

pub returns-clause-own : goal.returns-clause-own
returns-clause-own g c =
    let R = g.S.Stream.remaining in
    let W = g.S.Stream.contents in
    let was = c.args.self.now in
    let mid = c.loop-heard.self in
    let now = c.meet-2.new.self in
    let before = c.args.turn.now in
    let p = c.loop-heard.turn in
    let q = c.meet-2.new.turn in
    let i = c.loop-heard.invariant in
    let m = c.meet-2.ensures in
    let met = gone_meets R W before p was mid now i.gone q m.goes m.way m.own m.hand m.new m.stays in
    met.own

pub returns-clause-hand : goal.returns-clause-hand
returns-clause-hand g c =
    let R = g.S.Stream.remaining in
    let W = g.S.Stream.contents in
    let was = c.args.self.now in
    let mid = c.loop-heard.self in
    let now = c.meet-2.new.self in
    let before = c.args.turn.now in
    let p = c.loop-heard.turn in
    let q = c.meet-2.new.turn in
    let i = c.loop-heard.invariant in
    let m = c.meet-2.ensures in
    let met = gone_meets R W before p was mid now i.gone q m.goes m.way m.own m.hand m.new m.stays in
    met.hand

pub returns-clause-new : goal.returns-clause-new
returns-clause-new g c =
    let R = g.S.Stream.remaining in
    let W = g.S.Stream.contents in
    let was = c.args.self.now in
    let mid = c.loop-heard.self in
    let now = c.meet-2.new.self in
    let before = c.args.turn.now in
    let p = c.loop-heard.turn in
    let q = c.meet-2.new.turn in
    let i = c.loop-heard.invariant in
    let m = c.meet-2.ensures in
    let met = gone_meets R W before p was mid now i.gone q m.goes m.way m.own m.hand m.new m.stays in
    met.new

pub returns-clause-stays : goal.returns-clause-stays
returns-clause-stays g c =
    let R = g.S.Stream.remaining in
    let W = g.S.Stream.contents in
    let was = c.args.self.now in
    let mid = c.loop-heard.self in
    let now = c.meet-2.new.self in
    let before = c.args.turn.now in
    let p = c.loop-heard.turn in
    let q = c.meet-2.new.turn in
    let i = c.loop-heard.invariant in
    let m = c.meet-2.ensures in
    let met = gone_meets R W before p was mid now i.gone q m.goes m.way m.own m.hand m.new m.stays in
    met.stays

pub returns-clause-met : goal.returns-clause-met
returns-clause-met g c names first home speaks here =
    let R = g.S.Stream.remaining in
    let W = g.S.Stream.contents in
    let was = c.args.self.now in
    let mid = c.loop-heard.self in
    let now = c.meet-2.new.self in
    let before = c.args.turn.now in
    let p = c.loop-heard.turn in
    let q = c.meet-2.new.turn in
    let i = c.loop-heard.invariant in
    let m = c.meet-2.ensures in
    let met = gone_meets R W before p was mid now i.gone q m.goes m.way m.own m.hand m.new m.stays in
    let K = g.Q.Asks.was c.args.quota.now (state_seen before) in
    let b = g.Q.Asks.bound c.args.quota.now in
    let L = g.Q.Asks.was c.loop-heard.quota (state_seen p) in
    let known : K → L = λ k. (i.fits k).1 in
    inl (met_since K b first before p was mid now q i.gone.goes.follows i.fault
    (met_as K L b (g.Q.Asks.bound c.loop-heard.quota) known i.bound first p q mid now
    (met_by L (g.Q.Asks.bound c.loop-heard.quota) first p p q mid now c.meet-2.result (follows_itself p) m.goes.follows m.done m.waits m.full m.failed
    (λ fault fine failed. cause (m.fault fault fine failed) (λ clash. clash names first (home_on names before p i.gone.goes.follows home) (i.gone.way names first home speaks here).0)) m.kept)))

pub returns-clause-heard : goal.returns-clause-heard
returns-clause-heard g c =
    let R = g.S.Stream.remaining in
    let W = g.S.Stream.contents in
    let was = c.args.self.now in
    let mid = c.loop-heard.self in
    let now = c.meet-2.new.self in
    let before = c.args.turn.now in
    let p = c.loop-heard.turn in
    let q = c.meet-2.new.turn in
    let i = c.loop-heard.invariant in
    let m = c.meet-2.ensures in
    let met = gone_meets R W before p was mid now i.gone q m.goes m.way m.own m.hand m.new m.stays in
    heard_all c.args.most was mid now c.loop-heard._heard (omega (arith, c.loop-heard-test.false)) i.nearer m.hears

pub returns-then-ne-clause-fits : goal.returns-then-ne-clause-fits
returns-then-ne-clause-fits g c =
    let before = c.args.turn.now in
    let p = c.loop-heard.turn in
    let q = c.meet.new.turn in
    let i = c.loop-heard.invariant in
    let m = c.meet.ensures in
    fits_more (g.Q.Asks.was c.args.quota.now (state_seen before)) (g.Q.Asks.was c.loop-heard.quota (state_seen p)) (g.Q.Asks.was c.meet.new.quota (state_seen q))
    (g.Q.Asks.bound c.args.quota.now) (g.Q.Asks.bound c.loop-heard.quota) before p q i.bound m.goes.follows i.fits m.fits

pub returns-then-ne-clause-bound : goal.returns-then-ne-clause-bound
returns-then-ne-clause-bound g c = c.meet.ensures.bound ∙ c.loop-heard.invariant.bound

pub returns-in-Ok-false-clause-fits : goal.returns-in-Ok-false-clause-fits
returns-in-Ok-false-clause-fits g c =
    let before = c.args.turn.now in
    let p = c.loop-heard.turn in
    let q = c.meet.new.turn in
    let i = c.loop-heard.invariant in
    let m = c.meet.ensures in
    fits_more (g.Q.Asks.was c.args.quota.now (state_seen before)) (g.Q.Asks.was c.loop-heard.quota (state_seen p)) (g.Q.Asks.was c.meet.new.quota (state_seen q))
    (g.Q.Asks.bound c.args.quota.now) (g.Q.Asks.bound c.loop-heard.quota) before p q i.bound m.goes.follows i.fits m.fits

pub returns-in-Ok-false-clause-bound : goal.returns-in-Ok-false-clause-bound
returns-in-Ok-false-clause-bound g c = c.meet.ensures.bound ∙ c.loop-heard.invariant.bound

pub returns-in-Err-clause-fits : goal.returns-in-Err-clause-fits
returns-in-Err-clause-fits g c =
    let before = c.args.turn.now in
    let p = c.loop-heard.turn in
    let q = c.meet.new.turn in
    let i = c.loop-heard.invariant in
    let m = c.meet.ensures in
    fits_more (g.Q.Asks.was c.args.quota.now (state_seen before)) (g.Q.Asks.was c.loop-heard.quota (state_seen p)) (g.Q.Asks.was c.meet.new.quota (state_seen q))
    (g.Q.Asks.bound c.args.quota.now) (g.Q.Asks.bound c.loop-heard.quota) before p q i.bound m.goes.follows i.fits m.fits

pub returns-in-Err-clause-bound : goal.returns-in-Err-clause-bound
returns-in-Err-clause-bound g c = c.meet.ensures.bound ∙ c.loop-heard.invariant.bound

pub returns-clause-fits : goal.returns-clause-fits
returns-clause-fits g c =
    let before = c.args.turn.now in
    let p = c.loop-heard.turn in
    let q = c.meet-2.new.turn in
    let i = c.loop-heard.invariant in
    let m = c.meet-2.ensures in
    fits_more (g.Q.Asks.was c.args.quota.now (state_seen before)) (g.Q.Asks.was c.loop-heard.quota (state_seen p)) (g.Q.Asks.was c.meet-2.new.quota (state_seen q))
    (g.Q.Asks.bound c.args.quota.now) (g.Q.Asks.bound c.loop-heard.quota) before p q i.bound m.goes.follows i.fits m.fits

pub returns-clause-bound : goal.returns-clause-bound
returns-clause-bound g c = c.meet-2.ensures.bound ∙ c.loop-heard.invariant.bound
