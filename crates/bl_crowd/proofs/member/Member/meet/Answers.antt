use Rattle.std.proofs.Common.{rules, ◌≡◌, ◌∙◌, Option, None, Some, Ok, true, inl, inr, ap, refl, sym, subst}
use Rattle.bl_work.specs.Readable.{IsReadable}
use Rattle.bl_setup.specs.Setup.{Setup}
use Rattle.bl_order.specs.Machine.{State}
use Rattle.bl_hall.specs.Chronicle.{state_now}
use Rattle.bl_gate.specs.Gates.{PassView, state_seen}
use Rattle.bl_wire.specs.declared.fault.SessionFault.TheVariants as faults
use Rattle.bl_engine.specs.declared.request.Request.{Request}
use Rattle.bl_engine.specs.declared.request.Request.TheVariants as requests
use Rattle.bl_quota.specs.Quotas.{IsAllowed}
use Rattle.bl_quota.specs.declared.quota.Fit.TheVariants.{Now, Later, Never}
use Rattle.bl_serve.specs.Courses.{SpeaksForItsOwn}
use Rattle.bl_crowd.specs.Fitting.{IsHeldBack}
use Rattle.bl_crowd.specs.Ways.{IsMember, IsUnderWay}
use Rattle.bl_crowd.specs.declared.member.Member.{Member}
use Rattle.bl_crowd.proofs.Fitting.{fits_itself, fits_quiet, leads_on}
use Rattle.bl_crowd.proofs.Meeting.{readable, setup_is}
use Rattle.bl_crowd.proofs.Opening.{own_itself}
use Rattle.bl_crowd.proofs.Streaming.{member_full, member_of, way_but, way_taken}
use Rattle.bl_crowd.proofs.member.Member.meet.Goals as goal

pub returns-in_default-take-clause-way : goal.returns-in_default-take-clause-way
returns-in_default-take-clause-way g c names first home speaks member =
    let R = g.S.Stream.remaining in
    let W = g.S.Stream.contents in
    let self = c.args.self.now in
    let fine : self.fault ≡ None = search rules in
    let asks : self.asked ≡ None = search rules in
    let none : c.take.new.self ≡ None = search rules in
    (member_of R W names first c.args.turn.now (record self { asked = c.take.new.self }) None fine none (way_taken R W names first c.args.turn.now self c.take.new.self None fine asks member), speaks)

pub open-requires : goal.open-requires
open-requires g c =
    let self = c.args.self.now in
    let way = c.requires.way in
    let fine : self.fault ≡ None = search rules in
    let asks : self.asked ≡ Some (requests.Opens c.in-Opens.subject) = search rules in
    record { way = (way.0, way.1, way.2, way_taken g.S.Stream.remaining g.S.Stream.contents way.0 way.1 c.args.turn.now self c.take.new.self (Some (requests.Opens c.in-Opens.subject)) fine asks way.3) }

pub admit-requires : goal.admit-requires
admit-requires g c =
    let self = c.args.self.now in
    let way = c.requires.way in
    let fine : self.fault ≡ None = search rules in
    let asks : self.asked ≡ Some (requests.Admits c.in-Admits.ordinal c.in-Admits.work) = search rules in
    record { way = (way.0, way.1, way.2, way_taken g.S.Stream.remaining g.S.Stream.contents way.0 way.1 c.args.turn.now self c.take.new.self (Some (requests.Admits c.in-Admits.ordinal c.in-Admits.work)) fine asks way.3) }

pub settle-requires : goal.settle-requires
settle-requires g c =
    let self = c.args.self.now in
    let way = c.requires.way in
    let fine : self.fault ≡ None = search rules in
    let asks : self.asked ≡ Some requests.Settles = search rules in
    record { way = (way.0, way.1, way.2, way_taken g.S.Stream.remaining g.S.Stream.contents way.0 way.1 c.args.turn.now self c.take.new.self (Some requests.Settles) fine asks way.3) }

pub returns-in-Opens-clause-way : goal.returns-in-Opens-clause-way
returns-in-Opens-clause-way g c names first home speaks member =
    let R = g.S.Stream.remaining in
    let W = g.S.Stream.contents in
    let self = c.args.self.now in
    let fine : self.fault ≡ None = search rules in
    let asks : self.asked ≡ Some (requests.Opens c.in-Opens.subject) = search rules in
    let none : c.take.new.self ≡ None = search rules in
    let opened = c.open.ensures.way names first home speaks (way_taken R W names first c.args.turn.now self c.take.new.self (Some (requests.Opens c.in-Opens.subject)) fine asks member) in
    (member_of R W names first c.open.new.turn c.open.new.self None (c.open.ensures.same.1 ∙ fine) (c.open.ensures.same.0 ∙ none) opened.0, opened.1)

pub returns-in-Opens-clause-own : goal.returns-in-Opens-clause-own
returns-in-Opens-clause-own g c = c.open.ensures.own

pub returns-in-Ok-clause-way : goal.returns-in-Ok-clause-way
returns-in-Ok-clause-way g c names first home speaks member =
    let R = g.S.Stream.remaining in
    let W = g.S.Stream.contents in
    let self = c.args.self.now in
    let fine : self.fault ≡ None = search rules in
    let asks : self.asked ≡ Some (requests.Admits c.in-Admits.ordinal c.in-Admits.work) = search rules in
    let none : c.take.new.self ≡ None = search rules in
    let admitted = c.in-Ok.ensures.ok names first home speaks (way_taken R W names first c.args.turn.now self c.take.new.self (Some (requests.Admits c.in-Admits.ordinal c.in-Admits.work)) fine asks member) in
    (member_of R W names first c.admit.new.turn c.admit.new.self None (c.admit.ensures.same.2 ∙ fine) (c.admit.ensures.same.1 ∙ none) admitted.0, admitted.1)

pub returns-in-Ok-clause-own : goal.returns-in-Ok-clause-own
returns-in-Ok-clause-own g c = c.admit.ensures.own

pub returns-in-Err-clause-way : goal.returns-in-Err-clause-way
returns-in-Err-clause-way g c names first home speaks member =
    let R = g.S.Stream.remaining in
    let W = g.S.Stream.contents in
    let self = c.args.self.now in
    let p = c.args.turn.now in
    let q = c.admit.new.turn in
    let one = c.admit.new.self in
    let ordinal = c.in-Admits.ordinal in
    let fine : self.fault ≡ None = search rules in
    let asks : self.asked ≡ Some (requests.Admits ordinal c.in-Admits.work) = search rules in
    let back = c.in-Err.ensures.back in
    let was = way_taken R W names first p self c.take.new.self (Some (requests.Admits ordinal c.in-Admits.work)) fine asks member in
    let here = subst (λ w. IsUnderWay R W names first q one (Some (requests.Admits ordinal w))) (sym back.2)
    (subst (λ (m : Member g.row.S.Denot). IsUnderWay R W names first q m (Some (requests.Admits ordinal c.in-Admits.work))) (sym back.1)
    (subst (λ (v : PassView). IsUnderWay R W names first v (record self { asked = c.take.new.self }) (Some (requests.Admits ordinal c.in-Admits.work))) (sym back.0) was))
    in (
      inl (way_but R W names first q one (Some (requests.Admits ordinal c.in-Err.work)) (Some faults.Clash) (Some (requests.Admits ordinal c.in-Err.work)) here),
      subst (SpeaksForItsOwn first) (sym back.0) speaks,
    )

pub returns-in-Err-clause-own : goal.returns-in-Err-clause-own
returns-in-Err-clause-own g c = c.admit.ensures.own

pub returns-in-Err-clause-fault : goal.returns-in-Err-clause-fault
returns-in-Err-clause-fault g c fault fine is =
    let self = c.args.self.now in
    let asks : self.asked ≡ Some (requests.Admits c.in-Admits.ordinal c.in-Admits.work) = search rules in
    inr (
      cc,
      λ names first home member.
          c.in-Err.ensures.clash names first home
          (way_taken g.S.Stream.remaining g.S.Stream.contents names first c.args.turn.now self c.take.new.self (Some (requests.Admits c.in-Admits.ordinal c.in-Admits.work)) fine asks member),
    )

pub returns-in-Ok-true-clause-way : goal.returns-in-Ok-true-clause-way
returns-in-Ok-true-clause-way g c names first home speaks member =
    let R = g.S.Stream.remaining in
    let W = g.S.Stream.contents in
    let self = c.args.self.now in
    let p = c.args.turn.now in
    let fine : self.fault ≡ None = search rules in
    let asks : self.asked ≡ Some requests.Settles = search rules in
    let none : c.take.new.self ≡ None = search rules in
    let settled : c.settle.result ≡ Ok true = search rules in
    let way = c.settle.ensures.way settled names first home (way_taken R W names first p self c.take.new.self (Some requests.Settles) fine asks member) in
    (member_of R W names first p c.settle.new.self None (c.settle.ensures.same.2 ∙ fine) (c.settle.ensures.same.1 ∙ none) way, speaks)

pub returns-in-Ok-false-clause-way : goal.returns-in-Ok-false-clause-way
returns-in-Ok-false-clause-way g c names first home speaks member =
    let R = g.S.Stream.remaining in
    let W = g.S.Stream.contents in
    let self = c.args.self.now in
    let p = c.args.turn.now in
    let one = c.settle.new.self in
    let fine : self.fault ≡ None = search rules in
    let asks : self.asked ≡ Some requests.Settles = search rules in
    let same : one ≡ record self { asked = c.take.new.self } = search rules in
    let here = subst (λ (m : Member g.row.S.Denot). IsUnderWay R W names first p m (Some requests.Settles)) (sym same) (way_taken R W names first p self c.take.new.self (Some requests.Settles) fine asks member) in
    (member_of R W names first p (record one { asked = Some requests.Settles }) (Some requests.Settles) (c.settle.ensures.same.2 ∙ fine) refl (way_but R W names first p one (Some requests.Settles) one.fault (Some requests.Settles) here), speaks)

pub returns-in-Err-settle-clause-way : goal.returns-in-Err-settle-clause-way
returns-in-Err-settle-clause-way g c names first home speaks member =
    let R = g.S.Stream.remaining in
    let W = g.S.Stream.contents in
    let self = c.args.self.now in
    let p = c.args.turn.now in
    let one = c.settle.new.self in
    let fine : self.fault ≡ None = search rules in
    let asks : self.asked ≡ Some requests.Settles = search rules in
    let same : one ≡ record self { asked = c.take.new.self } = search rules in
    let here = subst (λ (m : Member g.row.S.Denot). IsUnderWay R W names first p m (Some requests.Settles)) (sym same) (way_taken R W names first p self c.take.new.self (Some requests.Settles) fine asks member) in
    (inl (way_but R W names first p one (Some requests.Settles) (Some faults.Memory) (Some requests.Settles) here), speaks)

pub asks-requires : goal.asks-requires
asks-requires g c =
    let R = g.S.Stream.remaining in
    let W = g.S.Stream.contents in
    let self = c.args.self.now in
    let p = c.args.turn.now in
    let ordinal = c.in-Admits.ordinal in
    let work = c.in-Admits.work in
    let fine : self.fault ≡ None = search rules in
    let asks : self.asked ≡ Some (requests.Admits ordinal work) = search rules in
    let way = c.requires.way in
    let here = way_taken R W way.0 way.1 p self c.take.new.self (Some (requests.Admits ordinal work)) fine asks way.3 in
    let is : c.core.result.now ≡ state_seen p = c.core.ensures.value ∙ ap state_now c.hall.ensures in
    subst (λ (x : State). IsReadable x.setup.names work) (sym is)
    (subst (λ (s : Setup). IsReadable s.names work) (sym (setup_is p)) (readable R W way.0 way.1 p (record self { asked = c.take.new.self }) ordinal work here way.2))

pub returns-in-Later-clause-way : goal.returns-in-Later-clause-way
returns-in-Later-clause-way g c names first home speaks member =
    let R = g.S.Stream.remaining in
    let W = g.S.Stream.contents in
    let self = c.args.self.now in
    let p = c.args.turn.now in
    let ordinal = c.in-Admits.ordinal in
    let work = c.in-Admits.work in
    let fine : self.fault ≡ None = search rules in
    let asks : self.asked ≡ Some (requests.Admits ordinal work) = search rules in
    let same : c.put_off.new.self ≡ self = (c.put_off.ensures.later refl).1 ∙ ap (λ (a : Option Request). record self { asked = a }) (sym asks) in
    (subst (IsMember R W names first p) (sym same) member, speaks)

pub returns-in-Later-clause-waits : goal.returns-in-Later-clause-waits
returns-in-Later-clause-waits g c waits =
    let R = g.S.Stream.remaining in
    let W = g.S.Stream.contents in
    let self = c.args.self.now in
    let p = c.args.turn.now in
    let ordinal = c.in-Admits.ordinal in
    let work = c.in-Admits.work in
    let fine : self.fault ≡ None = search rules in
    let asks : self.asked ≡ Some (requests.Admits ordinal work) = search rules in
    let b = g.Q.Asks.bound c.args.quota.now in
    let K = g.Q.Asks.was c.args.quota.now (state_seen p) in
    let is : c.core.result.now ≡ state_seen p = c.core.ensures.value ∙ ap state_now c.hall.ensures in
    let fit : c.asks.result ≡ Later = search rules in
    let allowed : K → IsAllowed b (state_seen p) work Later = λ known. subst (λ (x : State). IsAllowed b x work Later) is
    (subst (IsAllowed b c.core.result.now work) fit (c.asks.ensures.fit (subst (g.Q.Asks.was c.args.quota.now) (sym is) known))) in
    let same : c.put_off.new.self ≡ self = (c.put_off.ensures.later refl).1 ∙ ap (λ (a : Option Request). record self { asked = a }) (sym asks) in
    (same, refl, inr (subst (λ (a : Option Request). IsHeldBack K b (state_seen p) a Later) (sym asks) allowed))

pub returns-in-Later-clause-full : goal.returns-in-Later-clause-full
returns-in-Later-clause-full g c full = absurd (let e = sym (c.put_off.ensures.later refl).0 ∙ full in cc)

pub returns-in-Never-clause-way : goal.returns-in-Never-clause-way
returns-in-Never-clause-way g c names first home speaks member =
    let R = g.S.Stream.remaining in
    let W = g.S.Stream.contents in
    let self = c.args.self.now in
    let p = c.args.turn.now in
    let ordinal = c.in-Admits.ordinal in
    let work = c.in-Admits.work in
    let fine : self.fault ≡ None = search rules in
    let asks : self.asked ≡ Some (requests.Admits ordinal work) = search rules in
    let full : c.put_off-in-Never.new.self ≡ record self { full = true } = (c.put_off-in-Never.ensures.never refl).1 ∙ ap (λ (a : Option Request). record self { asked = a; full = true }) (sym asks) in
    (subst (IsMember R W names first p) (sym full) (member_full R W names first p self true fine member), speaks)

pub returns-in-Never-clause-full : goal.returns-in-Never-clause-full
returns-in-Never-clause-full g c is_full =
    let R = g.S.Stream.remaining in
    let W = g.S.Stream.contents in
    let self = c.args.self.now in
    let p = c.args.turn.now in
    let ordinal = c.in-Admits.ordinal in
    let work = c.in-Admits.work in
    let fine : self.fault ≡ None = search rules in
    let asks : self.asked ≡ Some (requests.Admits ordinal work) = search rules in
    let b = g.Q.Asks.bound c.args.quota.now in
    let K = g.Q.Asks.was c.args.quota.now (state_seen p) in
    let is : c.core.result.now ≡ state_seen p = c.core.ensures.value ∙ ap state_now c.hall.ensures in
    let fit : c.asks.result ≡ Never = search rules in
    let allowed : K → IsAllowed b (state_seen p) work Never = λ known. subst (λ (x : State). IsAllowed b x work Never) is
    (subst (IsAllowed b c.core.result.now work) fit (c.asks.ensures.fit (subst (g.Q.Asks.was c.args.quota.now) (sym is) known))) in
    let full : c.put_off-in-Never.new.self ≡ record self { full = true } = (c.put_off-in-Never.ensures.never refl).1 ∙ ap (λ (a : Option Request). record self { asked = a; full = true }) (sym asks) in
    (full, refl, subst (λ (a : Option Request). IsHeldBack K b (state_seen p) a Never) (sym asks) allowed)

pub returns-in-Never-clause-waits : goal.returns-in-Never-clause-waits
returns-in-Never-clause-waits g c waits = absurd (let e = sym (c.put_off-in-Never.ensures.never refl).0 ∙ waits in cc)

pub returns-in-Later-clause-fits : goal.returns-in-Later-clause-fits
returns-in-Later-clause-fits g c known =
    let p = c.args.turn.now in
    let is : c.core.result.now ≡ state_seen p = c.core.ensures.value ∙ ap state_now c.hall.ensures in
    (fits_itself (g.Q.Asks.bound c.args.quota.now) p p refl, subst (g.Q.Asks.was c.asks.new.self) is (c.asks.ensures.was (subst (g.Q.Asks.was c.args.quota.now) (sym is) known)))

pub returns-in-Never-clause-fits : goal.returns-in-Never-clause-fits
returns-in-Never-clause-fits g c known =
    let p = c.args.turn.now in
    let is : c.core.result.now ≡ state_seen p = c.core.ensures.value ∙ ap state_now c.hall.ensures in
    (fits_itself (g.Q.Asks.bound c.args.quota.now) p p refl, subst (g.Q.Asks.was c.asks.new.self) is (c.asks.ensures.was (subst (g.Q.Asks.was c.args.quota.now) (sym is) known)))

pub returns-in-Opens-clause-fits : goal.returns-in-Opens-clause-fits
returns-in-Opens-clause-fits g c known =
    let p = c.args.turn.now in
    let q = c.open.new.turn in (
      fits_quiet (g.Q.Asks.bound c.args.quota.now) p q c.open.ensures.lines,
      g.met.Q.Asks.goes_on c.args.quota.now (state_seen p) (state_seen q) known (leads_on p q c.open.ensures.goes),
    )

pub returns-in-Ok-clause-fits : goal.returns-in-Ok-clause-fits
returns-in-Ok-clause-fits g c known =
    let R = g.S.Stream.remaining in
    let W = g.S.Stream.contents in
    let self = c.args.self.now in
    let p = c.args.turn.now in
    let ordinal = c.in-Admits.ordinal in
    let work = c.in-Admits.work in
    let fine : self.fault ≡ None = search rules in
    let asks : self.asked ≡ Some (requests.Admits ordinal work) = search rules in
    let b = g.Q.Asks.bound c.args.quota.now in
    let K = g.Q.Asks.was c.args.quota.now (state_seen p) in
    let is : c.core.result.now ≡ state_seen p = c.core.ensures.value ∙ ap state_now c.hall.ensures in
    let fit : c.asks.result ≡ Now = search rules in
    let allowed : K → IsAllowed b (state_seen p) work Now = λ known. subst (λ (x : State). IsAllowed b x work Now) is
    (subst (IsAllowed b c.core.result.now work) fit (c.asks.ensures.fit (subst (g.Q.Asks.was c.args.quota.now) (sym is) known))) in
    let q = c.admit.new.turn in (
      c.admit.ensures.fits b (allowed known),
      g.met.Q.Asks.goes_on c.asks.new.self (state_seen p) (state_seen q) (subst (g.Q.Asks.was c.asks.new.self) is (c.asks.ensures.was (subst (g.Q.Asks.was c.args.quota.now) (sym is) known))) (leads_on p q c.admit.ensures.goes),
    )

pub returns-in-Err-clause-fits : goal.returns-in-Err-clause-fits
returns-in-Err-clause-fits g c known =
    let p = c.args.turn.now in
    let q = c.admit.new.turn in
    let is : c.core.result.now ≡ state_seen p = c.core.ensures.value ∙ ap state_now c.hall.ensures in
    let back = c.in-Err.ensures.back in (
      fits_itself (g.Q.Asks.bound c.args.quota.now) p q (ap (λ (v : PassView). v.own) back.0),
      g.met.Q.Asks.goes_on c.asks.new.self (state_seen p) (state_seen q) (subst (g.Q.Asks.was c.asks.new.self) is (c.asks.ensures.was (subst (g.Q.Asks.was c.args.quota.now) (sym is) known))) (leads_on p q c.admit.ensures.goes),
    )

pub returns-in-Some-clause-fits : goal.returns-in-Some-clause-fits
returns-in-Some-clause-fits g c known = (fits_itself (g.Q.Asks.bound c.args.quota.now) c.args.turn.now c.args.turn.now refl, known)

pub returns-in_default-take-clause-fits : goal.returns-in_default-take-clause-fits
returns-in_default-take-clause-fits g c known = (fits_itself (g.Q.Asks.bound c.args.quota.now) c.args.turn.now c.args.turn.now refl, known)

pub returns-in-Ok-true-clause-fits : goal.returns-in-Ok-true-clause-fits
returns-in-Ok-true-clause-fits g c known = (fits_itself (g.Q.Asks.bound c.args.quota.now) c.args.turn.now c.args.turn.now refl, known)

pub returns-in-Ok-false-clause-fits : goal.returns-in-Ok-false-clause-fits
returns-in-Ok-false-clause-fits g c known = (fits_itself (g.Q.Asks.bound c.args.quota.now) c.args.turn.now c.args.turn.now refl, known)

pub returns-in-Err-settle-clause-fits : goal.returns-in-Err-settle-clause-fits
returns-in-Err-settle-clause-fits g c known = (fits_itself (g.Q.Asks.bound c.args.quota.now) c.args.turn.now c.args.turn.now refl, known)

pub returns-in-Some-clause-own : goal.returns-in-Some-clause-own
returns-in-Some-clause-own g c = own_itself c.args.self.now.reception c.args.self.now.reception c.args.turn.now c.args.turn.now refl

pub returns-in_default-take-clause-own : goal.returns-in_default-take-clause-own
returns-in_default-take-clause-own g c = own_itself c.args.self.now.reception c.args.self.now.reception c.args.turn.now c.args.turn.now refl

pub returns-in-Later-clause-own : goal.returns-in-Later-clause-own
returns-in-Later-clause-own g c = own_itself c.args.self.now.reception c.put_off.new.self.reception c.args.turn.now c.args.turn.now refl

pub returns-in-Never-clause-own : goal.returns-in-Never-clause-own
returns-in-Never-clause-own g c = own_itself c.args.self.now.reception c.put_off-in-Never.new.self.reception c.args.turn.now c.args.turn.now refl

pub returns-in-Ok-true-clause-own : goal.returns-in-Ok-true-clause-own
returns-in-Ok-true-clause-own g c = own_itself c.args.self.now.reception c.settle.new.self.reception c.args.turn.now c.args.turn.now refl

pub returns-in-Ok-false-clause-own : goal.returns-in-Ok-false-clause-own
returns-in-Ok-false-clause-own g c = own_itself c.args.self.now.reception c.settle.new.self.reception c.args.turn.now c.args.turn.now refl

pub returns-in-Err-settle-clause-own : goal.returns-in-Err-settle-clause-own
returns-in-Err-settle-clause-own g c = own_itself c.args.self.now.reception c.settle.new.self.reception c.args.turn.now c.args.turn.now refl
