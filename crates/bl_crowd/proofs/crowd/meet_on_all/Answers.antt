use Rattle.std.proofs.Common.{rules, arith, ◌≡◌, ◌<◌, ◌∙◌, ◌⊎◌, inl, inr, ap, length, refl, sym, subst}
use Rattle.std.specs.Prelude.{get_or}
use Rattle.std.proofs.lemmas.List.{get_or_read_under}
use Rattle.std.proofs.lemmas.List.Elements.{All-get_or}
use Rattle.bl_gate.specs.Gates.{state_seen}
use Rattle.bl_crowd.specs.Crowds.{HasHeardOn, IsMetOn}
use Rattle.bl_crowd.specs.Steps.{IsNewSession}
use Rattle.bl_crowd.specs.Ways.{IsMember}
use Rattle.bl_crowd.specs.declared.member.Member.{Member}
use Rattle.bl_crowd.proofs.Crowding.{one_meets, still_behind}
use Rattle.bl_crowd.proofs.Fitting.{fits_itself, fits_more, met_on_as}
use Rattle.bl_crowd.proofs.Opening.{own_others, theirs_itself, theirs_more}
use Rattle.bl_crowd.proofs.Passing.{goes_itself, goes_then}
use Rattle.bl_crowd.proofs.Rounding.{hand_itself, hand_then, heard_on_more, met_on_more, met_on_since}
use Rattle.bl_crowd.proofs.crowd.meet_on_all.Goals as goal

pub meet_on-requires-clause-way : goal.meet_on-requires-clause-way
meet_on-requires-clause-way g c =
    let R = g.S.Stream.remaining in
    let W = g.S.Stream.contents in
    let items = c.loop-i.members.items in
    let was = c.index_mut.result.now in
    let low : c.loop-i.i < length items = search rules in
    let names = c.requires.members.0 in
    let first = c.requires.members.1 in
    let here = c.loop-i.invariant.members names first c.requires.members.2 in
    let is = get_or_read_under items c.loop-i.i (length items) was was c.index_mut.ensures.value low refl in
    (names, first, here.home, here.speaks, subst (IsMember R W names first c.loop-i.turn) (sym is) (All-get_or (IsMember R W names first c.loop-i.turn) items c.loop-i.i was low here.each))

pub loop-i-init : goal.loop-i-init
loop-i-init g c = record {
  goes = goes_itself c.args.turn.now c.requires.trail;
  hand = hand_itself c.args.turn.now;
  members = λ names first a. a;
  len = refl;
  met = λ names first a i d low. absurd (omega (arith, low));
  fits = λ known. (fits_itself (g.Q.Asks.bound c.args.quota.now) c.args.turn.now c.args.turn.now refl, known);
  bound = refl;
  own = theirs_itself c.args.members.now.items c.args.members.now.items c.args.turn.now c.args.turn.now refl;
  heard = λ i d low. absurd (omega (arith, low));
  still = λ j d low. refl;
}

pub loop-i-preserved : goal.loop-i-preserved
loop-i-preserved g c =
    let R = g.S.Stream.remaining in
    let W = g.S.Stream.contents in
    let items = c.loop-i.members.items in
    let i = c.loop-i.i in
    let p = c.loop-i.turn in
    let q = c.meet_on.new.turn in
    let was = c.index_mut.result.now in
    let member = c.meet_on.new.self in
    let low : i < length items = search rules in
    let met = c.meet_on.ensures in
    let K = g.Q.Asks.was c.args.quota.now (state_seen c.args.turn.now) in
    let b = g.Q.Asks.bound c.args.quota.now in
    let L = g.Q.Asks.was c.loop-i.quota (state_seen p) in
    let known : K → L = λ k. (c.loop-i.invariant.fits k).1 in
    let fresh : (member.reception ≡ (get_or items i member).reception) ⊎ IsNewSession p member.reception = elim met.new [
      | inl same ↦ inl (same ∙ ap (λ (m : Member g.row.S.Denot). m.reception) (get_or_read_under items i (length items) was member c.index_mut.ensures.value low refl))
      | inr new ↦ inr new
    ] in
    record {
      goes = goes_then c.args.turn.now p q c.loop-i.invariant.goes met.goes;
      hand = hand_then c.args.turn.now p q c.loop-i.invariant.hand met.hand met.goes;
      members = λ names first a.
          (let here = c.loop-i.invariant.members names first a in
          let is = get_or_read_under items i (length items) was was c.index_mut.ensures.value low refl in
          let own = met.way names first here.home here.speaks (subst (IsMember R W names first p) (sym is) (All-get_or (IsMember R W names first p) items i was low here.each)) in
          one_meets R W names first p q items here i member low met.goes own.1 own.0 (own_others was.reception member.reception p q met.own) fresh);
      len = c.loop-i.invariant.len;
      met = λ names first a.
          (let here = c.loop-i.invariant.members names first a in
          let is = get_or_read_under items i (length items) was was c.index_mut.ensures.value low refl in
          let one = subst (IsMember R W names first p) (sym is) (All-get_or (IsMember R W names first p) items i was low here.each) in
          met_on_more R W names K b first c.args.turn.now c.args.members.now.items items i member p q low met.goes.follows
          (λ d. subst (λ (m : Member g.row.S.Denot). IsMetOn R W names K b first c.args.turn.now q m member) (get_or_read_under items i (length items) was d c.index_mut.ensures.value low refl ∙ c.loop-i.invariant.still i d (omega arith))
          (met_on_since R W names K b first p q was member c.args.turn.now c.loop-i.invariant.goes.follows
          (met_on_as K L b (g.Q.Asks.bound c.loop-i.quota) known c.loop-i.invariant.bound R W names first p q was member (met.met names first here.home here.speaks one))))
          (c.loop-i.invariant.met names first a));
      fits = fits_more K L (g.Q.Asks.was c.meet_on.new.quota (state_seen q)) b (g.Q.Asks.bound c.loop-i.quota) c.args.turn.now p q c.loop-i.invariant.bound met.goes.follows c.loop-i.invariant.fits met.fits;
      bound = met.bound ∙ c.loop-i.invariant.bound;
      own = theirs_more c.args.members.now.items items i was member low (λ d. get_or_read_under items i (length items) was d c.index_mut.ensures.value low refl)
          (λ d. c.loop-i.invariant.still i d (omega arith)) met.stays p q met.goes.follows c.args.turn.now c.loop-i.invariant.own met.own;
      heard = heard_on_more c.args.members.now.items items i member c.args.most low
          (λ d. subst (λ (m : Member g.row.S.Denot). HasHeardOn c.args.most m member) (get_or_read_under items i (length items) was d c.index_mut.ensures.value low refl ∙ c.loop-i.invariant.still i d (omega arith)) met.heard)
          c.loop-i.invariant.heard;
      still = still_behind c.args.members.now.items items i member c.loop-i.invariant.still;
    }

pub returns-clause-met : goal.returns-clause-met
returns-clause-met g c names first a i d low =
    c.loop-i.invariant.met names first a i d (omega (arith, low, c.loop-i-test.false, c.len-i-end.ensures, c.loop-i.invariant.len))
