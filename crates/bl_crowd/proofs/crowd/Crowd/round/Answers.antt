use Rattle.std.proofs.Common.{◌≡◌, ◌∙◌, ap, get_or, refl, sym, subst, vec_len}
use Rattle.bl_gate.specs.Gates.{Follows, PassView, state_seen}
use Rattle.bl_gate.proofs.Following.{follows_then}
use Rattle.bl_worker.specs.Batches.{IsBatch, loans_in}
use Rattle.bl_worker.specs.Turns.{IsNoLine}
use Rattle.bl_worker.proofs.Adding.{adds_itself, adds_no_line}
use Rattle.bl_worker.proofs.Batching.{batch_enters, batch_goes}
use Rattle.bl_crowd.specs.Crowds.{AreMetOn, HasBegunLast}
use Rattle.bl_crowd.specs.Fitting.{AdmitsWhatFits}
use Rattle.bl_crowd.specs.Openings.{AddsTheirOwn}
use Rattle.bl_crowd.specs.Ways.{AreMembers}
use Rattle.bl_crowd.proofs.Crowding.{crowd_goes}
use Rattle.bl_crowd.proofs.Fitting.{fits_itself, fits_quiet, fits_then, leads_on, met_on_as}
use Rattle.bl_crowd.proofs.Opening.{theirs_itself, theirs_then, theirs_turns}
use Rattle.bl_crowd.proofs.Rounding.{are_met_on, crowd_turns}
use Rattle.bl_crowd.proofs.crowd.Crowd.round.Goals as goal

pub end_all-ended-requires-clause-batch : goal.end_all-ended-requires-clause-batch
end_all-ended-requires-clause-batch g c =
    let b = c.requires.batch in
    let loans = loans_in c.args.batch.now in (
      b.0,
      batch_enters b.0 c.take.result c.turn-turn.result loans (subst (λ (v : PassView). IsBatch b.0 v loans) (sym c.take.ensures.taken) b.1) c.turn-turn.ensures.follows c.turn-turn.ensures.trail
          c.turn-turn.ensures.own c.turn-turn.ensures.in_hand,
    )

pub meet_on_all-requires-clause-members : goal.meet_on_all-requires-clause-members
meet_on_all-requires-clause-members g c =
    let self = c.args.self.now in
    let R = g.S.Stream.remaining in
    let W = g.S.Stream.contents in
    let names = self.gate.now.base.setup.names in
    let items = self.members.items in
    let p = c.take.result in
    let t = c.turn-turn.result in
    let e = c.end_all-ended.ensures in
    let here = subst (λ (v : PassView). AreMembers R W names self.first.value v items) (sym c.take.ensures.taken) c.requires.crowd.members in
    let begins = crowd_goes R W names self.first.value p t items here (record { follows = c.turn-turn.ensures.follows; trail = c.turn-turn.ensures.trail }) (adds_itself (λ _. IsNoLine) p t c.turn-turn.ensures.own) in
    (names, self.first.value, crowd_turns R W names self.first.value t c.end_all-ended.new.turn items begins e.follows e.trail e.adds)

pub returns-clause-crowd : goal.returns-clause-crowd
returns-clause-crowd g c =
    let self = c.args.self.now in
    let R = g.S.Stream.remaining in
    let W = g.S.Stream.contents in
    let names = self.gate.now.base.setup.names in
    let items = self.members.items in
    let p = c.take.result in
    let t = c.turn-turn.result in
    let u = c.end_all-ended.new.turn in
    let v = c.meet_on_all.new.turn in
    let w = c.begin_ready-begun.new.turn in
    let e = c.end_all-ended.ensures in
    let b = c.begin_ready-begun.ensures in
    let here = subst (λ (x : PassView). AreMembers R W names self.first.value x items) (sym c.take.ensures.taken) c.requires.crowd.members in
    let begins = crowd_goes R W names self.first.value p t items here (record { follows = c.turn-turn.ensures.follows; trail = c.turn-turn.ensures.trail }) (adds_itself (λ _. IsNoLine) p t c.turn-turn.ensures.own) in
    let new = c.meet_on_all.new.members.items in
    let met = c.meet_on_all.ensures.members names self.first.value (crowd_turns R W names self.first.value t u items begins e.follows e.trail e.adds) in
    record {
      gate_is = ap (λ (y : PassView). y.gate) c.leave.ensures
          ∙ (b.follows.gate ∙ (c.meet_on_all.ensures.goes.follows.gate ∙ (e.follows.gate ∙ (c.turn-turn.ensures.follows.gate ∙ (ap (λ (y : PassView). y.gate) c.take.ensures.taken ∙ c.requires.crowd.gate_is)))));
      members = subst (λ (y : PassView). AreMembers R W names self.first.value y new) (sym c.leave.ensures)
          (crowd_turns R W names self.first.value v w new met b.follows b.trail b.adds);
    }

pub returns-clause-batch : goal.returns-clause-batch
returns-clause-batch g c since batch =
    let loans = loans_in c.args.batch.now in
    let u = c.end_all-ended.new.turn in
    let v = c.meet_on_all.new.turn in
    let some = c.end_all-ended.ensures.batch since
    (batch_enters since c.take.result c.turn-turn.result loans (subst (λ (x : PassView). IsBatch since x loans) (sym c.take.ensures.taken) batch) c.turn-turn.ensures.follows c.turn-turn.ensures.trail
    c.turn-turn.ensures.own c.turn-turn.ensures.in_hand)
    in
    let met = c.meet_on_all.ensures in
    let then = batch_goes since u v (loans_in c.end_all-ended.new.self) some met.goes.follows met.goes.trail met.hand.settles met.hand.in_hand in
    subst (λ (x : PassView). IsBatch since x (loans_in c.begin_ready-begun.new.self)) (sym c.leave.ensures) (c.begin_ready-begun.ensures.batch since then)

pub returns-clause-met : goal.returns-clause-met
returns-clause-met g c =
    let self = c.args.self.now in
    let R = g.S.Stream.remaining in
    let W = g.S.Stream.contents in
    let names = self.gate.now.base.setup.names in
    let items = self.members.items in
    let new = c.meet_on_all.new.members.items in
    let count = vec_len c.meet_on_all.new.members in
    let p = c.take.result in
    let t = c.turn-turn.result in
    let u = c.end_all-ended.new.turn in
    let v = c.meet_on_all.new.turn in
    let w = c.begin_ready-begun.new.turn in
    let e = c.end_all-ended.ensures in
    let m = c.meet_on_all.ensures in
    let b = c.begin_ready-begun.ensures in
    let here = subst (λ (x : PassView). AreMembers R W names self.first.value x items) (sym c.take.ensures.taken) c.requires.crowd.members in
    let begins = crowd_goes R W names self.first.value p t items here (record { follows = c.turn-turn.ensures.follows; trail = c.turn-turn.ensures.trail }) (adds_itself (λ _. IsNoLine) p t c.turn-turn.ensures.own) in
    let from = subst (λ (x : PassView). Follows x t) c.take.ensures.taken c.turn-turn.ensures.follows in
    let own : t.own ≡ self.pass.own = c.turn-turn.ensures.own ∙ ap (λ (x : PassView). x.own) c.take.ensures.taken in
    let says = g.Q.Asks.bound c.args.quota.now in
    let K = g.Q.Asks.was c.args.quota.now (state_seen t) in
    let L = g.Q.Asks.was c.args.quota.now (state_seen u) in
    let known : K → L = λ k. g.met.Q.Asks.goes_on c.args.quota.now (state_seen t) (state_seen u) k (leads_on t u (record { follows = e.follows; trail = e.trail })) in
    let quiet = fits_quiet says in
    let ended = fits_then says self.pass t u (fits_itself says self.pass t own) (quiet t u (adds_no_line (λ n. Unit {0}) t u e.adds)) e.follows in (
      t,
      record { follows = from; own = own },
      subst (λ (y : PassView). AreMetOn R W names K says self.first.value self.pass y items new count) (sym c.leave.ensures)
          (are_met_on R W names K says self.first.value self.pass u v w items new count (follows_then self.pass t u from e.follows) b.follows
          (λ i d low. met_on_as K L says says known refl R W names self.first.value u v (get_or items i d) (get_or new i d)
          (m.met names self.first.value (crowd_turns R W names self.first.value t u items begins e.follows e.trail e.adds) i d low))),
      λ k. subst (λ (y : PassView). AdmitsWhatFits says self.pass y × g.Q.Asks.was c.meet_on_all.new.quota (state_seen y)) (sym c.leave.ensures)
          (let met = m.fits (known k) in (
            fits_then says self.pass v w (fits_then says self.pass u v ended met.0 m.goes.follows) (quiet v w (adds_no_line (λ n. Unit {0}) v w b.adds)) b.follows,
            g.met.Q.Asks.goes_on c.meet_on_all.new.quota (state_seen v) (state_seen w) met.1 (leads_on v w (record { follows = b.follows; trail = b.trail })),
          )),
    )

pub returns-clause-own : goal.returns-clause-own
returns-clause-own g c =
    let self = c.args.self.now in
    let items = self.members.items in
    let new = c.meet_on_all.new.members.items in
    let t = c.turn-turn.result in
    let u = c.end_all-ended.new.turn in
    let v = c.meet_on_all.new.turn in
    let w = c.begin_ready-begun.new.turn in
    let e = c.end_all-ended.ensures in
    let m = c.meet_on_all.ensures in
    let b = c.begin_ready-begun.ensures in
    let own : t.own ≡ self.pass.own = c.turn-turn.ensures.own ∙ ap (λ (x : PassView). x.own) c.take.ensures.taken in
    let ended = theirs_then items new self.pass t u (theirs_itself items new self.pass t own) (theirs_turns items new t u e.adds) e.follows in
    let met = theirs_then items new self.pass u v ended m.own m.goes.follows in
    subst (AddsTheirOwn items new self.pass) (sym c.leave.ensures) (theirs_then items new self.pass v w met (theirs_turns items new v w b.adds) b.follows)

pub returns-clause-begun : goal.returns-clause-begun
returns-clause-begun g c =
    let self = c.args.self.now in
    let t = c.turn-turn.result in
    let u = c.end_all-ended.new.turn in
    let v = c.meet_on_all.new.turn in
    let b = c.begin_ready-begun.ensures in
    let from = subst (λ (y : PassView). Follows y t) c.take.ensures.taken c.turn-turn.ensures.follows in
    let met = follows_then self.pass u v (follows_then self.pass t u from c.end_all-ended.ensures.follows) c.meet_on_all.ensures.goes.follows in
    subst (λ (y : PassView). HasBegunLast c.begin_ready-begun.result.0 self.pass y) (sym c.leave.ensures)
    (v, met, b.adds, b.made)
