use Rattle.std.proofs.Common.{ℕ, length, ap, sym, subst, refl, ◌<◌, ◌-◌}
use Rattle.bl_queue.specs.declared.cown.Held.{Held}
use Rattle.bl_queue.specs.Holders.{Holders, held_at, cown_at, place_of, nowhere}
use Rattle.bl_queue.proofs.Release.{IsReleasing, some_holders, releasing_start, releasing_step, releasing_done, falls_later, can_grant, is_grantable}
use Rattle.bl_queue.proofs.cowns.Cowns.release.Goals as goal

pub leave-requires-clause-held : goal.leave-requires-clause-held
leave-requires-clause-held c = some_holders c.args.self.now (length c.args.self.now.waits) c.args.place c.requires.kept c.requires.place c.requires.holds

pub loop-first-init : goal.loop-first-init
loop-first-init c =
    let cown = ap (λ (h : Held). h.cown) c.claim-claim.ensures in
    subst (λ (k : ℕ). IsReleasing c.args.self.now c.args.place k c.leave.new.self) (sym cown)
    (subst (λ (s : Holders). IsReleasing c.args.self.now c.args.place (held_at c.args.self.now.claims c.args.place).cown s) (sym c.leave.ensures)
    (releasing_start c.args.self.now c.args.place c.requires.kept c.requires.settled c.requires.room c.requires.place c.requires.holds))

pub grant-requires : goal.grant-requires
grant-requires c =
    let granted = is_grantable c.loop-first.self c.claim-claim.result.cown c.in-Some.first c.loop-first.invariant.kept c.loop-first.invariant.known c.in-Some.ensures.first c.in-Some.ensures.may in
    let can = can_grant c.loop-first.self c.in-Some.first granted.0 c.loop-first.invariant.room in
    record { place = can.place; next = can.next; cown = can.cown; held = can.held; entry = can.entry; waits = can.waits; free = can.free }

pub loop-first-preserved : goal.loop-first-preserved
loop-first-preserved c =
    let granted = is_grantable c.loop-first.self c.claim-claim.result.cown c.in-Some.first c.loop-first.invariant.kept c.loop-first.invariant.known c.in-Some.ensures.first c.in-Some.ensures.may in
    subst (λ (s : Holders). IsReleasing c.args.self.now c.args.place c.claim-claim.result.cown s) (sym c.grant.ensures)
    (releasing_step c.args.self.now c.loop-first.self c.args.place c.claim-claim.result.cown c.in-Some.first c.loop-first.invariant
    granted.0 granted.1)

pub loop-first-smaller : goal.loop-first-smaller
loop-first-smaller c =
    let granted = is_grantable c.loop-first.self c.claim-claim.result.cown c.in-Some.first c.loop-first.invariant.kept c.loop-first.invariant.known c.in-Some.ensures.first c.in-Some.ensures.may in
    subst (λ (s : Holders). nowhere - place_of (cown_at s.cowns c.claim-claim.result.cown).first < nowhere - place_of (cown_at c.loop-first.self.cowns c.claim-claim.result.cown).first)
    (sym c.grant.ensures)
    (falls_later c.args.self.now c.loop-first.self c.args.place c.claim-claim.result.cown c.in-Some.first c.loop-first.invariant
    granted.0 granted.1)

pub returns-clause-settled : goal.returns-clause-settled
returns-clause-settled c =
    releasing_done c.args.self.now c.loop-first.self c.args.place c.claim-claim.result.cown c.loop-first.invariant (c.in_default.ensures.none refl)
