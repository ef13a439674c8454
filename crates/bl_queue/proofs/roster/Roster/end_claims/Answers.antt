use Rattle.std.proofs.Common.{◌≡◌, ◌+◌, ◌≤◌, ℕ, false, List, length, map, slice_index, ap, sym, subst, ◌∙◌, arith}
use Rattle.bl_queue.specs.declared.cown.Held.{Held}
use Rattle.bl_queue.specs.declared.entry.Seat.{Seat}
use Rattle.bl_queue.specs.Seats.{entry_of}
use Rattle.bl_queue.specs.Holders.{held_at, over_at, AreHeld, AreSettled, IsEnding}
use Rattle.bl_queue.specs.Queued.{Roster}
use Rattle.bl_queue.proofs.roster.Roster.end_claims.Goals as goal

pub release_all-requires : goal.release_all-requires
release_all-requires c =
    let range : c.place-first.result + c.claim_count-count.result ≤ length c.args.self.now.holders.claims =
    omega (arith, c.place-first.ensures, c.claim_count-count.ensures, c.requires.range) in
    record {
      kept = subst (λ (r : Roster). AreHeld r.holders (length r.holders.waits)) (sym c.self.view_is) c.requires.kept;
      settled = subst (λ (r : Roster). AreSettled r.holders) (sym c.self.view_is) c.requires.settled;
      room = subst (λ (r : Roster). length r.holders.waits ≤ r.holders.limit) (sym c.self.view_is) c.requires.room;
      range = subst (λ (r : Roster). c.place-first.result + c.claim_count-count.result ≤ length r.holders.claims) (sym c.self.view_is) range;
      free = λ p le lt. subst (λ (r : Roster). (slice_index r.holders.waits (held_at r.holders.claims p).entry ≡ 0) × (over_at r.holders.over p ≡ false)) (sym c.self.view_is)
          (c.requires.free p (omega (arith, le, c.place-first.ensures)) (omega (arith, lt, c.place-first.ensures, c.claim_count-count.ensures)));
    }

pub returns-clause-ended : goal.returns-clause-ended
returns-clause-ended c =
    subst (λ (n : ℕ). IsEnding c.args.self.now.holders (slice_index c.args.self.now.places c.args.n) (slice_index c.args.self.now.places c.args.n + n) c.release_all.new.self)
    c.claim_count-count.ensures
    (subst (λ (f : ℕ). IsEnding c.args.self.now.holders f (f + c.claim_count-count.result) c.release_all.new.self) c.place-first.ensures
    (subst (λ (r : Roster). IsEnding r.holders c.place-first.result (c.place-first.result + c.claim_count-count.result) c.release_all.new.self) c.self.view_is c.release_all.ensures))

pub returns-clause-others : goal.returns-clause-others
returns-clause-others c =
    let seats = c.self.inside.seats.items in
    let make : List Held → Roster = λ held.
    record {
      entries = map (entry_of held) seats;
      places = map (λ (s : Seat). s.place) seats;
      holders = c.release_all.new.self;
      front = c.self.inside.front;
      limit = c.self.inside.limit;
    } in
    ap make c.release_all.ensures.claims ∙ ap (λ (r : Roster). record r { holders = c.release_all.new.self }) c.self.view_is
