use Rattle.std.proofs.Common.{ℕ, List, length, map, ap, ◌∙◌}
use Rattle.bl_queue.specs.declared.entry.Seat.{Seat}
use Rattle.bl_queue.specs.Entries.{Entry}
use Rattle.bl_queue.specs.Queued.{Roster, longer, added}
use Rattle.bl_queue.specs.Seats.{entry_of}
use Rattle.bl_queue.proofs.Seats.{longer_entries, longer_places}
use Rattle.bl_queue.proofs.roster.Roster.add_claims.Goals as goal

pub returns-clause-others : goal.returns-clause-others
returns-clause-others c =
    let held = c.self.inside.holders.claims in
    let now = c.enter.new.self in
    let seats = c.self.inside.seats.items in
    let items = c.push_reserved.new.self.items in
    let make : List Entry → List ℕ → Roster = λ es ps. record { entries = es; places = ps; holders = now; front = c.self.inside.front; limit = c.self.inside.limit } in
    ap (λ (es : List Entry). make es (map (λ (s : Seat). s.place) items))
    (longer_entries held now.claims (length c.self.inside.holders.waits) c.count-place.result c.args.claims.now seats items c.enter.ensures.entered.claims c.count-place.ensures
    c.push_reserved.ensures.items c.self.invariant.within)
    ∙ ap (make (longer (map (entry_of held) seats) c.args.claims.now))
    (longer_places seats items c.count-place.result (length held) (length c.args.claims.now) c.count-place.ensures c.push_reserved.ensures.items)
    ∙ ap (λ (r : Roster). record (added r c.args.claims.now) { holders = now }) c.self.view_is
