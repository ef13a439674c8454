use Rattle.std.proofs.Common.{◌≡◌, ℕ, ◌<◌, List, length, map, set, ap, sym, subst, ◌∙◌, arith}
use Rattle.std.proofs.lemmas.List.{length-map}
use Rattle.bl_queue.specs.declared.entry.Seat.{Seat}
use Rattle.bl_queue.specs.Entries.{Entry}
use Rattle.bl_queue.specs.Queued.{Roster, moved}
use Rattle.bl_queue.specs.Seats.{entry_of}
use Rattle.bl_queue.proofs.Seats.{moved_entries, moved_places}
use Rattle.bl_queue.proofs.roster.Roster.set_stand.Goals as goal

pub returns : goal.returns
returns c =
    let held = c.self.inside.holders.claims in
    let seats = c.self.inside.seats.items in
    let s = c.index_mut-seat.result.now in
    let known : c.args.n < length (map (entry_of held) seats) = subst (λ (r : Roster). c.args.n < length r.entries) (sym c.self.view_is) c.requires in
    let size : length (map (entry_of held) seats) ≡ length seats = length-map seats (entry_of held) in
    let lt : c.args.n < length seats = omega (arith, known, size) in
    let now : Seat = record { place = s.place; count = s.count; stand = c.args.stand } in
    let make : List Entry → List ℕ → Roster = λ es ps. record { entries = es; places = ps; holders = c.self.inside.holders; front = c.self.inside.front; limit = c.self.inside.limit } in
    ap (λ (es : List Entry). make es (map (λ (x : Seat). x.place) (set seats c.args.n now))) (moved_entries held seats c.args.n s c.args.stand lt c.index_mut-seat.ensures.value)
    ∙ ap (make (moved (map (entry_of held) seats) c.args.n c.args.stand)) (moved_places seats c.args.n s c.args.stand c.index_mut-seat.ensures.value)
    ∙ ap (λ (r : Roster). record r { entries = moved r.entries c.args.n c.args.stand }) c.self.view_is
