use Rattle.std.proofs.Common.{◌≡◌, ◌+◌, ◌≤◌, ◌∙◌, length, ap, arith}
use Rattle.std.proofs.lemmas.List.Edits.{length-remove}
use Rattle.bl_rounds.specs.Seats.{Table}
use Rattle.bl_host.proofs.attend.Attendant.see_all_off.Goals as goal

-- one less is left with each that is seen off
pub loop-preserved : goal.loop-preserved
loop-preserved g c =
    let out = c.in-Some.ensures.out in
    let same = c.see_off.ensures.rounds in
    let seats = ap (λ (table : Table). length table.seats) same in
    let removed = ap length out.seats in
    let short = length-remove c.loop.self.rounds.seats out.i out.within in
    let at = c.loop.invariant.less in
    record {
      first = ap (λ (table : Table). table.first) same ∙ out.first ∙ c.loop.invariant.first;
      less = omega arith;
    }
