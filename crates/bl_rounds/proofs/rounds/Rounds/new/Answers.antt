use Rattle.std.proofs.Common.{◌∙◌, ap, arith, length, sym}
use Rattle.bl_rounds.proofs.Going.{rest_first}
use Rattle.bl_rounds.proofs.rounds.Rounds.new.Goals as goal

pub invariant_of-result : goal.invariant_of-result
invariant_of-result g c =
    let crowd = c.new.result in
    let made = c.new.ensures in
    let none = ap length c.new-2.ensures.items in
    record {
      have = record {
        crowd_is = made.crowd;
        seated = none ∙ sym (crowd.members.ok.0 ∙ ap length made.none);
        stand = λ i d e low. absurd (omega (arith, none, low));
      };
      rest = rest_first crowd.first.value crowd.pass (made.pass.0 ∙ sym made.pass.1);
      opened = c.new-2.ensures.items;
    }
