use Rattle.bl_session.proofs.TrailLaws.{is_run, turns_stand, small_turns, first_turns}
use Rattle.bl_wire.specs.Lines.{lines_of}
use Rattle.bl_engine.proofs.Breaking.{heard_front}
use Rattle.bl_session.proofs.laws.one_is_a_trail.Goals as goal

pub returns : goal.returns
returns c =
    let run = is_run c.steps_lead_on.ensures.next c.the_order_has_room.ensures.order c.headline.ensures.throughout c.each_state_holds.ensures in
    record {
      turns = run;
      served = λ setup limit reader writer agree served.
          run setup limit served.fate served.turns agree (turns_stand setup.names (lines_of served.bytes) served.turns served.are)
          (small_turns setup.names served.bytes served.turns served.are served.within);
      cut = λ setup limit fault reader writer agree cut.
          let heard = first_turns setup.names cut.read.bytes cut.read.part cut.heard cut.turns cut.read.are cut.read.within (heard_front fault cut.heard cut.turns cut.heard_is) in
          run setup limit cut.fate cut.heard agree heard.0 heard.1;
    }
