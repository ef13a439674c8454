use Rattle.bl_order.specs.Machine.{is_lost}
use Rattle.bl_state.proofs.Alike.{goes-on-alike}
use Rattle.bl_state.proofs.Standing.{StateLaws, nothing-beyond, now-after}
use Rattle.bl_state.proofs.laws.runs_go_on_alike.Goals as goal

pub returns-clause-stands : goal.returns-clause-stands
returns-clause-stands c = now-after

pub returns-clause-alike : goal.returns-clause-alike
returns-clause-alike c x lost order reached all whole =
    goes-on-alike x.setup (is_lost x) x.order lost order (nothing-beyond laws x reached all whole)
  where
    laws : StateLaws
    laws = record {
      rules = record {
        put = c.matrix_is_a_set.ensures.put_in;
        out = c.matrix_is_a_set.ensures.take_out;
        without = c.matrix_is_a_set.ensures.without_document;
        none = c.rule_fault_is_the_first.ensures.none;
      };
      known = c.read_lines_are_known.ensures;
      stays = c.contents_stay_contents.ensures;
      asked = c.lines_are_readable.ensures;
      tasks = c.tasks_are_of_scripts.ensures;
      absent = c.absent_documents_are_empty.ensures.now;
    }
