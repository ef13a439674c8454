use Rattle.std.proofs.Common.{length}
use Rattle.bl_state.proofs.Standing.{StateLaws}
use Rattle.bl_state.proofs.Ending.{chained, replies-are}
use Rattle.bl_state.proofs.laws.runs_make_chains.Goals as goal

pub returns-clause-runs : goal.returns-clause-runs
returns-clause-runs c = chained laws c.what_is_at_hand_rests_on_ended_places.ensures.parents
  where
    laws : StateLaws
    laws = record {
      rules = record {
        put = c.matrix_is_a_set.ensures.put_in;
        out = c.matrix_is_a_set.ensures.take_out;
        without = c.matrix_is_a_set.ensures.without_document;
        none = c.rule_fault_is_the_first.ensures.none;
      };
      known = c.read_lines_are_known.ensures;
      stays = c.contents_stay_contents.ensures;
      asked = c.lines_are_readable.ensures;
      tasks = c.tasks_are_of_scripts.ensures;
      absent = c.absent_documents_are_empty.ensures.now;
    }

pub returns-clause-replies : goal.returns-clause-replies
returns-clause-replies c x session ordinal = replies-are x session ordinal (length x.order)
