use Rattle.bl_state.proofs.Standing.{StateLaws, whole-by, whole-now}
use Rattle.bl_state.proofs.laws.states_stay_whole.Goals as goal

laws : goal.After-absent_documents_are_empty → StateLaws
laws c = record {
  rules = record {
    put = c.matrix_is_a_set.ensures.put_in;
    out = c.matrix_is_a_set.ensures.take_out;
    without = c.matrix_is_a_set.ensures.without_document;
    none = c.rule_fault_is_the_first.ensures.none;
  };
  known = c.read_lines_are_known.ensures;
  stays = c.contents_stay_contents.ensures;
  asked = c.lines_are_readable.ensures;
  tasks = c.tasks_are_of_scripts.ensures;
  absent = c.absent_documents_are_empty.ensures.now;
}

pub returns-clause-now : goal.returns-clause-now
returns-clause-now c = whole-now (laws c)

pub returns-clause-as_two : goal.returns-clause-as_two
returns-clause-as_two c = whole-by (laws c)
