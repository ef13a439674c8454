use Rattle.std.specs.Prelude.{string_bytes}
use Rattle.bl_doors.proofs.Speaking.{speaks_for}
use Rattle.bl_doors.proofs.laws.a_greeting_speaks_for_its_subject.Goals as goal

pub returns-clause-name : goal.returns-clause-name
returns-clause-name c = speaks_for c.canonical_reads_again.ensures c.one_answer.ensures.asked c.one_answer.ensures.either

-- by the name of the folder
pub returns-clause-door : goal.returns-clause-door
returns-clause-door c names place = speaks_for c.canonical_reads_again.ensures c.one_answer.ensures.asked c.one_answer.ensures.either names (string_bytes place.name)
