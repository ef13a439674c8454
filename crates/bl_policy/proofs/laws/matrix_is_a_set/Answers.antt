use Rattle.bl_policy.proofs.Triples.{same_members_set, in-put_in, in-take_out, in-without_document}
use Rattle.bl_policy.proofs.laws.matrix_is_a_set.Goals as goal

pub returns-clause-put_in : goal.returns-clause-put_in
returns-clause-put_in c = in-put_in

pub returns-clause-take_out : goal.returns-clause-take_out
returns-clause-take_out c = in-take_out

pub returns-clause-without_document : goal.returns-clause-without_document
returns-clause-without_document c = in-without_document

pub returns-clause-same : goal.returns-clause-same
returns-clause-same c = same_members_set
