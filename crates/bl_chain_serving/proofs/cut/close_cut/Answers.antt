use Rattle.bl_serving.proofs.Hosting.{grown_self}
use Rattle.bl_chain_serving.proofs.Words.{fault-behind, fault-told}
use Rattle.bl_chain_serving.proofs.cut.close_cut.Goals as goal

pub close_with-requires-clause-goes_on : goal.close_with-requires-clause-goes_on
close_with-requires-clause-goes_on g c = λ none.
    (c.in-Ok.begun.hall, c.in-Ok.ensures.recorded.2, grown_self c.in-Ok.begun.hall)

pub returns-in-Err-clause-told : goal.returns-in-Err-clause-told
returns-in-Err-clause-told g c =
    fault-told _ _ c.in-Err.fault c.end_with.result.status _ c.end_with.ensures.told.status_is c.end_with.ensures.puts

pub returns-in-Err-close_with-clause-told : goal.returns-in-Err-close_with-clause-told
returns-in-Err-close_with-clause-told g c =
    let end = c.end_with-in-Err-close_with in
    fault-behind _ _ _ end.result.status (_, c.tell_cut.ensures.puts)
    (fault-told _ _ c.of_end.result end.result.status _ end.ensures.told.status_is end.ensures.puts)
