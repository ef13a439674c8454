use Rattle.std.proofs.Common.{inl}
use Rattle.bl_serving.proofs.at_end.serve_at_end.Goals as goal

pub returns-in-Ok-clause-run : goal.returns-in-Ok-clause-run
returns-in-Ok-clause-run g c = inl (record { told = c.in-Ok.ensures.ok.told; hosted = c.host_on.ensures.run })
