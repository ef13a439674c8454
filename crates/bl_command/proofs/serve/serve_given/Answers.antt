use Rattle.std.proofs.Common.{◌∙◌, ap, sym}
use Rattle.bl_command.specs.Asked.{keeping_asked}
use Rattle.bl_command.proofs.Sessions.{none_is_no_keeping}
use Rattle.bl_command.proofs.serve.serve_given.Goals as goal

-- the trail is not written at the end
pub returns-in-Some-clause-at_end : goal.returns-in-Some-clause-at_end
returns-in-Some-clause-at_end g c is = absurd (none_is_no_keeping c.in-Some.keeping (sym (ap keeping_asked is) ∙ (sym c.outlives-kept.ensures ∙ c.in-Some.is)))
