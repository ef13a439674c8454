use Rattle.bl_order.proofs.ClaimLaws.{conflict-numbered, few-numbered, known-numbered}
use Rattle.bl_order.proofs.laws.claims_go_by_number.Goals as goal

pub returns : goal.returns
returns c = record { conflict = conflict-numbered; apart = few-numbered; known = known-numbered }
