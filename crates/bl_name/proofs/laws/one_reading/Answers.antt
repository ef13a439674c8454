use Rattle.bl_name.proofs.Readings.{one_reading}
use Rattle.bl_name.proofs.laws.one_reading.Goals as goal

pub returns : goal.returns
returns c = one_reading
