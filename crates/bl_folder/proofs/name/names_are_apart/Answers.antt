use Rattle.bl_folder.proofs.Parting.{name-apart}
use Rattle.bl_folder.proofs.name.names_are_apart.Goals as goal

pub returns : goal.returns
returns c = name-apart
