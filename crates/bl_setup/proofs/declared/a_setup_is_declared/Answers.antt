use Rattle.bl_setup.proofs.DeclaredLemmas.{setup_is_declared}
use Rattle.bl_setup.proofs.declared.a_setup_is_declared.Goals as goal

pub returns : goal.returns
returns c = setup_is_declared
