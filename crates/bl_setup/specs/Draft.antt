-- The setup that a draft stands for.
use Rattle.bl_setup.specs.declared.draft.Draft.{Draft}
use Rattle.bl_setup.specs.Setup.{Setup}
use Rattle.bl_setup.specs.declared.version.Version.TheVariants.{Two}

abbrev pub setup_of : Draft → Setup
setup_of d = record { names = d.names; policy = d.policy; contents = d.contents.items; version = Two }
