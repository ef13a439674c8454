-- A run of a chain that follows another one.
use Rattle.std.specs.Prelude.{◌≡◌, ◌≢◌, ◌+◌, ℕ, List, [], Some}
use Rattle.bl_folder.specs.Names.{trail_part_of}
use Rattle.bl_folder.specs.Standing.{Standing}
use Rattle.bl_folder.specs.declared.name.RunFile.{RunFile}
use Rattle.bl_chain_run.specs.Writing.{IsNamed, IsWritten}
use Rattle.bl_hall.specs.Chronicle.{Chronicle, state_now}
use Rattle.bl_order.specs.Standing.{HaveAllEnded, setup_now}
use Rattle.bl_setup.specs.Setup.{Setup}
use Rattle.bl_state.specs.Whole.{IsWhole}

-- what stands where all in a hall has ended
pub record IsLeftBy (hall : Chronicle) (setup : Setup) : Type 0 where
  pub ended : HaveAllEnded (state_now hall)
  pub is : setup ≡ setup_now (state_now hall)
  pub whole : IsWhole setup

-- The setup of the next run is in its file, and its journal is there with nothing in it, all on the disk.
pub record IsBegunNext (run : ℕ) (setup : Setup) (before after : Standing) : Type 0 where
  pub between : Standing
  pub written : IsWritten (run + 1) setup before between
  pub made : after.seen (trail_part_of (run + 1)) ≡ Some []
  pub others : (other : RunFile) → other ≢ trail_part_of (run + 1) → after.seen other ≡ between.seen other
  pub kept : after.kept ≡ after.seen

-- The trail of the run has its name, and then the next run is begun.
pub record IsChangedOver (run : ℕ) (trail : List ℕ) (setup : Setup) (before after : Standing) : Type 0 where
  pub named : Standing
  pub first : IsNamed run (Some trail) before named
  pub then : IsBegunNext run setup named after
