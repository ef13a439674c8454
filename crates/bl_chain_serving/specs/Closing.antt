-- The journal of a run that was cut off, once it is closed.
use Rattle.std.specs.Prelude.{◌≡◌, ℕ, List}
use Rattle.bl_disk.specs.File.{File}
use Rattle.bl_hall.specs.Chronicle.{Chronicle}
use Rattle.bl_record.specs.Recovering.{IsResumed}
use Rattle.bl_setup.specs.Setup.{Setup}
use Rattle.bl_trail_run.specs.Recording.{IsWhole}

-- The hall is that of what was found, in which all has ended that was admitted, and the file has its trail, whole.
pub record IsClosedBy (setup : Setup) (found : List ℕ) (file : File) (hall : Chronicle) : Type 0 where
  pub cut : ℕ
  pub resumed : IsResumed setup found hall cut
  pub whole : IsWhole hall file
