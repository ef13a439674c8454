-- What a run of a chain has left, as its call gives it.
use Rattle.bl_disk.specs.File.{File}
use Rattle.bl_trail_run.specs.Files.{file_in, is_whole}
use Rattle.bl_serving.specs.Chained.{RunLeft}
use Rattle.bl_serving.specs.declared.chained.ChainedRun.{ChainedRun}

abbrev pub left_of : {D : Type 0} → (D → File) → ChainedRun D → RunLeft
left_of now run = record {
  status = run.recorded.status;
  whole = is_whole run.recorded.file;
  file = file_in now run.recorded.file;
  hall = run.hall;
}
