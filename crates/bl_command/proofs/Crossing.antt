-- A file of the system may go to another thread.
use denote.RattleType.{RattleType}
use denote.Param.Send.{IsSend, sendable}
use Rattle.std.proofs.Crossing.{crosses}
use Rattle.bl_file.specs.contracts.device.SystemFile.{the_row}

pub file_send : (F : RattleType) → IsSend F → IsSend (the_row F)
file_send F file = search (crosses, sendable) depth 60 fits 20000
