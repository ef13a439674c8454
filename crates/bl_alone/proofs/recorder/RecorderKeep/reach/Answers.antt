use Rattle.bl_alone.proofs.Causes.{caused_in}
use Rattle.bl_alone.proofs.Leaving.{grown_of}
use Rattle.bl_alone.proofs.recorder.RecorderKeep.reach.Goals as goal

pub keep_up-requires-clause-goes_on : goal.keep_up-requires-clause-goes_on
keep_up-requires-clause-goes_on g c fine = (c.requires.0, c.requires.1.2, grown_of c.requires.0 c.args.hall.now c.requires.2)

pub returns-in-Err-Memory-clause-kept : goal.returns-in-Err-Memory-clause-kept
returns-in-Err-Memory-clause-kept g c before recorded front = (
  (c.in-Err-Memory.ensures.any_moment before recorded.2 (grown_of before c.args.hall.now front)).last,
  caused_in _ _ _ c.in-Err-Memory.ensures.fault (c.in-Err-Memory.ensures.cause recorded.0),
)

pub returns-in-Err-Device-clause-kept : goal.returns-in-Err-Device-clause-kept
returns-in-Err-Device-clause-kept g c before recorded front = (
  (c.in-Err-Device.ensures.any_moment before recorded.2 (grown_of before c.args.hall.now front)).last,
  caused_in _ _ _ c.in-Err-Device.ensures.fault (c.in-Err-Device.ensures.cause recorded.0),
)
