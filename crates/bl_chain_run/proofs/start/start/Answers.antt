use Rattle.bl_chain.proofs.Exits.{by-folder, silent, told}
use Rattle.bl_chain_run.proofs.start.start.Goals as goal

pub returns-in_err-lock : goal.returns-in_err-lock
returns-in_err-lock g c = record {
  begins = silent _ _ _ c.from_residual.ensures.1;
  journal = silent _ _ _ c.from_residual.ensures.1;
  whole = silent _ _ _ c.from_residual.ensures.1;
  sound = silent _ _ _ c.from_residual.ensures.1;
  fresh = silent _ _ _ c.from_residual.ensures.1;
  begun = silent _ _ _ c.from_residual.ensures.1;
  fault = told _ _ _ c.from_residual.ensures.1 (λ before is. by-folder _ before.seen);
}

pub returns-in_err-looked : goal.returns-in_err-looked
returns-in_err-looked g c = record {
  begins = silent _ _ _ c.from_residual-in_err-looked.ensures.1;
  journal = silent _ _ _ c.from_residual-in_err-looked.ensures.1;
  whole = silent _ _ _ c.from_residual-in_err-looked.ensures.1;
  sound = silent _ _ _ c.from_residual-in_err-looked.ensures.1;
  fresh = silent _ _ _ c.from_residual-in_err-looked.ensures.1;
  begun = silent _ _ _ c.from_residual-in_err-looked.ensures.1;
  fault = told _ _ _ c.from_residual-in_err-looked.ensures.1 (λ before is. c.in_err-looked.ensures.fault before (c.lock.ensures before is));
}

pub returns-in-Ok : goal.returns-in-Ok
returns-in-Ok g c = record {
  begins = λ before is.
      let there = c.lock.ensures before is in
      let looked = c.in_ok-looked.ensures.looked before there in
      let made = c.in-Ok.ensures.ready before (c.in_ok-looked.ensures.same before there) looked in
      record { lag = c.in_ok-looked.looked.lag; begins = looked.begins; ready = made.ready };
  journal = λ before is.
      let there = c.lock.ensures before is in
      let looked = c.in_ok-looked.ensures.looked before there in
      (c.in-Ok.ensures.ready before (c.in_ok-looked.ensures.same before there) looked).journal;
  whole = c.in_ok-looked.ensures.whole;
  sound = c.in-Ok.ensures.sound;
  fresh = c.resumes-resumes.ensures.torn;
  begun = λ resumes before is. (c.in_ok-looked.ensures.looked before (c.lock.ensures before is)).journal.0 (c.resumes-resumes.ensures.begun resumes);
  fault = tt;
}

pub returns-in-Err : goal.returns-in-Err
returns-in-Err g c = record { begins = tt; journal = tt; whole = tt; sound = tt; fresh = tt; begun = tt; fault = λ before is. c.in-Err.ensures.fault before.seen }
