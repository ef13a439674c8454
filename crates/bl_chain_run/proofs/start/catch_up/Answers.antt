use Rattle.std.proofs.Common.{rules, ◌≡◌, ◌-◌, ◌<◌, arith}
use Rattle.std.proofs.lemmas.Result.{on_ok_weaker}
use Rattle.bl_chain.proofs.Exits.{silent, told}
use Rattle.bl_chain.specs.declared.look.Lag.TheVariants.{Nothing, NextSetup, Name}
use Rattle.bl_chain_run.proofs.Starting.{at-lag, named, stayed, wrote}
use Rattle.bl_chain_run.proofs.start.catch_up.Goals as goal

pub returns-in-Nothing : goal.returns-in-Nothing
returns-in-Nothing g c = record {
  caught_up = λ before is looked.
      let at = c.args.looked.now in
      at-lag g.F.Folder.stands before at.lag Nothing at.run at.setup _ c.in-Nothing.is (stayed g.F.Folder.stands before at.run at.setup _ is);
  fault = tt;
}

pub returns-in-NextSetup : goal.returns-in-NextSetup
returns-in-NextSetup g c = record {
  caught_up = λ before is looked.
      let at = c.args.looked.now in
      on_ok_weaker c.write_next.result
      (λ b. at-lag g.F.Folder.stands before at.lag NextSetup at.run at.setup _ c.in-NextSetup.is (wrote g.F.Folder.stands before at.run at.setup _ b))
      (c.write_next.ensures.written before is);
  fault = c.write_next.ensures.fault;
}

pub returns-in_err-name_left-in-Name : goal.returns-in_err-name_left-in-Name
returns-in_err-name_left-in-Name g c = record {
  caught_up = λ before is looked. silent _ _ _ c.from_residual.ensures.1;
  fault = told _ _ _ c.from_residual.ensures.1 c.in_err-name_left-in-Name.ensures.fault;
}

pub returns-in_ok-name_left-in-Name : goal.returns-in_ok-name_left-in-Name
returns-in_ok-name_left-in-Name g c =
    let at = c.args.looked.now in
    let last : c.saturating_sub.result ≡ at.run - 1 = search rules in
    record {
      caught_up = λ before is looked.
          let begins = rw c.in-Name.is at looked.begins in
          let some : 0 < at.run = omega (arith, begins.next) in
          let left = rw last at (c.in_ok-name_left-in-Name.ensures.named before is) in
          on_ok_weaker c.write_next-in-Name.result
          (λ b. at-lag g.F.Folder.stands before at.lag Name at.run at.setup _ c.in-Name.is
          (named g.F.Folder.stands before at.run at.setup _ _ some left b)) (c.write_next-in-Name.ensures.written left.standing left.is);
      fault = c.write_next-in-Name.ensures.fault;
    }
