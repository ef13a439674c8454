use Rattle.std.proofs.Common.{◌≡◌, ◌+◌, suc, refl, inl, inr, arith, subst}
use Rattle.bl_state.specs.Whole.{IsWhole}
use Rattle.bl_chain.specs.AtHand.{judged_setup}
use Rattle.bl_chain.proofs.Exits.{silent, told}
use Rattle.bl_chain.proofs.Looking.{behind-next, unclosed-run}
use Rattle.bl_chain.proofs.look.look_named.Goals as goal

pub returns-in_err-left : goal.returns-in_err-left
returns-in_err-left g c = record {
  same = c.in_err-left.ensures.same;
  looked = silent _ _ _ c.from_residual.ensures.1;
  whole = silent _ _ _ c.from_residual.ensures.1;
  fault = told _ _ _ c.from_residual.ensures.1 (λ before is gapless has. c.in_err-left.ensures.fault before is gapless);
}

pub returns-in-Closed : goal.returns-in-Closed
returns-in-Closed g c =
    let next : c.args.last + 1 ≡ suc c.args.last = omega arith in
    record {
      same = c.in_ok-left.ensures.same;
      looked = λ before is gapless has lines.
          let judged = rw c.in-Closed.is at (c.in_ok-left.ensures.judged before is) in
          behind-next before.seen _ c.args.last judged.0 c.in-Closed.left c.args.text.now c.args.next next refl refl c.is_some.ensures gapless judged.1 has judged.2 lines;
      whole = subst (λ judged. IsWhole (judged_setup judged)) c.in-Closed.is c.in_ok-left.ensures.whole;
      fault = tt;
    }

pub returns-in-Open : goal.returns-in-Open
returns-in-Open g c = record {
  same = c.in_ok-left.ensures.same;
  looked = tt;
  whole = tt;
  fault = λ before is gapless has.
      let judged = rw c.in-Open.is at (c.in_ok-left.ensures.judged before is) in
      inr (inl (unclosed-run before.seen c.args.last c.in-Open.setup c.args.text.now judged.0 has judged.1));
}
