use Rattle.std.proofs.Common.{◌≡◌, ◌+◌, suc, refl, arith, sym, subst}
use Rattle.bl_state.specs.Whole.{IsWhole}
use Rattle.bl_folder.specs.Names.{trail_part_of}
use Rattle.bl_chain.specs.AtHand.{judged_setup}
use Rattle.bl_chain.proofs.Exits.{err-so, ok-so, silent, told}
use Rattle.bl_chain.proofs.Looking.{behind-name, is-some, open-some}
use Rattle.bl_chain.proofs.look.look_begun.Goals as goal

pub returns-in_err-left : goal.returns-in_err-left
returns-in_err-left g c = record {
  same = c.in_err-left.ensures.same;
  looked = silent _ _ _ c.from_residual.ensures.1;
  whole = silent _ _ _ c.from_residual.ensures.1;
  fault = told _ _ _ c.from_residual.ensures.1 (λ before is gapless alone lines. c.in_err-left.ensures.fault before is gapless);
}

pub returns-in-Closed : goal.returns-in-Closed
returns-in-Closed g c =
    let next : c.args.last + 1 ≡ suc c.args.last = omega arith in
    record {
      same = c.in_ok-left.ensures.same;
      looked = λ before is gapless alone lines.
          let judged = rw c.in-Closed.is at (c.in_ok-left.ensures.judged before is) in
          behind-name before.seen _ c.args.last judged.0 c.in-Closed.left c.args.text.now c.args.next next refl refl c.is_some.ensures gapless judged.1 alone.0 alone.1 judged.2 lines;
      whole = subst (λ judged. IsWhole (judged_setup judged)) c.in-Closed.is c.in_ok-left.ensures.whole;
      fault = tt;
    }

pub returns-in-Open : goal.returns-in-Open
returns-in-Open g c =
    let whole = subst (λ judged. IsWhole (judged_setup judged)) c.in-Open.is c.in_ok-left.ensures.whole in
    record {
      same = c.in_ok-left.ensures.same;
      looked = ok-so c.opened.result c.opened.ensures.looked (λ looked f before is gapless alone lines.
          let judged = rw c.in-Open.is at (c.in_ok-left.ensures.judged before is) in
          f before.seen (open-some before.seen c.args.last c.in-Open.setup c.args.text.now gapless judged.0 alone.0 alone.1 judged.1) lines
          (is-some (before.seen (trail_part_of c.args.last)) c.args.text.now alone.1));
      whole = ok-so c.opened.result c.opened.ensures.setup (λ looked e. subst IsWhole (sym e) whole);
      fault = err-so c.opened.result c.opened.ensures.fault (λ fault f before is gapless alone lines.
          let judged = rw c.in-Open.is at (c.in_ok-left.ensures.judged before is) in
          f before.seen (open-some before.seen c.args.last c.in-Open.setup c.args.text.now gapless judged.0 alone.0 alone.1 judged.1) lines);
    }
