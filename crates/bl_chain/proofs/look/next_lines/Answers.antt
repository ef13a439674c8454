use Rattle.std.proofs.Common.{◌≡◌, ◌+◌, ◌∙◌, suc, ap, arith, Some, option_map}
use Rattle.bl_chain.specs.Refused.{whole_lines}
use Rattle.bl_chain.proofs.Exits.{of-call, silent, told}
use Rattle.bl_chain.proofs.Spans.{full}
use Rattle.bl_chain.proofs.look.next_lines.Goals as goal

pub returns-then-last-ge-MOST_RUN : goal.returns-then-last-ge-MOST_RUN
returns-then-last-ge-MOST_RUN g c = record {
  same = λ before is. is;
  room = tt;
  lines = tt;
  fault = λ before is gapless. full before.seen c.args.last gapless (omega arith);
}

pub returns-in_err-text : goal.returns-in_err-text
returns-in_err-text g c = record {
  same = c.in_err-text.ensures.same;
  room = silent _ _ _ c.from_residual.ensures.1;
  lines = silent _ _ _ c.from_residual.ensures.1;
  fault = told _ _ _ c.from_residual.ensures.1 (λ before is gapless. of-call c.in_err-text.field-0.0 c.in_err-text.ensures.fault before.seen);
}

pub returns-in_default : goal.returns-in_default
returns-in_default g c =
    let next : c.args.last + 1 ≡ suc c.args.last = omega arith in
    record {
      same = c.in_ok-text.ensures.same;
      room = omega arith;
      lines = λ before is.
          let none = rw (c.trail_part-file.ensures, next, c.in_default.is) at (c.in_ok-text.ensures.bytes before is) in
          ap (option_map whole_lines) none;
      fault = tt;
    }

pub returns : goal.returns
returns g c =
    let next : c.args.last + 1 ≡ suc c.args.last = omega arith in
    record {
      same = c.in_ok-text.ensures.same;
      room = omega arith;
      lines = λ before is.
          let some = rw (c.trail_part-file.ensures, next, c.in-Some.is) at (c.in_ok-text.ensures.bytes before is) in
          ap Some (c.count_lines.ensures ∙ ap whole_lines c.deref.ensures.value) ∙ ap (option_map whole_lines) some;
      fault = tt;
    }
