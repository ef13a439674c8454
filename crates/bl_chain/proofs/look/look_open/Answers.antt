use Rattle.std.proofs.Common.{◌∙◌, ap, sym, subst, Some}
use Rattle.bl_state.specs.Whole.{IsWhole}
use Rattle.bl_folder.specs.Names.{trail_part_of}
use Rattle.bl_chain.proofs.Exits.{err-so, of-call, ok-so, silent, told}
use Rattle.bl_chain.proofs.Looking.{is-none, open-none}
use Rattle.bl_chain.proofs.look.look_open.Goals as goal

pub returns-in_err-text : goal.returns-in_err-text
returns-in_err-text g c = record {
  same = c.in_err-text.ensures.same;
  looked = silent _ _ _ c.from_residual.ensures.1;
  whole = silent _ _ _ c.from_residual.ensures.1;
  fault = told _ _ _ c.from_residual.ensures.1 (λ before is gapless none lines. of-call c.in_err-text.field-0.0 c.in_err-text.ensures.fault before.seen);
}

pub returns-in_err-setup : goal.returns-in_err-setup
returns-in_err-setup g c = record {
  same = λ before is. c.in_err-setup.ensures.same before (c.in_ok-text.ensures.same before is);
  looked = silent _ _ _ c.from_residual-in_err-setup.ensures.1;
  whole = silent _ _ _ c.from_residual-in_err-setup.ensures.1;
  fault = told _ _ _ c.from_residual-in_err-setup.ensures.1
      (λ before is gapless none lines. c.in_err-setup.ensures.fault before (c.in_ok-text.ensures.same before is) gapless.is_last.has);
}

pub returns-in_default : goal.returns-in_default
returns-in_default g c = record {
  same = λ before is. c.in_ok-setup.ensures.same before (c.in_ok-text.ensures.same before is);
  looked = ok-so c.opened.result c.opened.ensures.looked (λ looked f before is gapless none lines.
      let begun = c.in_ok-setup.ensures.setup before (c.in_ok-text.ensures.same before is) in
      let nothing = sym (rw (c.trail_part-journal.ensures, c.in_default.is) at (c.in_ok-text.ensures.bytes before is)) in
      f before.seen (open-none before.seen c.args.last c.in_ok-setup.setup gapless begun none nothing) lines
      (is-none (before.seen (trail_part_of c.args.last)) nothing));
  whole = ok-so c.opened.result c.opened.ensures.setup (λ looked e. subst IsWhole (sym e) c.in_ok-setup.ensures.whole);
  fault = err-so c.opened.result c.opened.ensures.fault (λ fault f before is gapless none lines.
      let begun = c.in_ok-setup.ensures.setup before (c.in_ok-text.ensures.same before is) in
      let nothing = sym (rw (c.trail_part-journal.ensures, c.in_default.is) at (c.in_ok-text.ensures.bytes before is)) in
      f before.seen (open-none before.seen c.args.last c.in_ok-setup.setup gapless begun none nothing) lines);
}

pub returns : goal.returns
returns g c = record {
  same = λ before is. c.look_begun.ensures.same before (c.in_ok-text.ensures.same before is);
  looked = ok-so c.look_begun.result c.look_begun.ensures.looked (λ looked f before is gapless none lines.
      let has = sym (rw (c.trail_part-journal.ensures, c.in-Some.is) at (c.in_ok-text.ensures.bytes before is)) in
      f before (c.in_ok-text.ensures.same before is) gapless (none, has ∙ ap Some (sym c.deref.ensures.value)) lines);
  whole = c.look_begun.ensures.whole;
  fault = err-so c.look_begun.result c.look_begun.ensures.fault (λ fault f before is gapless none lines.
      let has = sym (rw (c.trail_part-journal.ensures, c.in-Some.is) at (c.in_ok-text.ensures.bytes before is)) in
      f before (c.in_ok-text.ensures.same before is) gapless (none, has ∙ ap Some (sym c.deref.ensures.value)) lines);
}
