use Rattle.std.proofs.Common.{sym, arith}
use Rattle.bl_trail.proofs.Words.{found-first, found-none}
use Rattle.bl_trail.proofs.ask.word_len.Goals as goal

pub returns-in-Some : goal.returns-in-Some
returns-in-Some c = sym (found-first c.args.sign c.args.text.now c.in-Some.place c.in-Some.ensures.0.high c.in-Some.ensures.1 (λ i lt hit. c.in-Some.ensures.0.before i (omega arith) lt hit))

pub returns-in-None : goal.returns-in-None
returns-in-None c = sym (found-none c.args.sign c.args.text.now (λ i lt hit. c.in-None.ensures i (omega arith) lt hit))
