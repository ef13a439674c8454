use Rattle.std.proofs.Common.{sym, ◌∙◌, arith}
use Rattle.std.proofs.lemmas.Bool.{false≢true}
use Rattle.bl_read.proofs.RuleNames.{no_name, distinct_more, distinct_all, repeated_here}
use Rattle.bl_read.proofs.rules.check_once.Goals as goal

pub returns-then-has_name : goal.returns-then-has_name
returns-then-has_name c =
    repeated_here c.args.categories.now c.loop-i.i no_name (omega arith) c.loop-i.invariant (c.has_name.ensures.0 c.if-has_name.true)

pub loop-i-preserved : goal.loop-i-preserved
loop-i-preserved c =
    distinct_more c.args.categories.now c.loop-i.i no_name (omega arith) c.loop-i.invariant
    (λ there. false≢true (sym c.if-has_name.false ∙ c.has_name.ensures.1 there))

pub returns : goal.returns
returns c = distinct_all c.args.categories.now c.loop-i.i (omega arith) c.loop-i.invariant
