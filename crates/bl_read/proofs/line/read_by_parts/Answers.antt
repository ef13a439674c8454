use Rattle.std.proofs.Common.{sym, subst}
use Rattle.bl_syntax.specs.RawView.{raw_view}
use Rattle.bl_work.specs.LineGrammar.{Means}
use Rattle.bl_read.proofs.Meanings.{only_of}
use Rattle.bl_read.proofs.line.read_by_parts.Goals as goal

pub returns-in-Ok-clause-only : goal.returns-in-Ok-clause-only
returns-in-Ok-clause-only c line read =
    only_of c.args.names.now (raw_view c.in-Ok.raw) c.asked.result c.asked.ensures.found c.asked.ensures.fault line
    (subst (λ s. Means c.args.names.now s line) (sym (c.in-Ok.ensures.only read.spelled read.reads)) read.means)
