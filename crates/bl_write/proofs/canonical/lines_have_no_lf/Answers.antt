use Rattle.std.proofs.Common.{[]}
use Rattle.std.specs.Prelude.{◌≢◌}
use Rattle.std.proofs.lemmas.List.Elements.{All-nil}
use Rattle.bl_work.specs.Grammar.{spell}
use Rattle.bl_write.proofs.PlainLines.{tokens_plain}
use Rattle.bl_write.proofs.canonical.lines_have_no_lf.Goals as goal

pub returns : goal.returns
returns c names bytes line is = tokens_plain (spell is.spelled) bytes [] is.reads (All-nil (λ b. b ≢ 10))
