use Rattle.std.specs.Prelude.{option_copied}
use Rattle.bl_write.proofs.Matches.{left-quoted}
use Rattle.bl_write.proofs.matching.after_token.Goals as goal

pub returns-in-Text : goal.returns-in-Text
returns-in-Text c =
    rw c.in-Text.is (left-quoted c.in-Text.words.now (option_copied c.args.text) _ _ _ c.after-rest.ensures c.after-rest-in-Text.ensures c.after-in-Text.ensures)
