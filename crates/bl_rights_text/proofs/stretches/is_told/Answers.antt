use Rattle.std.proofs.Common.{ap, not, sym, ◌∙◌}
use Rattle.bl_rights_text.proofs.Told.{told-where}
use Rattle.bl_rights_text.proofs.stretches.is_told.Goals as goal

pub returns : goal.returns
returns c = ap not c.is_empty.ensures ∙ sym (told-where c.args.text.now)
