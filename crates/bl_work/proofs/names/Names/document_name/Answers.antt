use Rattle.std.proofs.Common.{rules}
use Rattle.bl_work.proofs.names.Names.document_name.Goals as goal

pub returns : goal.returns
returns c = search rules
