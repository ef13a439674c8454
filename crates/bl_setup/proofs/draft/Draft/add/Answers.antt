use Rattle.std.proofs.Common.{rules}
use Rattle.bl_declare.specs.Words.{document_text}
use Rattle.bl_setup.proofs.WholeLemmas.{content_proper}
use Rattle.bl_setup.proofs.draft.Draft.add.Goals as goal

pub add_document-requires-clause-plain : goal.add_document-requires-clause-plain
add_document-requires-clause-plain c = content_proper (document_text c.in-Document.document) (rw c.in-Document.is at c.requires.proper)

pub returns-in-Ranks-clause-ok : goal.returns-in-Ranks-clause-ok
returns-in-Ranks-clause-ok c = search rules

pub returns-in-Ranks-2-clause-ok : goal.returns-in-Ranks-2-clause-ok
returns-in-Ranks-2-clause-ok c = search rules
