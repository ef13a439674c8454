-- The accesses of a `when` whose documents are known.
use Rattle.std.specs.Prelude.{List, All, Contains}
use Rattle.bl_work.specs.Names.{KnownNames}
use Rattle.bl_work.specs.Spelled.{SpelledAccess}
use Rattle.bl_work.specs.WhenFaults.{documents_in}

-- each access is of a document
abbrev pub AreOfDocuments : KnownNames → List SpelledAccess → Type 0
AreOfDocuments names accesses = All (Contains names.documents) (documents_in accesses)
