-- The declaration that a value of the code stands for.
use Rattle.std.specs.Prelude.{ℕ, List, map, option_map}
use Rattle.std.specs.Borrow.{Bor}
use Rattle.bl_level.specs.LevelText.{LevelText}
use Rattle.bl_declare.specs.declared.declaration.LevelWords.{LevelWords}
use Rattle.bl_declare.specs.declared.declaration.SubjectWords.{SubjectWords}
use Rattle.bl_declare.specs.declared.declaration.DocumentWords.{DocumentWords}
use Rattle.bl_declare.specs.declared.declaration.AllowWords.{AllowWords}
use Rattle.bl_declare.specs.declared.declaration.Words.{Words}
use Rattle.bl_declare.specs.declared.declaration.Words.TheVariants as source
use Rattle.bl_declare.specs.Declaration.{Declaration, SubjectText, DocumentText, AllowText, ranks, categories, subject, document, allow}

abbrev pub names_of : List (Bor (List ℕ)) → List (List ℕ)
names_of = map (λ n. n.now)

abbrev pub level_text : LevelWords → LevelText
level_text l = record { rank = l.rank.now; categories = names_of l.categories.items }

abbrev pub subject_text : SubjectWords → SubjectText
subject_text s = record { name = s.name.now; greatest = level_text s.greatest; current = level_text s.current; trusted = s.trusted; admin = s.admin }

abbrev pub document_text : DocumentWords → DocumentText
document_text d = record { name = d.name.now; level = level_text d.level; content = option_map (λ x. x.now) d.content }

abbrev pub allow_text : AllowWords → AllowText
allow_text a = record { subject = a.subject.now; document = a.document.now; mode = a.mode; modes = a.modes.items }

abbrev pub declaration_of : Words → Declaration
declaration_of (source.Ranks lowest higher) = ranks lowest.now (names_of higher.items)
declaration_of (source.Categories names) = categories (names_of names.items)
declaration_of (source.Subject s) = subject (subject_text s)
declaration_of (source.Document d) = document (document_text d)
declaration_of (source.Allow a) = allow (allow_text a)
