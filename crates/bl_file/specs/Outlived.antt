-- What was kept outlives: the end of the program, or the machine's too.
use Rattle.bl_file.specs.declared.kept.Keeping.{Keeping}
use Rattle.bl_file.specs.declared.kept.Keeping.TheVariants as asked
use Rattle.bl_file.specs.declared.kept.Kept.{Kept}
use Rattle.bl_file.specs.declared.kept.Kept.TheVariants as bytes
use Rattle.bl_file.specs.declared.kept.NamesKept.{NamesKept}
use Rattle.bl_file.specs.declared.kept.NamesKept.TheVariants as names

-- what bytes outlive that were kept so
abbrev pub outlives : Kept → Keeping
outlives bytes.Written = asked.Written
outlives (bytes.Synced disk) = asked.Synced

-- what names outlive that were kept so
abbrev pub names_outlive : NamesKept → Keeping
names_outlive names.Written = asked.Written
names_outlive (names.Synced disk) = asked.Synced
