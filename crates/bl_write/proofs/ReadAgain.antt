-- A script that the names know is read again from its canonical text.
use Rattle.std.proofs.Common.{◌≡◌, List, [], subst}
use Rattle.bl_level.specs.Canonical.{canonical}
use Rattle.bl_level.specs.Lexing.{Begins}
use Rattle.bl_level.specs.Name.{AreProper}
use Rattle.bl_level.specs.Token.{Tok}
use Rattle.bl_work.specs.declared.asked.Line.TheVariants as line
use Rattle.bl_work.specs.declared.work.Work.TheVariants.{Behaviour}
use Rattle.bl_work.specs.Grammar.{when}
use Rattle.bl_write.specs.Known.{IsKnownScript, canonical_script}
use Rattle.bl_work.specs.LineGrammar.{LineOf}
use Rattle.bl_work.specs.Meaning.{script_of}
use Rattle.bl_work.specs.Names.{KnownNames, AreNames}
use Rattle.bl_work.specs.Script.{IsScript}
use Rattle.bl_work.specs.Spelled.{spell_when}
use Rattle.bl_work.specs.Statements.{Part}
use Rattle.bl_write.specs.Unread.{unread}
use Rattle.bl_write.proofs.Faultless.{faultless_is, contents_are, when_proper}
use Rattle.bl_write.proofs.Reread.{script_is, names_known}

-- what a law of the tokens says
abbrev pub CanonicalReadsAgain : Type 0
CanonicalReadsAgain = (ts : List Tok) → AreProper ts → Begins (canonical ts) ts []

pub script_reads_again : CanonicalReadsAgain → (names : KnownNames) (script : List Part) → AreNames names → IsScript script → IsKnownScript names script
    → LineOf names (canonical_script names script) (line.Work (Behaviour script))
script_reads_again again names script table is known =
    let first = (unread names script).first in
    let more = (unread names script).more in
    let body = (unread names script).body in
    let same : script ≡ script_of names first more body = script_is names table.documents.distinct script is.preorder is.each known.there in
    let documents = names_known names table.documents.distinct script is.preorder is.each known.there in
    let own : IsScript (script_of names first more body) = subst IsScript same is in
    let proper = when_proper names table.documents.proper first more body documents (contents_are names first more body own documents) in
    record {
      short = known.short;
      spelled = when first more body;
      reads = again (spell_when first more body) proper;
      means = (faultless_is names first more body own documents, same);
    }
