-- What a line asks to be run is a script.
use Rattle.std.proofs.Common.{ℕ, ◌≤◌, List, [], length, sym, subst, arith, lit≤}
use Rattle.bl_level.specs.Canonical.{canonical}
use Rattle.bl_level.specs.Lexing.{Begins}
use Rattle.bl_level.specs.Name.{AreProper}
use Rattle.bl_level.specs.Token.{Tok}
use Rattle.bl_work.specs.declared.asked.Line.TheVariants as line
use Rattle.bl_work.specs.declared.work.Work.TheVariants.{Behaviour}
use Rattle.bl_work.specs.Grammar.{SpelledLine, hello, wait, when, rule, spell}
use Rattle.bl_work.specs.LineGrammar.{most_line_bytes, Means, LineOf}
use Rattle.bl_work.specs.Names.{KnownNames}
use Rattle.bl_work.specs.Script.{IsScript}
use Rattle.bl_work.specs.Spelled.{spell_when}
use Rattle.bl_work.specs.Statements.{Part}
use Rattle.bl_work.proofs.Behaviours.{when_is_script}
use Rattle.bl_work.proofs.Texts.{line_contents}

-- what the laws of tokens say
abbrev pub CanonicalIsShortest : Type 0
CanonicalIsShortest = (ts : List Tok) (bytes rest : List ℕ) → Begins bytes ts rest → length (canonical ts) ≤ length bytes

abbrev pub ReadTokensAreProper : Type 0
ReadTokensAreProper = (bytes rest : List ℕ) (ts : List Tok) → Begins bytes ts rest → AreProper ts

pub asked_script : CanonicalIsShortest → ReadTokensAreProper → (names : KnownNames) (bytes : List ℕ) (script : List Part)
    → LineOf names bytes (line.Work (Behaviour script)) → IsScript script
asked_script shortest proper names bytes script l = go l.spelled l.reads l.means
  where
    go : (spelled : SpelledLine) → Begins bytes (spell spelled) [] → Means names spelled (line.Work (Behaviour script)) → IsScript script
    go (hello name) reads means = absurd means
    go wait reads means = absurd means
    go (when first more body) reads (faultless, is) =
        let short : length (canonical (spell_when first more body)) ≤ most_line_bytes = omega (arith, shortest (spell_when first more body) bytes [] reads, l.short) in
        let contents = line_contents (when first more body) most_line_bytes (lit≤ tt) (proper bytes [] (spell_when first more body) reads) short in
        subst IsScript (sym is) (when_is_script names first more body faultless contents)
    go (rule asked) reads means = absurd means
