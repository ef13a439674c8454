-- Some text reads as a work exactly where what it names is there and its canonical text is short.
use Rattle.std.specs.Prelude.{◌↔◌}
use Rattle.bl_work.specs.declared.work.Work.{Work}
use Rattle.bl_work.specs.declared.work.Work.TheVariants.{Behaviour, Rule}
use Rattle.bl_work.specs.Names.{KnownNames, AreNames}
use Rattle.bl_work.specs.Readable.{IsReadable}
use Rattle.bl_work.proofs.AskedScripts.{CanonicalIsShortest, ReadTokensAreProper, asked_script}
use Rattle.bl_write.specs.Known.{canonical_script, canonical_rule, IsKnownWork}
use Rattle.bl_write.proofs.Knowing.{line_known}
use Rattle.bl_write.proofs.ReadAgain.{CanonicalReadsAgain, script_reads_again}
use Rattle.bl_write.proofs.RulesWritten.{rule_known, rule_reads_again}

pub readable_is_known : CanonicalReadsAgain → CanonicalIsShortest → ReadTokensAreProper → (names : KnownNames) (work : Work) → AreNames names
    → IsReadable names work ↔ IsKnownWork names work
readable_is_known again shortest proper names (Behaviour script) table = (
  λ (bytes, l).
      let known = line_known shortest names bytes script l in
      record { there = (asked_script shortest proper names bytes script l, known.there); short = known.short },
  λ known. (canonical_script names script, script_reads_again again names script table known.there.0 (record { there = known.there.1; short = known.short })),
)
readable_is_known again shortest proper names (Rule r) table = (
  λ (bytes, l).
      let known = rule_known shortest names bytes r table l in
      record { there = known.there; short = known.short },
  λ known. (canonical_rule names r, rule_reads_again again proper names r table (record { there = known.there; short = known.short })),
)
