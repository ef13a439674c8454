use Rattle.std.proofs.Common.{inl, refl, subst, sym}
use Rattle.bl_disk.specs.File.{File, seen}
use Rattle.bl_record.specs.Torn.{IsTornHead, head_front}
use Rattle.bl_journal_files.proofs.make.fresh_journal.Goals as goal

-- a new file has nothing
pub returns-in-Ok-clause-torn : goal.returns-in-Ok-clause-torn
returns-in-Ok-clause-torn g c = subst (λ (file : File). IsTornHead (seen file)) (sym c.in-Ok.ensures.empty) (inl (head_front, refl))
