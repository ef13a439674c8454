-- A file that a failed call leaves as it was.
use Rattle.std.proofs.Common.{◌≡◌, [], ◌∙◌, ap, append-nil, subst, sym}
use Rattle.bl_disk.specs.File.{File}
use Rattle.bl_disk_tests.specs.InMemory.{memory_now, memory_past}
use Rattle.bl_disk.specs.Moments.{Passes}
use Rattle.bl_disk_tests.specs.declared.memory.Memory.{Memory}
use Rattle.bl_record_tests.specs.OfFaulty.{faulty_now, faulty_past}
use Rattle.bl_record_tests.specs.declared.faulty.Faulty.{Faulty}

pub unmoved : (before after : Faulty) (P : File → Type 0) → after.memory ≡ before.memory → P (faulty_now before)
    → Passes faulty_now faulty_past before after P
unmoved before after P same holds = record {
  moments = [];
  longer = ap memory_past same ∙ sym (append-nil (faulty_past before));
  each = tt;
  last = subst (λ (m : Memory). P (memory_now m)) (sym same) holds;
}
