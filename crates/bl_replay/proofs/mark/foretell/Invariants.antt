use Rattle.std.proofs.Common.{◌≡◌, ℕ, List, length}
use Rattle.bl_replay.specs.Findings.{AreFindings}
use Rattle.bl_replay.specs.Marks.{Finding, first_end, mark_in, unless_marked}
use Rattle.bl_replay.proofs.mark.foretell.Given as goal

-- whatever the lines that are left find, the whole text finds what the marks say, and of what they leave open what those lines say
abbrev pub invariant-lines : goal.invariant-lines
invariant-lines l =
    (more : List Finding) → AreFindings l.rest more
    → (found : List Finding) × AreFindings l.text found × ((k : ℕ) → first_end found k ≡ unless_marked (mark_in l.marks.items k) (first_end more k))

abbrev pub decreases-lines : goal.decreases-lines
decreases-lines l = length l.rest
