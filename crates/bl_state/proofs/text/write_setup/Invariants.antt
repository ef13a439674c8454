use Rattle.std.proofs.Common.{◌≡◌, ◌++◌}
use Rattle.bl_state.specs.Texts.{setup_text}
use Rattle.bl_state.proofs.Spelling.{IsThere, left_text, lines_left}
use Rattle.bl_state.proofs.text.write_setup.Given as goal

-- what is written, and what is left, are all
abbrev pub invariant-lines : goal.invariant-lines
invariant-lines l = (l.bytes.items ++ left_text l.setup l.next ≡ setup_text l.setup) × IsThere l.setup l.next

abbrev pub decreases-lines : goal.decreases-lines
decreases-lines l = lines_left l.setup l.next
