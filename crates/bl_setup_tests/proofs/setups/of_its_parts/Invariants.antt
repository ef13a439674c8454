use Rattle.std.proofs.Common.{◌≡◌, take}
use Rattle.bl_setup_tests.proofs.setups.of_its_parts.Given as goal

-- the contents so far are shared
abbrev pub invariant-loop-content : goal.invariant-loop-content
invariant-loop-content l = l.contents.items ≡ take l.content-index l.setup.contents
