use Rattle.std.proofs.Common.{◌≡◌, ◌++◌, false, drop}
use Rattle.bl_level.specs.LevelText.{held_names}
use Rattle.bl_level.specs.LevelFronts.{tail_of}
use Rattle.bl_level.proofs.scheme.Scheme.write_categories.Given as goal

-- what was written and what is still to be written are the whole
abbrev pub invariant-loop-place : goal.invariant-loop-place
invariant-loop-place l =
    l.text.items ++ tail_of l.opened (held_names l.level l.place (drop l.place l.self.categories))
    ≡ l.initial.text.items ++ tail_of false (held_names l.level 0 l.self.categories)
