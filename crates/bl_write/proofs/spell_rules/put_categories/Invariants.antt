use Rattle.std.proofs.Common.{◌≡◌, drop}
use Rattle.std.specs.List.{fold}
use Rattle.bl_level.specs.LevelText.{held_names, spell_categories}
use Rattle.bl_write.proofs.RulesSpelled.{tokens_left}
use Rattle.bl_write.proofs.spell_rules.put_categories.Given as goal

-- what is put, and what is left, are all
abbrev pub invariant-loop-place : goal.invariant-loop-place
invariant-loop-place g l =
    fold g.S.Sink.taken l.sink (tokens_left l.opened (held_names l.level l.place (drop l.place l.scheme.categories)))
    ≡ fold g.S.Sink.taken l.initial.sink (spell_categories (held_names l.level 0 l.scheme.categories))
