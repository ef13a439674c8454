use Rattle.std.proofs.Common.{ℕ, rules, sym, subst, ◌⊎◌}
use Rattle.std.specs.Prelude.{◌↔◌}
use Rattle.bl_level.specs.Level.{SecurityLevel, HasCategory, Dominates}
use Rattle.bl_level.proofs.Dominance.{join-above_first, join-above_second, join-least, join-union}
use Rattle.bl_level.proofs.level.Level.join.Goals as goal

-- the level is the join; the rest is what the join is
pub returns-clause-value : goal.returns-clause-value
returns-clause-value c = search rules

pub returns-clause-above_self : goal.returns-clause-above_self
returns-clause-above_self c = subst (λ (l : SecurityLevel). Dominates l c.args.self.now) (sym (returns-clause-value c)) (join-above_first c.args.self.now c.args.other.now)

pub returns-clause-above_other : goal.returns-clause-above_other
returns-clause-above_other c = subst (λ (l : SecurityLevel). Dominates l c.args.other.now) (sym (returns-clause-value c)) (join-above_second c.args.self.now c.args.other.now)

pub returns-clause-least : goal.returns-clause-least
returns-clause-least c =
    subst (λ (l : SecurityLevel). (above : SecurityLevel) → Dominates above c.args.self.now → Dominates above c.args.other.now → Dominates above l)
    (sym (returns-clause-value c)) (join-least c.args.self.now c.args.other.now)

pub returns-clause-union : goal.returns-clause-union
returns-clause-union c =
    subst (λ (l : SecurityLevel). (k : ℕ) → HasCategory l k ↔ (HasCategory c.args.self.now k ⊎ HasCategory c.args.other.now k))
    (sym (returns-clause-value c)) (join-union c.args.self.now c.args.other.now)
