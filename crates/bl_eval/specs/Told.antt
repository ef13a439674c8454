-- How far a body has run.
use Rattle.std.specs.Prelude.{◌≡◌, List, map}
use Rattle.bl_work.specs.Statements.{Statements}
use Rattle.bl_work.specs.Few.{items_of}
use Rattle.bl_work.specs.Effects.{Effect, after, effects_from, outputs, children}
use Rattle.bl_grant.specs.Loaned.{Loaned, holding}
use Rattle.bl_grant.specs.Loans.{content_of}
use Rattle.bl_eval.specs.declared.told.Told.{Told}

-- the grants with each content after the effects
abbrev pub changed_by : List Loaned → List Effect → List Loaned
changed_by grants effects = map (λ (g : Loaned). holding g (after g.now effects g.access.doc)) grants

-- the grants and what was told are those after these effects, from these grants on
pub record IsAfter (start : List Loaned) (effects : List Effect) (grants : List Loaned) (told : Told) : Type 0 where
  pub contents : grants ≡ changed_by start effects
  pub shown : items_of told.shown ≡ outputs effects
  pub spawned : told.spawned.items ≡ children effects

-- wherever a run was after some effects, the body has run on after them
pub record HasRun (body : Statements) (grants : List Loaned) (told : Told) (grants_then : List Loaned) (told_then : Told) : Type 0 where
  pub on : (start : List Loaned) (so_far : List Effect) → IsAfter start so_far grants told
      → IsAfter start (effects_from (content_of start) so_far body) grants_then told_then
