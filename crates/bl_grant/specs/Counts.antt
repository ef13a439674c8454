-- How many grants a behaviour has.
use Rattle.std.specs.Prelude.{◌≤◌, length}
use Rattle.bl_work.specs.Script.{most_accesses}
use Rattle.bl_grant.specs.declared.grants.Grants.TheInside.{Inside}

-- there are not too many grants
pub record AreFew (g : Inside) : Type 0 where
  pub few : length g.grants.items ≤ most_accesses
