-- What a run begins with.
use Rattle.std.specs.Prelude.{ℕ, List}
use Rattle.bl_policy.specs.Policy.{SecurityPolicy}
use Rattle.bl_work.specs.Names.{KnownNames}
use Rattle.bl_setup.specs.declared.version.Version.{Version}

-- what a run begins with: the names, the policy, each document's content, and the version of trails by which the run is judged
pub record Setup : Type 0 where
  pub names : KnownNames
  pub policy : SecurityPolicy
  pub contents : List (List ℕ)
  pub version : Version

-- the same beginning of a run that is judged by this version
abbrev pub by_version : Version → Setup → Setup
by_version version setup = record setup { version = version }
