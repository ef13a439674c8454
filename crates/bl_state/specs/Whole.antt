-- Which setups have a text that reads as them.
use Rattle.std.specs.Prelude.{◌≡◌, ◌<◌, length, IsTrue}
use Rattle.std.specs.List.{AllByRecursion}
use Rattle.bl_level.specs.Level.{Dominates}
use Rattle.bl_level.specs.Scheme.{SchemeNames, HoldsLevel}
use Rattle.bl_policy.specs.Matrix.{Triple, is_in}
use Rattle.bl_policy.specs.Policy.{Clearance}
use Rattle.bl_work.specs.Content.{IsContent}
use Rattle.bl_work.specs.Names.{AreNames}
use Rattle.bl_setup.specs.Agreement.{Agree}
use Rattle.bl_setup.specs.Setup.{Setup}
use Rattle.bl_setup.specs.declared.version.Version.TheVariants.{Two}

-- the levels of a subject are the scheme's, and the greatest dominates the current one
pub record IsCleared (scheme : SchemeNames) (c : Clearance) : Type 0 where
  pub greatest : HoldsLevel scheme c.greatest
  pub current : HoldsLevel scheme c.current
  pub dominates : Dominates c.greatest c.current

-- Own choice: a setup is whole where lines can declare it. Its names are names, its levels are the scheme's, its contents can be quoted,
-- a run over it is judged by version 2, and each cell with a right is of a subject and a document that have names.
pub record IsWhole (setup : Setup) : Type 0 where
  pub names : AreNames setup.names
  pub agree : Agree setup
  pub cleared : AllByRecursion (IsCleared setup.names.scheme) setup.policy.subjects
  pub held : AllByRecursion (HoldsLevel setup.names.scheme) setup.policy.documents
  pub contents : AllByRecursion IsContent setup.contents
  pub two : setup.version ≡ Two
  pub cells : (t : Triple) → IsTrue (is_in setup.policy.matrix t)
      → (t.subject < length setup.names.subjects) × (t.document < length setup.names.documents)
