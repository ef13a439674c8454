-- That a setup is one whole, and the setup that a scheme alone is.
use Rattle.std.specs.Prelude.{◌≡◌, ℕ, [], length, slice_index_or}
use Rattle.bl_level.specs.Scheme.{SchemeNames}
use Rattle.bl_setup.specs.Setup.{Setup}
use Rattle.bl_setup.specs.declared.version.Version.TheVariants.{Two}
use Rattle.bl_policy.specs.Policy.{no_policy}
use Rattle.bl_policy.specs.Properties.{IsPresent}

-- the policy and the contents are of the subjects and documents that have names, and a document that is not present is empty
pub record Agree (setup : Setup) : Type 0 where
  pub subjects : length setup.names.subjects ≡ length setup.policy.subjects
  pub documents : length setup.names.documents ≡ length setup.policy.documents
  pub presence : length setup.names.documents ≡ length setup.policy.present
  pub contents : length setup.names.documents ≡ length setup.contents
  pub absent : (o : ℕ) → ¬ IsPresent setup.policy o → slice_index_or setup.contents o [] ≡ []

-- a setup that has a scheme alone; own choice: what is read is judged by version 2
abbrev pub of_scheme : SchemeNames → Setup
of_scheme scheme = record { names = record { scheme = scheme; subjects = []; documents = [] }; policy = no_policy; contents = []; version = Two }
