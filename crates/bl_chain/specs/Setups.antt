-- The setups of runs, by the files that stand.
use Rattle.std.specs.Prelude.{◌≡◌, ℕ, ◌≤◌, List, Some, IsSome}
use Rattle.bl_setup.specs.Grammar.{IsSetupWithin}
use Rattle.bl_setup.specs.Setup.{Setup}
use Rattle.bl_state.specs.Texts.{most_text_bytes}
use Rattle.bl_folder.specs.Names.{setup_of}
use Rattle.bl_folder.specs.Standing.{Contents}

-- the file of a run's setup is the text of this one
pub record IsSetupOf (there : Contents) (run : ℕ) (setup : Setup) : Type 0 where
  pub text : List ℕ
  pub has : there (setup_of run) ≡ Some text
  pub is : IsSetupWithin most_text_bytes text setup

-- it is the lowest number of a run whose setup is there
pub record IsFirst (there : Contents) (first : ℕ) : Type 0 where
  pub has : IsSome (there (setup_of first))
  pub least : (run : ℕ) → IsSome (there (setup_of run)) → first ≤ run
