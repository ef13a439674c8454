-- The head of a trail's text.
use Rattle.std.specs.Prelude.{◌≡◌, ◌≤◌, ℕ, List, ◌++◌, codes, decimal}
use Rattle.bl_setup.specs.Setup.{Setup}
use Rattle.bl_setup.specs.declared.version.Version.{Version}
use Rattle.bl_trail.specs.TrueText.{FirstWrong, IsLimit, head_lines, joined, version_line}
use Rattle.bl_trail.specs.Versions.{HasSetup}
use Rattle.bl_trail.specs.declared.head.Head.{Head}
use Rattle.bl_trail.specs.declared.head.Head.TheVariants.{Right, Wrong}

-- the line names no version that has the setup
abbrev pub IsNoVersionLine : Setup → List ℕ → Type 0
IsNoVersionLine setup line = (version : Version) → HasSetup version setup → line ≡ version_line version → ⊥

-- the line is the text of no limit
abbrev pub IsNoLimitLine : List ℕ → Type 0
IsNoLimitLine line = (limit : ℕ) → IsLimit limit → line ≡ codes "limit " ++ decimal limit → ⊥

-- the text begins with the head lines of a limit and a version that has the setup; or a line of its head, which has two,
-- is the first that is not right
abbrev pub IsHead : Setup → List ℕ → Head → Type 0
IsHead setup text (Right version limit rest) =
    HasSetup version setup × IsLimit limit × (text ≡ joined (head_lines version limit) ++ rest.now)
IsHead setup text (Wrong number) = FirstWrong setup text number × (number ≤ 2)
