-- The head of a journal of which a crash left a first part.
use Rattle.std.specs.Prelude.{◌≡◌, ◌≢◌, ◌⊎◌, ℕ, List, [], ◌++◌, codes, decimal}
use Rattle.bl_setup.specs.declared.version.Version.TheVariants.{Two}
use Rattle.bl_trail.specs.TrueText.{IsLimit, head_lines, joined}

-- what a head begins with, before its limit
abbrev pub head_front : List ℕ
head_front = codes "trail 2\nlimit "

-- Own choice: a head is torn where there is a first part of what it begins with, which may be nothing or all of that;
-- or that and the numeral of a limit, and no LF behind it.
abbrev pub IsTornHead : List ℕ → Type 0
IsTornHead text = ((missing : List ℕ) × (head_front ≡ text ++ missing))
    ⊎ ((limit : ℕ) × IsLimit limit × (text ≡ head_front ++ decimal limit))

-- the text is a first part of the head of a journal of version 2, and not all of it
pub record IsFrontOfHead (text : List ℕ) : Type 0 where
  pub limit : ℕ
  pub is_limit : IsLimit limit
  pub missing : List ℕ
  pub some : missing ≢ []
  pub split : joined (head_lines Two limit) ≡ text ++ missing
