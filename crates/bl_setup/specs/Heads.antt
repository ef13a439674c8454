-- What the first two lines of a file declare, and what the others do.
use Rattle.std.specs.Prelude.{◌≡◌, ℕ, ◌≤◌, List, [], ◌∷◌, length}
use Rattle.bl_level.specs.Lexing.{Begins}
use Rattle.bl_level.specs.Table.{IsTable}
use Rattle.bl_level.specs.Scheme.{SchemeNames, IsScheme}
use Rattle.bl_setup.specs.Setup.{Setup}
use Rattle.bl_setup.specs.Grammar.{Spells, Leads}
use Rattle.bl_declare.specs.Declaration.{Declaration, ranks, categories, spell_declaration}

-- 1 to 16 names, none of them twice
pub record AreRanks (names : List (List ℕ)) : Type 0 where
  pub some : 1 ≤ length names
  pub fit : length names ≤ 16
  pub table : IsTable names

-- the line declares these ranks
pub record DeclaresRanks (line : List ℕ) (names : List (List ℕ)) : Type 0 where
  pub lowest : List ℕ
  pub higher : List (List ℕ)
  pub is : names ≡ lowest ∷ higher
  pub spelled : Begins line (spell_declaration (ranks lowest higher)) []
  pub fit : AreRanks names

-- the line declares the categories of a scheme of these ranks
pub record DeclaresCategories (line : List ℕ) (names : List (List ℕ)) (scheme : SchemeNames) : Type 0 where
  pub words : List (List ℕ)
  pub is : scheme ≡ record { ranks = names; categories = words }
  pub spelled : Begins line (spell_declaration (categories words)) []
  pub whole : IsScheme scheme

-- the first two of the lines declare the scheme, and then come the rest
pub record BeginsWith (lines rest : List (List ℕ)) (scheme : SchemeNames) : Type 0 where
  pub first : List ℕ
  pub second : List ℕ
  pub names : List (List ℕ)
  pub split : lines ≡ first ∷ second ∷ rest
  pub ranks : DeclaresRanks first names
  pub categories : DeclaresCategories second names scheme

-- the lines lead from one setup to the other
pub record Remain (lines : List (List ℕ)) (before after : Setup) : Type 0 where
  pub declarations : List Declaration
  pub spelled : Spells lines declarations
  pub leads : Leads before declarations after
