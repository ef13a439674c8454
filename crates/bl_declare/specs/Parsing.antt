-- What each part of the parser answers.
use Rattle.std.specs.Prelude.{◌≡◌, ◌≢◌, ℕ, List, [], ◌∷◌, Some, None}
use Rattle.bl_level.specs.Token.{Tok, toks, name, text}
use Rattle.bl_policy.specs.declared.access.Mode.{Mode}
use Rattle.bl_declare.specs.Reading.{mode_of}
use Rattle.bl_declare.specs.declared.parser.Cursor.{Cursor}

-- the tokens that are left
abbrev pub left : Cursor → List Tok
left c = toks c.rest.now

-- the next token is not this one
abbrev pub IsNotAt : Tok → List Tok → Type 0
IsNotAt t [] = Unit {0}
IsNotAt t (u ∷ us) = u ≢ t

-- the next token is no name
abbrev pub IsNoName : List Tok → Type 0
IsNoName (name n ∷ ts) = ⊥
IsNoName _ = Unit {0}

-- the next token is no text
abbrev pub IsNoText : List Tok → Type 0
IsNoText (text x ∷ ts) = ⊥
IsNoText _ = Unit {0}

-- the next token is no letter
abbrev pub IsNoMode : List Tok → Type 0
IsNoMode (name n ∷ ts) = mode_of n ≡ None
IsNoMode _ = Unit {0}

-- the next token is a letter of this mode, and these stand behind it
abbrev pub BeginsWithMode : List Tok → Mode → List Tok → Type 0
BeginsWithMode ts m rest = (n : List ℕ) × (ts ≡ name n ∷ rest) × (mode_of n ≡ Some m)
