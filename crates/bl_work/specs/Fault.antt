-- What the bytes of a line read as, and where their first fault is.
use Rattle.std.specs.Prelude.{◌≡◌, ℕ, ◌+◌, List, [], ◌∷◌, ◌++◌, length}
use Rattle.bl_level.specs.Token.{Tok}
use Rattle.bl_level.specs.Lexing.{Front, nothing, token, broken, front, Begins}
use Rattle.bl_work.specs.Grammar.{SpelledLine, spell, CanGoOn}

-- the bytes read as the line: they begin with its tokens, and nothing is left
abbrev pub ReadsAs : List ℕ → SpelledLine → Type 0
ReadsAs bytes line = Begins bytes (spell line) []

-- Behind these tokens stand these bytes, from whose front on so many are left at a fault: there are none, and no line ends here;
-- they begin no token, and the fault has its place in them; or they begin a token that no line goes on with.
abbrev pub FaultAt : List Tok → List ℕ → Front → ℕ → Type 0
FaultAt before rest nothing left = (left ≡ 0) × ((line : SpelledLine) → spell line ≡ before → ⊥)
FaultAt before rest (broken from) left = left ≡ length from
FaultAt before rest (token t more) left = (left ≡ length rest) × (CanGoOn (before ++ t ∷ []) → ⊥)

-- The first fault from the left is at this place: the tokens before it are ones that some line goes on with.
pub record SyntaxFault (bytes : List ℕ) (place : ℕ) : Type 0 where
  pub before : List Tok
  pub rest : List ℕ
  pub left : ℕ
  pub begins : Begins bytes before rest
  pub goes_on : CanGoOn before
  pub fault : FaultAt before rest (front rest) left
  pub place_is : place + left ≡ length bytes

-- no line ends behind these tokens; or none goes on with the one that comes next
abbrev pub Blocks : List Tok → List Tok → Type 0
Blocks before [] = (line : SpelledLine) → spell line ≡ before → ⊥
Blocks before (t ∷ more) = CanGoOn (before ++ t ∷ []) → ⊥

-- The first of these tokens that is at fault, from the left, has so many tokens from it on; none where the line ends too early.
pub record FirstTokenAtFault (tokens : List Tok) (left : ℕ) : Type 0 where
  pub before : List Tok
  pub after : List Tok
  pub split : tokens ≡ before ++ after
  pub left_is : length after ≡ left
  pub goes_on : CanGoOn before
  pub blocked : Blocks before after
