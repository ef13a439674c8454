-- What a line of a trail asks, before anybody asks whether it is right.
use Rattle.std.specs.Prelude.{◌≡◌, ◌≢◌, ℕ, ◌<◌, ◌^◌, if◌then◌else◌, ◌==◌, List, [], ◌∷◌, ◌++◌, Option, Some, None}
use Rattle.std.specs.Prelude.{codes, decimal}
use Rattle.std.specs.List.{AllByRecursion}
use Rattle.std.specs.Borrow.{Bor}
use Rattle.bl_trail.specs.declared.ask.Ask.{Ask}
use Rattle.bl_trail.specs.declared.ask.Ask.TheVariants.{Opens, Admits, Starts, Ends, Loses, Nothing}

-- the bytes before the first one of a kind, and those behind it if there is one
abbrev pub before : ℕ → List ℕ → List ℕ
before sign [] = []
before sign (b ∷ bytes) = if b == sign then [] else b ∷ before sign bytes

abbrev pub behind : ℕ → List ℕ → Option (List ℕ)
behind sign [] = None
behind sign (b ∷ bytes) = if b == sign then Some bytes else behind sign bytes

-- no byte is of the kind
abbrev pub HasNo : ℕ → List ℕ → Type 0
HasNo sign = AllByRecursion (λ b. b ≢ sign)

-- a number that the bytes spell is read
abbrev pub ReadsNumber : List ℕ → Option ℕ → Type 0
ReadsNumber bytes read = (n : ℕ) → n < 2 ^ 32 → bytes ≡ decimal n → read ≡ Some n

-- a number with a space behind it, and what stands behind that, are read
abbrev pub ReadsNumbered : List ℕ → Option (ℕ × List ℕ) → Type 0
ReadsNumbered bytes read = (n : ℕ) (rest : List ℕ) → n < 2 ^ 32 → bytes ≡ decimal n ++ (32 ∷ rest)
    → read ≡ Some (n, rest)

-- an event, as a line asks for it
pub data Asked : Type 0 where
  opens : (name : List ℕ) → Asked
  admits : (session ordinal : ℕ) → (text : List ℕ) → Asked
  starts : (n : ℕ) → (words : List ℕ) → Asked
  ends : (n : ℕ) → Asked
  loses : (n : ℕ) → Asked
  nothing : Asked

abbrev pub asked_of : Ask → Asked
asked_of (Opens name) = opens name.now
asked_of (Admits session ordinal text) = admits session ordinal text.now
asked_of (Starts n words) = starts n words.now
asked_of (Ends n) = ends n
asked_of (Loses n) = loses n
asked_of Nothing = nothing

abbrev pub numbered_of : Option (ℕ × Bor (List ℕ)) → Option (ℕ × List ℕ)
numbered_of None = None
numbered_of (Some found) = Some (found.0, found.1.now)

-- a first word and what stands behind its space ask for this, where they are of an event
pub record IsAskedBy (word rest : List ℕ) (asked : Asked) : Type 0 where
  pub opened : word ≡ codes "open" → asked ≡ opens rest
  pub admitted : word ≡ codes "line" → (session ordinal : ℕ) (text : List ℕ) → session < 2 ^ 32 → ordinal < 2 ^ 32
      → rest ≡ decimal session ++ (32 ∷ (decimal ordinal ++ (32 ∷ text))) → asked ≡ admits session ordinal text
  pub started : word ≡ codes "start" → (n : ℕ) (words : List ℕ) → n < 2 ^ 32 → rest ≡ decimal n ++ (32 ∷ words)
      → asked ≡ starts n words
  pub ended : word ≡ codes "end" → (n : ℕ) (words : List ℕ) → n < 2 ^ 32 → rest ≡ decimal n ++ (32 ∷ words)
      → asked ≡ ends n
  pub lost : word ≡ codes "lost" → (n : ℕ) → n < 2 ^ 32 → rest ≡ decimal n → asked ≡ loses n

-- A line of an event asks for that event; what another line asks is not said.
abbrev pub IsAsked : List ℕ → Asked → Type 0
IsAsked line asked = (word : List ℕ) (rest : List ℕ) → HasNo 32 word → line ≡ word ++ (32 ∷ rest)
    → IsAskedBy word rest asked
