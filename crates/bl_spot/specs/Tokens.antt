-- Which token of a declaration is asked.
use Rattle.std.specs.Prelude.{◌≡◌, ℕ, List, Some, slice_get}
use Rattle.bl_level.specs.Token.{Tok, name}
use Rattle.bl_setup.specs.FirstSetupFault.{Question, is_new, is_known}
use Rattle.bl_spot.specs.Asking.{Asking}

-- the name that a question is asked of
abbrev pub word_asked : Question → List ℕ
word_asked (is_new others word) = word
word_asked (is_known known word) = word

-- each question is asked of the name that stands behind so many tokens
abbrev pub AreOfTokens : List Tok → List Asking → Type 0
AreOfTokens tokens askings = (k : ℕ) (a : Asking) → slice_get askings k ≡ Some a → slice_get tokens a.token ≡ Some (name (word_asked a.question))
