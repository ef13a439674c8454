-- Sets of numbers, kept as words of 64 bits.
use Rattle.std.specs.Prelude.{◌≡◌, ◌≢◌, ℕ, ◌*◌, ◌/◌, ◌%◌, ◌<◌, ◌≤◌, Option, Some, None, List, length, slice_index_or}
use Rattle.std.specs.Int.{bit_at}

-- three rows of bits, the uppermost of which is one word
abbrev pub most_numbers : ℕ
most_numbers = 262144

-- 1 for a member, and 0 for each other number
unfoldable pub mark : List ℕ → ℕ → ℕ
mark words n = bit_at (slice_index_or words (n / 64) 0) (n % 64)

-- the set with one member more
pub record IsMarked (before : List ℕ) (n : ℕ) (now : List ℕ) : Type 0 where
  pub size : length now ≡ length before
  pub there : mark now n ≡ 1
  pub others : (m : ℕ) → m ≢ n → mark now m ≡ mark before m

-- the set without this number
pub record IsUnmarked (before : List ℕ) (n : ℕ) (now : List ℕ) : Type 0 where
  pub size : length now ≡ length before
  pub gone : mark now n ≡ 0
  pub others : (m : ℕ) → m ≢ n → mark now m ≡ mark before m

-- the word of this number has no member, or one
abbrev pub IsWordEmpty : List ℕ → ℕ → Type 0
IsWordEmpty words n = (m : ℕ) → m / 64 ≡ n / 64 → mark words m ≡ 0

abbrev pub IsWordLeft : List ℕ → ℕ → Type 0
IsWordLeft words n = (m : ℕ) × (m / 64 ≡ n / 64) × (mark words m ≡ 1)

-- a member from this number on, before which there is none
pub record IsFirstMember (words : List ℕ) (from n : ℕ) : Type 0 where
  pub behind : from ≤ n
  pub there : mark words n ≡ 1
  pub least : (m : ℕ) → from ≤ m → m < n → mark words m ≡ 0

-- the first member from a number on, where there is one
abbrev pub IsFirst : List ℕ → ℕ → Option ℕ → Type 0
IsFirst words from None = (m : ℕ) → from ≤ m → mark words m ≡ 0
IsFirst words from (Some n) = IsFirstMember words from n

-- the same among the numbers of its word
abbrev pub IsFirstInWord : List ℕ → ℕ → Option ℕ → Type 0
IsFirstInWord words from None = (m : ℕ) → from ≤ m → m / 64 ≡ from / 64 → mark words m ≡ 0
IsFirstInWord words from (Some n) = IsFirstMember words from n × (n / 64 ≡ from / 64)

-- the members of the row above are the numbers of the words of the row below that have members
pub record IsOver (below above : List ℕ) : Type 0 where
  pub up : (n : ℕ) → mark below n ≡ 1 → mark above (n / 64) ≡ 1
  pub down : (k : ℕ) → mark above k ≡ 1 → (n : ℕ) × (n / 64 ≡ k) × (mark below n ≡ 1)
  pub room : length below ≤ 64 * length above
