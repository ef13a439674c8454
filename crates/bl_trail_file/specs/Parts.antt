-- The file that a trail is written to before it takes its name.
use Rattle.std.specs.Prelude.{◌≡◌, ◌⊎◌, ◌≤◌, ◌<◌, ◌+◌, ℕ, zero, suc, List, [], ◌∷◌, ◌++◌, codes, decimal, length, take}
use Rattle.std.specs.Path.{HasNoSlash, slash}
use Rattle.std.specs.Str.{IsCharBoundary}

-- own choice: what stands after the name, by the number of the try
abbrev pub part_suffix : ℕ → List ℕ
part_suffix zero = codes ".part"
part_suffix (suc zero) = codes ".part"
part_suffix (suc (suc n)) = codes ".part." ++ decimal (suc (suc n))

-- A path is its folder part, which is empty or ends with a slash, and then its last component, which has no slash
-- (POSIX, "Pathname").
pub record IsPath (path folder last : List ℕ) : Type 0 where
  pub is : path ≡ folder ++ last
  pub until_slash : (folder ≡ []) ⊎ ((above : List ℕ) × (folder ≡ above ++ slash ∷ []))
  pub no_slash : HasNoSlash last

-- own choice: A front of a component, after which so many bytes have room in the 255 that a component may have
-- (`NAME_MAX` of POSIX systems). It is all of the component where that has room; else it ends where a character does,
-- and leaves 3 bytes unused at most.
pub record IsFront (last : List ℕ) (room : ℕ) (front : List ℕ) : Type 0 where
  pub is : front ≡ take (length front) last
  pub boundary : IsCharBoundary last (length front)
  pub fits : length front + room ≤ 255
  pub all : length last + room ≤ 255 → front ≡ last
  pub least : 255 < length last + room → 252 ≤ length front + room

-- the path with its folder part whole, and of its last component such a front
pub record HasRoom (path : List ℕ) (room : ℕ) (cut : List ℕ) : Type 0 where
  pub folder : List ℕ
  pub last : List ℕ
  pub of : IsPath path folder last
  pub front : List ℕ
  pub kept : IsFront last room front
  pub is : cut ≡ folder ++ front

-- own choice: the name, its last component cut where there is no room for the suffix, and then the suffix
pub record IsPartName (name : List ℕ) (number : ℕ) (part : List ℕ) : Type 0 where
  pub cut : List ℕ
  pub room : HasRoom name (length (part_suffix number)) cut
  pub is : part ≡ cut ++ part_suffix number

-- own choice: a name beside this one, that of one of 99 tries
abbrev pub IsBeside : List ℕ → List ℕ → Type 0
IsBeside name part = (number : ℕ) × (1 ≤ number) × (number ≤ 99) × IsPartName name number part
