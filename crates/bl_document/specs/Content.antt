-- What a document may hold.
use Rattle.std.specs.Prelude.{ℕ, ◌≤◌, Bool, ◌&&◌, not, ◌==◌, nat_le, List, ◌++◌, take, length, IsTrue}
use Rattle.std.specs.List.{list_all}

-- own choice: a printable ASCII byte other than `"` and `\`
abbrev pub is_content_byte : ℕ → Bool
is_content_byte b = nat_le 32 b && nat_le b 126 && not (b == 34) && not (b == 92)

-- own choice: the greatest length of a content
abbrev pub most_bytes : ℕ
most_bytes = 65536

-- the bytes are a content: not too many, and each may stand in one
pub record IsContent (bytes : List ℕ) : Type 0 where
  pub short : length bytes ≤ most_bytes
  pub plain : IsTrue (list_all is_content_byte bytes)

-- the first so many of the bytes are a content
pub record HasContent (len : ℕ) (bytes : List ℕ) : Type 0 where
  pub within : len ≤ length bytes
  pub content : IsContent (take len bytes)

-- own choice: a content with an addition at its end, cut at the greatest length, so that who adds learns nothing of it
unfoldable pub added : List ℕ → List ℕ → List ℕ
added content text = take most_bytes (content ++ text)
