-- The claims of a task by number, as queues over numbers know them.
use Rattle.std.specs.Prelude.{◌≢◌, ℕ, ◌+◌, ◌≤◌, Bool, ◌&&◌, not, ◌==◌, List, length, map, AllPairs}
use Rattle.std.specs.List.{list_any}
use Rattle.bl_order.specs.Order.{Cown, OfPolicy, OfDocument, Claim, Task, claims_of}

-- own choice: the policy is cown 0, and a document is the cown one above its place
abbrev pub cown_number : Cown → ℕ
cown_number OfPolicy = 0
cown_number (OfDocument doc) = doc + 1

-- a claim of a cown by its number, shared or alone
pub record NumberedClaim : Type 0 where
  pub cown : ℕ
  pub shared : Bool

abbrev pub numbered : Claim → NumberedClaim
numbered claim = record { cown = cown_number claim.cown; shared = not claim.exclusive }

-- the claims of a task, by number
abbrev pub numbered_claims : Task → List NumberedClaim
numbered_claims task = map numbered (claims_of task)

-- two of them are of one cown and not both shared
abbrev pub numbers_exclude : NumberedClaim → NumberedClaim → Bool
numbers_exclude a b = (a.cown == b.cown) && not (a.shared && b.shared)

-- a claim of the earlier task and one of the later task exclude each other
abbrev pub numbers_conflict : List NumberedClaim → List NumberedClaim → Bool
numbers_conflict earlier later = list_any (λ a. list_any (λ b. numbers_exclude a b) later) earlier

-- own choice: a behaviour declares at most 8 documents, and claims the policy besides
abbrev pub most_claims : ℕ
most_claims = 9

-- not too many claims, of different cowns
pub record AreFewAndApart (claims : List NumberedClaim) : Type 0 where
  pub few : length claims ≤ most_claims
  pub apart : AllPairs (λ (a b : NumberedClaim). a.cown ≢ b.cown) claims
