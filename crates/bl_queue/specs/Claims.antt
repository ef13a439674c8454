-- What an entry claims, and which entries may not run together.
use Rattle.std.specs.Prelude.{◌≢◌, ℕ, ◌<◌, ◌≤◌, Bool, ◌&&◌, not, ◌==◌, List, length, All, AllPairs}
use Rattle.std.specs.List.{list_any}
use Rattle.bl_queue.specs.declared.claim.Claim.{Claim}

-- Cheeseman et al. 2023: an entry holds cowns while it runs. Own choice: it holds a cown alone, or shared.
-- Two claims exclude each other where they are of one cown and not both shared.
abbrev pub excludes : Claim → Claim → Bool
excludes a b = (a.cown == b.cown) && not (a.shared && b.shared)

-- Conflict: a claim of the earlier entry and one of the later entry exclude each other
abbrev pub conflict : List Claim → List Claim → Bool
conflict earlier later = list_any (λ (a : Claim). list_any (λ (b : Claim). excludes a b) later) earlier

-- own choice: 9 claims of one entry
abbrev pub most_claims : ℕ
most_claims = 9

-- the claims that an entry may have: not too many, of known cowns, no two of one cown
pub record AreClaims (cowns : ℕ) (claims : List Claim) : Type 0 where
  pub few : length claims ≤ most_claims
  pub known : All (λ (c : Claim). c.cown < cowns) claims
  pub apart : AllPairs (λ (a b : Claim). a.cown ≢ b.cown) claims
