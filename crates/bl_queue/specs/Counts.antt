-- What the stored counts and the list of free entries tell.
use Rattle.std.specs.Prelude.{◌≡◌, ℕ, zero, suc, ◌<◌, ◌≤◌, Bool, true, false, ◌&&◌, ◌||◌, not, ◌==◌, List, length, slice_index}
use Rattle.bl_queue.specs.declared.cown.Held.{Held}
use Rattle.bl_queue.specs.Entries.{Entry, entry_at, is_ended, MayStart}
use Rattle.bl_queue.specs.Holders.{Holders, count_below, held_at, over_at}
use Rattle.bl_queue.specs.Queued.{waits_at}

-- of two claims of one cown, which they do not both share, the first is not over
abbrev pub blocks : List Held → List Bool → ℕ → ℕ → Bool
blocks claims over q p =
    ((held_at claims q).cown == (held_at claims p).cown) && (not ((held_at claims q).shared && (held_at claims p).shared) && not (over_at over q))

-- one of the claims below a place blocks this one
abbrev pub is_blocked_below : List Held → List Bool → ℕ → ℕ → Bool
is_blocked_below claims over p zero = false
is_blocked_below claims over p (suc q) = blocks claims over q p || is_blocked_below claims over p q

-- a claim of this entry that an earlier claim blocks
abbrev pub is_kept_back : List Held → List Bool → ℕ → ℕ → Bool
is_kept_back claims over n p = ((held_at claims p).entry == n) && is_blocked_below claims over p p

-- The count that is stored for an entry which has not ended is the number of its claims with an earlier claim of the same cown that
-- excludes them and is not over. The entries that wait and are listed as free are just those that may start, from the front on.
pub record CountsTell (entries : List Entry) (s : Holders) (front : ℕ) : Type 0 where
  pub counts : (n : ℕ) → n < length entries → is_ended (entry_at entries n).stand ≡ false
      → slice_index s.waits n ≡ count_below (is_kept_back s.claims s.over n) (length s.claims)
  pub listed : (n : ℕ) → MayStart entries n → (i : ℕ) × (front ≤ i) × (i < length s.free) × (slice_index s.free i ≡ n)
  pub ready : (i : ℕ) → i < length s.free → waits_at entries s.free i ≡ true → (front ≤ i) × MayStart entries (slice_index s.free i)
