-- A history without its high places (Goguen and Meseguer 1982, noninterference: the commands of other users are
-- purged).
use Rattle.std.specs.Prelude.{◌≡◌, ℕ, zero, suc, Bool, false, ◌||◌, if◌then◌else◌, List, [], ◌∷◌, ◌++◌, length, map}
use Rattle.std.specs.Prelude.{slice_index_or}
use Rattle.bl_level.specs.Level.{SecurityLevel}
use Rattle.bl_setup.specs.Setup.{Setup}
use Rattle.bl_order.specs.Order.{Entry, Line, Child, is_rule, unnamed}
use Rattle.bl_order.specs.Past.{no_entry}
use Rattle.bl_flow.specs.Low.{History, place_in, is_low_place}

module _ (level : SecurityLevel) (history : History) where
  -- low places are kept, and so are all rules (own choice: the policy is known to everyone, and with it which documents
  -- are present)
  abbrev pub is_kept : ℕ → Bool
  is_kept n = is_rule (place_in history n).task || is_low_place level history n

  -- how many places before n are kept: where n stands among them, if it is kept
  abbrev pub kept_before : ℕ → ℕ
  kept_before zero = 0
  kept_before (suc n) = if is_kept n then suc (kept_before n) else kept_before n

  -- of what is said of each place before n, what is said of those that are kept, in order
  abbrev pub of_kept : {X : Type 0} → (ℕ → X) → ℕ → List X
  of_kept said zero = []
  of_kept said (suc n) = if is_kept n then of_kept said n ++ said n ∷ [] else of_kept said n

  -- a child names its parent by where that stands among those that are kept
  abbrev pub renumbered : Entry → Entry
  renumbered (Line session ordinal subject work) = Line session ordinal subject work
  renumbered (Child parent which) = Child (kept_before parent) which

  -- the entries that are kept
  abbrev pub kept_entries : List Entry
  kept_entries = of_kept (λ n. renumbered (slice_index_or history.order n no_entry)) (length history.order)

  -- the same without sessions and ordinals, which rest on who else connects, and on what else the speaker of a rule
  -- says
  abbrev pub kept_unnamed : List Entry
  kept_unnamed = map unnamed kept_entries

  -- whether each of them is lost
  abbrev pub kept_losses : List Bool
  kept_losses = of_kept history.lost (length history.order)

  -- the purged history: what is kept, from this setup on
  abbrev pub purged : Setup → History
  purged setup = record { setup = setup; lost = λ n. slice_index_or kept_losses n false; order = kept_entries }

-- The same is kept of both histories: but for sessions and ordinals the same entries in the same order, and the same of
-- them are lost.
pub record KeepTheSame (level : SecurityLevel) (one two : History) : Type 0 where
  pub entries : kept_unnamed level one ≡ kept_unnamed level two
  pub losses : kept_losses level one ≡ kept_losses level two
