-- What a session sees of the machine behind it, and what is known of its two ends.
use Rattle.std.specs.Prelude.{ℕ, List, Option}
use Rattle.bl_engine.specs.Requests.{Request}

-- the text of the replies to each ordinal as things stand, up to which ordinals they stand for good, and what may have
-- been told to bring the machine here
pub record View : Type 1 where
  pub replies : ℕ → List ℕ
  pub settled : ℕ → Type 0
  pub came : List Request → Type 0

-- what is seen of a machine, part by part
abbrev pub seen : (ℕ → List ℕ) → (ℕ → Type 0) → (List Request → Type 0) → View
seen replies settled came = record { replies = replies; settled = settled; came = came }

-- what is known of the bytes at both ends: those to be read at first and those that rest, those written at first and
-- those kept now
pub record Ends : Type 0 where
  pub start : Option (List ℕ)
  pub rest : Option (List ℕ)
  pub first : Option (List ℕ)
  pub kept : Option (List ℕ)

abbrev pub ends : (start rest first kept : Option (List ℕ)) → Ends
ends start rest first kept = record { start = start; rest = rest; first = first; kept = kept }
