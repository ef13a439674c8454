-- What a monitor that was told the first entries has answered, and which entry may come next.
use Rattle.std.specs.Prelude.{◌≡◌, ℕ, ◌<◌, Bool, List, length, map, slice_index_or, All}
use Rattle.bl_work.specs.declared.answer.Answer.{Answer}
use Rattle.bl_setup.specs.Setup.{Setup}
use Rattle.bl_order.specs.Known.{KnowsAnswer}
use Rattle.bl_order.specs.Order.{Entry}
use Rattle.bl_monitor.specs.Heard.{Heard, MayCome, answer_at}
use Rattle.bl_replay.specs.Kept.{entry_in, entry_told, place_in}
use Rattle.bl_replay.specs.Told.{IsTold}
use Rattle.bl_replay.specs.declared.place.Place.{Place}

-- The monitor was told the first entries of the order with the marks, and these are its answers.
pub record IsFed (setup : Setup) (marks : ℕ → Bool) (order : List Entry) (h : Heard)
    (answers : List Answer) : Type 0 where
  pub told : IsTold setup marks order h
  pub lost : length h.lost ≡ length h.order
  pub many : length answers ≡ length h.order
  pub are : (n : ℕ) (d : Answer) → n < length answers → slice_index_or answers n d ≡ answer_at h n
  pub known : All (KnowsAnswer setup) answers

-- whatever first ones of the places a monitor was told, with the marks, the next one may come: where it is a child, its
-- parent spawned it
abbrev pub ComeInOrder : Setup → (ℕ → Bool) → List Place → Type 0
ComeInOrder setup marks places =
    (h : Heard) → IsTold setup marks (map entry_in places) h → length h.order < length places
    → MayCome h (entry_told (place_in places (length h.order)) (marks (length h.order)))
