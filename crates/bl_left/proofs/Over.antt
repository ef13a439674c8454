-- All places have ended in the state just where they have in what is kept.
use Rattle.std.proofs.Common.{◌≡◌, ◌↔◌, ℕ, ◌<◌, length, sym, ◌∙◌, ap, arith}
use Rattle.std.specs.Prelude.{slice_index_or}
use Rattle.std.proofs.lemmas.List.{get_or-map}
use Rattle.bl_order.specs.Machine.{State, Waiting, has_ended, is_over}
use Rattle.bl_order.specs.Standing.{HaveAllEnded}
use Rattle.bl_replay.specs.Keeps.{KeepsAt}
use Rattle.bl_replay.specs.Kept.{no_place, phase_in, place_in}
use Rattle.bl_replay.specs.declared.replayer.Replayer.{Replayer}
use Rattle.bl_replay.proofs.Moving.{many-places}
use Rattle.bl_left.specs.Ended.{AreOver}

module _ (x : State) (r : Replayer) (keeps : KeepsAt x r) where
  ended-is : (n : ℕ) → n < length r.places.items → has_ended x n ≡ is_over (phase_in (place_in r.places.items n))
  ended-is n lt =
      ap (λ ps. is_over (slice_index_or ps n Waiting)) keeps.phases
      ∙ ap is_over (get_or-map phase_in r.places.items n no_place Waiting lt)

  pub over-ended : AreOver r.places.items ↔ HaveAllEnded x
  over-ended = (
    (λ all n lt. let within : n < length r.places.items = omega (arith, lt, many-places x r keeps) in ended-is n within ∙ all n within),
    (λ all n lt. sym (ended-is n lt) ∙ all n (omega (arith, lt, many-places x r keeps))),
  )
