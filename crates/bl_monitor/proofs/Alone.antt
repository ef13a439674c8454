-- What is told alone.
use Rattle.std.proofs.Common.{◌≡◌, ℕ, suc, Bool, map, take, ap, ◌∙◌}
use Rattle.bl_order.specs.Machine.{State}
use Rattle.bl_order.specs.Order.{unnamed}
use Rattle.bl_order.specs.Past.{Past, place}
use Rattle.bl_order.specs.TheHeadline.{told_alone}
use Rattle.bl_order.proofs.PlaceLaws.{place-lost}
use Rattle.bl_monitor.specs.Heard.{Heard, IsToldAlone, answer_at, is_lost}

pub as-told : (x : State) (lost : ℕ → Bool) (n : ℕ) (heard : Heard) → IsToldAlone heard x lost n → answer_at heard n ≡ (told_alone x lost n).answer
as-told x lost n heard told =
    ap (λ setup. (place setup (is_lost heard) heard.order n).answer) told.setup
    ∙ ap (λ order. (place x.setup (is_lost heard) order n).answer) told.entries
    ∙ ap (λ (p : Past). p.answer) (place-lost x.setup (is_lost heard) lost (map unnamed (take (suc n) x.order)) n told.marks)
