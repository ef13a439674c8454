use Rattle.std.proofs.Common.{◌≡◌, ◌∙◌, ◌++◌, ◌+◌, ◌≤◌, ℕ, List, length, min, ap, sym, arith}
use Rattle.bl_entrance.proofs.FirstLines.{fits-kept, heard-least}
use Rattle.bl_entrance.proofs.first.FirstBytes.hear.Goals as goal

pub returns : goal.returns
returns c =
    let old = c.args.self.now.bytes.items in
    let bytes = c.args.bytes.now in
    let count = c.min-count.result in
    let room : c.remaining_capacity.result + length old ≡ 128 = c.remaining_capacity.ensures in
    let least : count ≡ min (length bytes) c.remaining_capacity.result = omega (arith, c.min-count.ensures) in
    let fits : length old + length c.split_at.result.0.now ≤ 128 = omega (arith, room, least, c.split_at.ensures.front_len) in
    fits-kept c.try_extend_from_slice-fits.result _ _ c.try_extend_from_slice-fits.ensures.variant c.try_extend_from_slice-fits.ensures.ok fits
    ∙ ap (λ (l : List ℕ). old ++ l) c.split_at.ensures.front ∙ sym (heard-least old bytes count c.remaining_capacity.result room least)
