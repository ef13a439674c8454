use Rattle.std.proofs.Common.{◌≡◌, ◌∙◌, ap, sym, fold, length, ◌++◌, ◌+◌, take, arith, length-append, length-take, ◌≤◌, nat_lt, ◌||◌, min}
use Rattle.std.proofs.lemmas.List.Sums.{fold-append}
use Rattle.bl_wire.specs.Look.{look_after}
use Rattle.bl_wire.specs.declared.held.Look.TheVariants.{Blank}
use Rattle.bl_wire.proofs.Parts.{take-front, over_after}
use Rattle.bl_wire.proofs.held.Held.add.Goals as goal

pub returns : goal.returns
returns c line held =
    let part = c.args.part.now in
    let size : length c.args.self.now.bytes.items ≡ min 8193 (length line) = ap length held.front ∙ length-take 8193 line in
    let small : length c.args.self.now.bytes.items ≤ 8193 = omega (arith, size) in
    record {
      front = c.keep.ensures.bytes small ∙ ap (λ l. take 8193 (l ++ part)) held.front ∙ take-front 8193 line part;
      look = c.look_on-self.ensures ∙ ap (λ k. fold look_after k part) (c.keep.ensures.look ∙ held.look) ∙ sym (fold-append look_after Blank line part);
      over = c.keep.ensures.over small ∙ ap (λ b. b || nat_lt 8193 (length c.args.self.now.bytes.items + length part)) held.over
          ∙ over_after 8193 (length line) (length part) (length c.args.self.now.bytes.items) size ∙ ap (nat_lt 8193) (sym (length-append line part));
    }
