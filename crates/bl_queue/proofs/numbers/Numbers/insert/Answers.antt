use Rattle.std.proofs.Common.{List, ℕ, ◌/◌, length, subst, ap, ◌∙◌}
use Rattle.bl_queue.specs.Numbers.{IsMarked}
use Rattle.bl_queue.proofs.Rows.{written_items, over_written, over_marked}
use Rattle.bl_queue.proofs.numbers.Numbers.insert.Goals as goal

module _ (c : goal.After-self-3-1) where
  low : IsMarked c.self.inside.low.items c.args.n c.put.new.words
  low = subst (λ (l : List ℕ). IsMarked l c.args.n c.put.new.words) c.as_mut_slice.ensures.value c.put.ensures

  middle : IsMarked c.self.inside.middle.items (c.args.n / 64) c.put-2.new.words
  middle = subst (λ (l : List ℕ). IsMarked l (c.args.n / 64) c.put-2.new.words) c.as_mut_slice-2.ensures.value c.put-2.ensures

  top : IsMarked c.self.inside.top.items (c.args.n / 64 / 64) c.put-3.new.words
  top = subst (λ (l : List ℕ). IsMarked l (c.args.n / 64 / 64) c.put-3.new.words) c.as_mut_slice-3.ensures.value c.put-3.ensures

pub invariant_of-self : goal.invariant_of-self
invariant_of-self c = record {
  low = over_written c.self.inside.low c.self.inside.middle c.put.new.words c.put-2.new.words (low c).size (middle c).size
      (over_marked c.self.inside.low.items c.self.inside.middle.items c.put.new.words c.put-2.new.words c.args.n c.self.invariant.low (low c) (middle c));
  middle = over_written c.self.inside.middle c.self.inside.top c.put-2.new.words c.put-3.new.words (middle c).size (top c).size
      (over_marked c.self.inside.middle.items c.self.inside.top.items c.put-2.new.words c.put-3.new.words (c.args.n / 64) c.self.invariant.middle (middle c) (top c));
  top = ap length (written_items c.self.inside.top c.put-3.new.words (top c).size) ∙ (top c).size ∙ c.self.invariant.top;
}
