use Rattle.std.proofs.Common.{List, ℕ, ◌/◌, length, subst, ap, ◌∙◌}
use Rattle.bl_queue.specs.Numbers.{IsUnmarked}
use Rattle.bl_queue.proofs.Rows.{written_items, over_written, over_kept, over_left, over_emptied}
use Rattle.bl_queue.proofs.numbers.Numbers.remove.Goals as goal

-- the lowest word has members left
pub invariant_of-self : goal.invariant_of-self
invariant_of-self c =
    let low = subst (λ (l : List ℕ). IsUnmarked l c.args.n c.take.new.words) c.as_mut_slice.ensures.value c.take.ensures.marks in
    record {
      low = over_kept c.self.inside.low c.take.new.words c.self.inside.middle.items low.size
          (over_left c.self.inside.low.items c.self.inside.middle.items c.take.new.words c.args.n c.self.invariant.low low c.if-take.ensures.left);
      middle = c.self.invariant.middle;
      top = c.self.invariant.top;
    }

pub invariant_of-self-then-take-2 : goal.invariant_of-self-then-take-2
invariant_of-self-then-take-2 c =
    let low = subst (λ (l : List ℕ). IsUnmarked l c.args.n c.take.new.words) c.as_mut_slice.ensures.value c.take.ensures.marks in
    let middle = subst (λ (l : List ℕ). IsUnmarked l (c.args.n / 64) c.take-2.new.words) c.as_mut_slice-2.ensures.value c.take-2.ensures.marks in
    record {
      low = over_written c.self.inside.low c.self.inside.middle c.take.new.words c.take-2.new.words low.size middle.size
          (over_emptied c.self.inside.low.items c.self.inside.middle.items c.take.new.words c.take-2.new.words c.args.n c.self.invariant.low low c.if-take.ensures.left middle);
      middle = over_kept c.self.inside.middle c.take-2.new.words c.self.inside.top.items middle.size
          (over_left c.self.inside.middle.items c.self.inside.top.items c.take-2.new.words (c.args.n / 64) c.self.invariant.middle middle c.if-take-2.ensures.left);
      top = c.self.invariant.top;
    }

pub invariant_of-self-2 : goal.invariant_of-self-2
invariant_of-self-2 c =
    let low = subst (λ (l : List ℕ). IsUnmarked l c.args.n c.take.new.words) c.as_mut_slice.ensures.value c.take.ensures.marks in
    let middle = subst (λ (l : List ℕ). IsUnmarked l (c.args.n / 64) c.take-2.new.words) c.as_mut_slice-2.ensures.value c.take-2.ensures.marks in
    let top = subst (λ (l : List ℕ). IsUnmarked l (c.args.n / 64 / 64) c.take-3.new.words) c.as_mut_slice-3.ensures.value c.take-3.ensures.marks in
    record {
      low = over_written c.self.inside.low c.self.inside.middle c.take.new.words c.take-2.new.words low.size middle.size
          (over_emptied c.self.inside.low.items c.self.inside.middle.items c.take.new.words c.take-2.new.words c.args.n c.self.invariant.low low c.if-take.ensures.left middle);
      middle = over_written c.self.inside.middle c.self.inside.top c.take-2.new.words c.take-3.new.words middle.size top.size
          (over_emptied c.self.inside.middle.items c.self.inside.top.items c.take-2.new.words c.take-3.new.words (c.args.n / 64) c.self.invariant.middle middle c.if-take-2.ensures.left top);
      top = ap length (written_items c.self.inside.top c.take-3.new.words top.size) ∙ top.size ∙ c.self.invariant.top;
    }
