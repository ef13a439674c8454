use Rattle.std.proofs.Common.{◌+◌, ◌/◌, arith, length, ap}
use Rattle.bl_queue.proofs.Rows.{over_empty, none_marked}
use Rattle.bl_queue.proofs.numbers.Numbers.new.Goals as goal

pub invariant_of-result : goal.invariant_of-result
invariant_of-result c = record {
  low = over_empty c.in_ok-empty_words.field-0.items c.in_ok-empty_words-2.field-0.items (c.args.last / 64 + 1) (c.args.last / 64 / 64 + 1) c.in_ok-empty_words.ensures c.in_ok-empty_words-2.ensures (omega arith);
  middle = over_empty c.in_ok-empty_words-2.field-0.items c.in_ok-empty_words-3.field-0.items (c.args.last / 64 / 64 + 1) 1 c.in_ok-empty_words-2.ensures c.in_ok-empty_words-3.ensures (omega (arith, c.requires));
  top = ap length c.in_ok-empty_words-3.ensures;
}

pub returns-clause-none : goal.returns-clause-none
returns-clause-none c n = none_marked c.in_ok-empty_words.field-0.items (c.args.last / 64 + 1) n c.in_ok-empty_words.ensures
