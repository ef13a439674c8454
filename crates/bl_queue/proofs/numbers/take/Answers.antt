use Rattle.std.proofs.Common.{ℕ, ◌-◌, ◌*◌, ◌/◌, ◌%◌, ◌≤◌, ◌^◌, bit_and, slice_index_or, arith}
use Rattle.std.proofs.lemmas.Nat.{and_le_r}
use Rattle.bl_queue.proofs.Words.{unmarked, word_tells}
use Rattle.bl_queue.proofs.numbers.take.Goals as goal

pub returns-clause-marks : goal.returns-clause-marks
returns-clause-marks c = unmarked c.args.words.now c.args.n c.requires

pub returns-clause-left : goal.returns-clause-left
returns-clause-left c =
    let mask : ℕ = 18446744073709551615 - 1 * 2 ^ (c.args.n % 64) % 18446744073709551616 in
    let word : ℕ = bit_and (slice_index_or c.args.words.now (c.args.n / 64) 0) mask in
    let less : word ≤ mask = and_le_r _ mask in
    word_tells c.args.words.now c.args.n word c.requires (omega (arith, less))
