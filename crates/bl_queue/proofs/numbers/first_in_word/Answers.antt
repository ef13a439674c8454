use Rattle.std.proofs.Common.{arith}
use Rattle.bl_queue.proofs.Words.{mark-beyond, none_in_word, first_found}
use Rattle.bl_queue.proofs.numbers.first_in_word.Goals as goal

pub returns-then-place-words : goal.returns-then-place-words
returns-then-place-words c = λ m le near. mark-beyond c.args.words.now m (omega (arith, near))

pub returns-then-rest-eq0 : goal.returns-then-rest-eq0
returns-then-rest-eq0 c = none_in_word c.args.words.now c.args.from (omega arith)

pub returns : goal.returns
returns c = first_found c.args.words.now c.args.from (omega arith)
