use Rattle.std.proofs.Common.{◌++◌, codes, decimal, refl}
use Rattle.std.specs.Prelude.{Some}
use Rattle.bl_trail.specs.StartWords.{words_text}
use Rattle.bl_trail.proofs.Comparing.{is-whole, left-three}
use Rattle.bl_trail.proofs.compare.is_start.Goals as goal

pub returns : goal.returns
returns c =
    is-whole (codes "start " ++ (decimal c.args.n ++ words_text c.args.names.now c.args.words.now)) c.args.line.now _ _
    (left-three (codes "start " ++ (decimal c.args.n ++ words_text c.args.names.now c.args.words.now)) (codes "start ") (decimal c.args.n) (words_text c.args.names.now c.args.words.now) (Some c.args.line.now) _ _ _ refl
    c.after-rest.ensures c.after_number-rest.ensures c.after_words.ensures) c.is_over.ensures
