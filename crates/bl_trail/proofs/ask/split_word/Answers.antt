use Rattle.std.proofs.Common.{◌≡◌, ◌+◌, ◌-◌, ◌<◌, List, length, take, drop, sym, ◌∙◌, ap, arith, ℕ, suc, length-drop}
use Rattle.std.specs.Prelude.{Some}
use Rattle.std.proofs.lemmas.List.{take_all}
use Rattle.bl_trail.specs.Asks.{before}
use Rattle.bl_trail.proofs.Words.{before-first, behind-some, behind-none}
use Rattle.bl_trail.proofs.ask.split_word.Goals as goal

one_more : (m n : ℕ) → m ≡ n → m + 1 ≡ suc n
one_more m n h = omega (arith, h)

pub returns-then-len-text-clause-before : goal.returns-then-len-text-clause-before
returns-then-len-text-clause-before c = ap (λ n. take n c.args.text.now) c.word_len-len.ensures ∙ before-first c.args.sign c.args.text.now

pub returns-then-len-text-clause-behind : goal.returns-then-len-text-clause-behind
returns-then-len-text-clause-behind c =
    let text : List ℕ = c.args.text.now in
    let within : length (before c.args.sign text) < length text = omega (arith, c.word_len-len.ensures) in
    ap Some (take_all (length text - (c.word_len-len.result + 1)) (drop (c.word_len-len.result + 1) text) (omega (arith, length-drop (c.word_len-len.result + 1) text)))
    ∙ ap (λ n. Some (drop n text)) (one_more c.word_len-len.result (length (before c.args.sign text)) c.word_len-len.ensures)
    ∙ sym (behind-some c.args.sign text within)

pub returns-else-len-text-clause-before : goal.returns-else-len-text-clause-before
returns-else-len-text-clause-before c = sym (behind-none c.args.sign c.args.text.now (omega (arith, c.word_len-len.ensures))).1

pub returns-else-len-text-clause-behind : goal.returns-else-len-text-clause-behind
returns-else-len-text-clause-behind c = sym (behind-none c.args.sign c.args.text.now (omega (arith, c.word_len-len.ensures))).0
