use Rattle.std.proofs.Common.{◌≡◌, ◌<◌, ◌+◌, ◌*◌, ◌/◌, arith, subst, sym, List, ℕ, Option, Some, None}
use Rattle.bl_queue.specs.Numbers.{IsFirst, IsFirstInWord, mark}
use Rattle.bl_queue.proofs.Rows.{none_over, first_over, few_words}
use Rattle.bl_queue.proofs.numbers.Numbers.next.Goals as goal

pub returns-in_err-word : goal.returns-in_err-word
returns-in_err-word c =
    subst (λ (o : Option ℕ). IsFirst c.args.self.now c.args.from o) (sym c.from_residual.ensures)
    (subst (λ (l : List ℕ). IsFirst l c.args.from None) c.self.view_is
    (none_over c.self.inside.low.items c.self.inside.middle.items c.args.from c.self.invariant.low
    (subst (λ (l : List ℕ). IsFirstInWord l c.args.from None) c.as_slice.ensures.value c.in_default.ensures)
    (subst (λ (l : List ℕ). IsFirst l (c.args.from / 64 + 1) None) c.as_slice-2.ensures.value c.in_err-word.ensures)))

few : (c : goal.After-as_slice-4) → c.in_ok-word.word < 4096
few c =
    few_words c.self.inside.middle.items c.self.inside.top.items c.in_ok-word.word c.self.invariant.middle c.self.invariant.top
    (subst (λ (l : List ℕ). mark l c.in_ok-word.word ≡ 1) c.as_slice-2.ensures.value c.in_ok-word.ensures.there)

pub overflow_mul-word : goal.overflow_mul-word
overflow_mul-word c = omega (arith, few c)

pub first_in_word-requires-2 : goal.first_in_word-requires-2
first_in_word-requires-2 c = omega (arith, few c)

pub returns : goal.returns
returns c =
    subst (λ (l : List ℕ). IsFirst l c.args.from c.first_in_word-2.result) c.self.view_is
    (first_over c.self.inside.low.items c.self.inside.middle.items c.args.from c.in_ok-word.word c.first_in_word-2.result c.self.invariant.low
    (subst (λ (l : List ℕ). IsFirstInWord l c.args.from None) c.as_slice.ensures.value c.in_default.ensures)
    (subst (λ (l : List ℕ). IsFirst l (c.args.from / 64 + 1) (Some c.in_ok-word.word)) c.as_slice-2.ensures.value c.in_ok-word.ensures)
    (subst (λ (l : List ℕ). IsFirstInWord l (c.in_ok-word.word * 64) c.first_in_word-2.result) c.as_slice-4.ensures.value c.first_in_word-2.ensures))
