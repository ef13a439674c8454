-- Replies that are left out: those behind the first one to a line above an ordinal. The replies to the lines up to it stay.
use Rattle.std.proofs.Common.{◌≡◌, ℕ, ◌<◌, ◌≤◌, List, [], ◌∷◌, length, map, take, drop, sym, subst, arith, All}
use Rattle.std.proofs.lemmas.List.Elements.{All-cons, All-head, All-nil, All-tail, All-take, All-weaker}
use Rattle.bl_setup.specs.Agreement.{Agree}
use Rattle.bl_setup.specs.Setup.{Setup}
use Rattle.bl_order.specs.Known.{KnowsAnswer}
use Rattle.bl_order.specs.Machine.{State}
use Rattle.bl_hall.specs.Told.{AreAnswers, reply_of}
use Rattle.bl_hall.specs.declared.reply.Reply as owned
use Rattle.bl_wire.proofs.Naming.{names-answer}
use Rattle.bl_session.proofs.BlockLaws.{Lines}
use Rattle.bl_serve.specs.Told.{ordinal_of, line_of, BeginsAbove, IsBlock, IsTold}
use Rattle.bl_serve.proofs.Telling.{GoByLines, above_line, all_lines, go_by_line}
use Rattle.bl_serve.proofs.ToldLaws.{begins_above, line_until, order_take}

told_by_three : (s : Setup) (after upto : ℕ) (replies : List owned.Reply) → Agree s → All (λ (r : owned.Reply). after < ordinal_of r) replies → All (λ (r : owned.Reply). ordinal_of r ≤ upto) replies
    → All (λ (r : owned.Reply). KnowsAnswer s r.answer) replies → All (IsTold s.names after upto) replies
told_by_three s after upto [] agree low high known = All-nil (IsTold s.names after upto)
told_by_three s after upto (r ∷ replies) agree low high known =
    All-cons (IsTold s.names after upto) r replies
    (record {
      low = All-head (λ (q : owned.Reply). after < ordinal_of q) r replies low;
      high = All-head (λ (q : owned.Reply). ordinal_of q ≤ upto) r replies high;
      named = names-answer s agree r.answer (All-head (λ (q : owned.Reply). KnowsAnswer s q.answer) r replies known);
    })
    (told_by_three s after upto replies agree (All-tail (λ (q : owned.Reply). after < ordinal_of q) r replies low) (All-tail (λ (q : owned.Reply). ordinal_of q ≤ upto) r replies high)
    (All-tail (λ (q : owned.Reply). KnowsAnswer s q.answer) r replies known))

module _ (by_lines : GoByLines) (x : State) (session after upto count : ℕ) (replies : List owned.Reply) (answers : AreAnswers x session after (map reply_of replies)) where
  -- the replies to a line up to the ordinal stay
  pub line_stays : (k : ℕ) → k ≤ upto → BeginsAbove upto (drop count replies) → line_of k (take count replies) ≡ line_of k replies
  line_stays k le above =
      sym (line_until k count replies (All-weaker (λ (r : owned.Reply). upto < ordinal_of r) (λ (r : owned.Reply). k < ordinal_of r) (λ r lt. omega (arith, lt, le)) (drop count replies)
      (begins_above replies count upto (go_by_line by_lines x session replies after answers.are) above)))

  -- what is left are replies to lines above one ordinal and up to another, line by line, and all that they name has a name
  pub left_is_block : Agree x.setup → All (λ (r : owned.Reply). ordinal_of r ≤ upto) (take count replies) → All (λ (r : owned.Reply). KnowsAnswer x.setup r.answer) replies
      → IsBlock x.setup.names after upto (take count replies)
  left_is_block agree high known = record {
    are = told_by_three x.setup after upto (take count replies) agree
        (All-take (λ (r : owned.Reply). after < ordinal_of r) count replies (all_lines (λ h. after < h) replies (subst (Lines (λ h. after < h)) (sym answers.are) (above_line x session after (length x.order)))))
        high
        (All-take (λ (r : owned.Reply). KnowsAnswer x.setup r.answer) count replies known);
    order = order_take replies count (go_by_line by_lines x session replies after answers.are);
  }
