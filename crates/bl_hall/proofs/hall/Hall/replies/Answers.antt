use Rattle.std.proofs.Common.{◌≡◌, All, ◌∷◌, ◌++◌, ℕ, List, [], get_or, map, take, sym, ap, subst, ◌∙◌, arith}
use Rattle.std.proofs.lemmas.List.{map-append, take_more}
use Rattle.std.proofs.lemmas.List.Elements.{All-push}
use Rattle.std.specs.Prelude.{IsTrue}
use Rattle.bl_work.specs.Few.{items_of}
use Rattle.bl_order.specs.Known.{KnowsAnswer}
use Rattle.bl_order.specs.Labels.{Reply, tag}
use Rattle.bl_order.specs.Machine.{State, has_ended, past_at}
use Rattle.bl_hall.specs.declared.reply.Reply as owned
use Rattle.bl_hall.specs.Chronicle.{state_now}
use Rattle.bl_hall.specs.Told.{reply_in, reply_of}
use Rattle.bl_hall.proofs.Answering.{ended-there}
use Rattle.bl_hall.proofs.Keeping.{core-is, reached}
use Rattle.bl_hall.proofs.hall.Hall.replies.Goals as goal

pub label_of-requires-clause-reached : goal.label_of-requires-clause-reached
label_of-requires-clause-reached c = reached c.self.inside c.self.invariant

pub label_of-requires-clause-there : goal.label_of-requires-clause-there
label_of-requires-clause-there c =
    ended-there c.self.inside.core (reached c.self.inside c.self.invariant) _
    (subst (λ (y : State). IsTrue (has_ended y (get_or c.args.places.now c.loop-n.n-index 0))) (sym (core-is c.self.inside c.self.invariant c.args.self.now c.self.view_is))
    (c.requires c.loop-n.n-index 0 c.loop-n-test.true))

pub loop-n-preserved : goal.loop-n-preserved
loop-n-preserved c =
    let x : State = state_now c.args.self.now in
    let n : ℕ = get_or c.args.places.now c.loop-n.n-index 0 in
    let reply : owned.Reply = record { label = c.in_ok-label.label; answer = c.in_ok-answer.answer } in
    let label : items_of c.in_ok-label.label ≡ (tag x.order n).label =
    c.in_ok-label.ensures ∙ ap (λ (y : State). (tag y.order n).label) (core-is c.self.inside c.self.invariant c.args.self.now c.self.view_is)
    in
    let answer : c.in_ok-answer.answer ≡ (past_at x n).answer =
    c.in_ok-answer.ensures ∙ c.in-Some.ensures.value ∙ ap (λ (y : State). (past_at y n).answer) (core-is c.self.inside c.self.invariant c.args.self.now c.self.view_is)
    in
    let same : reply_of reply ≡ reply_in x n = (λ i. record { label = label i; answer = answer i }) in (
      ap (map reply_of) c.push_reserved.ensures.items ∙ map-append reply_of c.loop-n.replies.items (reply ∷ [])
          ∙ ap (λ (l : List Reply). l ++ reply_of reply ∷ []) c.loop-n.invariant.0
          ∙ ap (λ (r : Reply). map (reply_in x) (take c.loop-n.n-index c.args.places.now) ++ r ∷ []) same
          ∙ sym (map-append (reply_in x) (take c.loop-n.n-index c.args.places.now) (n ∷ []))
          ∙ ap (map (reply_in x)) (sym (take_more c.args.places.now c.loop-n.n-index 0 c.loop-n-test.true)),
      omega (arith, c.push_reserved.ensures.len, c.loop-n.invariant.1),
      c.push_reserved.ensures.capacity ∙ c.loop-n.invariant.2,
      subst (All (λ (r : owned.Reply). KnowsAnswer x.setup r.answer)) (sym c.push_reserved.ensures.items)
          (All-push (λ (r : owned.Reply). KnowsAnswer x.setup r.answer) c.loop-n.replies.items reply c.loop-n.invariant.3
          (subst (KnowsAnswer x.setup) (sym c.in_ok-answer.ensures)
          (subst (λ (y : State). KnowsAnswer y.setup c.in-Some.answer.now) (core-is c.self.inside c.self.invariant c.args.self.now c.self.view_is) c.in-Some.ensures.known))),
    )
