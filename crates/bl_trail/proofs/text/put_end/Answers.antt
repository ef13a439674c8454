use Rattle.std.proofs.Common.{◌≡◌, ◌++◌, ◌∙◌, List, ℕ, ap, sym, append-nil, append_assoc, codes, decimal}
use Rattle.bl_wire.specs.Replies.{answer_text}
use Rattle.bl_wire.proofs.PutLaws.{puts-three}
use Rattle.bl_trail.proofs.text.put_end.Goals as goal

pub returns-in-None : goal.returns-in-None
returns-in-None g c =
    let n : List ℕ = decimal c.args.n in
    let front : List ℕ = codes "end " ++ (n ++ codes "") in
    let answer : List ℕ = answer_text c.args.names.now c.args.answer.now in
    let whole : codes "end " ++ (n ++ answer) ≡ front ++ answer =
    sym (append_assoc (codes "end ") n answer) ∙ ap (λ t. (codes "end " ++ t) ++ answer) (sym (append-nil n)) in
    puts-three ((codes "end " ++ (n ++ answer)) ++ codes "\n") front answer (codes "\n") _ _ _ _
    (ap (λ t. t ++ codes "\n") whole ∙ append_assoc front answer (codes "\n"))
    c.put_number_between.ensures c.put_answer.ensures c.put-in-None.ensures.puts
