use Rattle.std.proofs.Common.{◌≡◌, ◌++◌, ◌∙◌, List, ℕ, ap, sym, append-nil, append_assoc, codes, decimal}
use Rattle.bl_trail.specs.declared.text.Words.{Words}
use Rattle.bl_trail.specs.declared.text.Words.TheVariants.{Denied}
use Rattle.bl_trail.specs.StartWords.{words_text}
use Rattle.bl_wire.proofs.PutLaws.{puts-is, puts-three}
use Rattle.bl_trail.proofs.Lines.{after-three}
use Rattle.bl_trail.proofs.text.put_start.Goals as goal

pub returns-in-Run : goal.returns-in-Run
returns-in-Run g c =
    let n : List ℕ = decimal c.args.n in
    puts-is _ ((codes "start " ++ (n ++ words_text c.args.names.now c.args.words.now)) ++ codes "\n") _ _
    (sym (after-three (codes "start ") n (codes " run") (codes "\n")) ∙ ap (λ (w : Words). (codes "start " ++ (n ++ words_text c.args.names.now w)) ++ codes "\n") (sym c.in-Run.is))
    c.put_number_between.ensures

pub returns-in-Rule : goal.returns-in-Rule
returns-in-Rule g c =
    let n : List ℕ = decimal c.args.n in
    puts-is _ ((codes "start " ++ (n ++ words_text c.args.names.now c.args.words.now)) ++ codes "\n") _ _
    (sym (after-three (codes "start ") n (codes " rule") (codes "\n")) ∙ ap (λ (w : Words). (codes "start " ++ (n ++ words_text c.args.names.now w)) ++ codes "\n") (sym c.in-Rule.is))
    c.put_number_between-in-Rule.ensures

pub returns-in-Denied : goal.returns-in-Denied
returns-in-Denied g c =
    let n : List ℕ = decimal c.args.n in
    let front : List ℕ = codes "start " ++ (n ++ codes "") in
    let words : List ℕ = words_text c.args.names.now (Denied c.in-Denied.denial) in
    let whole : codes "start " ++ (n ++ words_text c.args.names.now c.args.words.now) ≡ front ++ words =
    ap (λ w. codes "start " ++ (n ++ words_text c.args.names.now w)) c.in-Denied.is ∙ sym (append_assoc (codes "start ") n words)
    ∙ ap (λ t. (codes "start " ++ t) ++ words) (sym (append-nil n)) in
    puts-three _ front words (codes "\n") _ _ _ _ (ap (λ t. t ++ codes "\n") whole ∙ append_assoc front words (codes "\n"))
    c.put_number_between-in-Denied.ensures c.put_answer.ensures c.put.ensures.puts
