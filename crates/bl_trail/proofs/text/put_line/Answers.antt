use Rattle.std.proofs.Common.{◌≡◌, List, ℕ, ◌++◌, ◌∷◌, ◌∙◌, codes, decimal, ap, sym, append_assoc}
use Rattle.bl_wire.proofs.PutLaws.{puts-four}
use Rattle.bl_trail.proofs.Lines.{after-three}
use Rattle.bl_trail.proofs.text.put_line.Goals as goal

-- a number, a space, and what stands behind
numbered : (n : ℕ) (rest : List ℕ) → decimal n ++ (32 ∷ rest) ≡ (decimal n ++ codes " ") ++ rest
numbered n rest = sym (append_assoc (decimal n) (codes " ") rest)

pub returns : goal.returns
returns g c =
    let session : List ℕ = decimal c.args.session ++ codes " " in
    let ordinal : List ℕ = decimal c.args.ordinal ++ codes " " in
    let work : List ℕ = c.args.work.now in
    let front : List ℕ = codes "line " ++ session in
    let line : List ℕ = codes "line " ++ (decimal c.args.session ++ (32 ∷ (decimal c.args.ordinal ++ (32 ∷ work)))) in
    let whole : line ≡ front ++ (ordinal ++ work) =
    ap (λ t. codes "line " ++ t) (numbered c.args.session (decimal c.args.ordinal ++ (32 ∷ work))
    ∙ ap (λ t. session ++ t) (numbered c.args.ordinal work)) ∙ sym (append_assoc (codes "line ") session (ordinal ++ work)) in
    puts-four (line ++ codes "\n") front (codes "" ++ ordinal) work (codes "\n") _ _ _ _ _
    (ap (λ t. t ++ codes "\n") whole ∙ after-three front ordinal work (codes "\n"))
    c.put_number_between.ensures c.put_number_between-2.ensures c.put.ensures.puts c.put-2.ensures.puts
