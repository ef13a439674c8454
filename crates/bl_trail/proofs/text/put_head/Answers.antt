use Rattle.std.proofs.Common.{◌≡◌, List, ℕ, ◌++◌, ◌∷◌, ◌∙◌, [], codes, decimal, ap, append-nil, append_assoc}
use Rattle.bl_wire.proofs.PutLaws.{puts-four}
use Rattle.bl_trail.specs.TrueText.{head_lines, joined, version_line}
use Rattle.bl_trail.proofs.text.put_head.Goals as goal

pub returns : goal.returns
returns g c =
    let first : List ℕ = version_line c.args.version in
    let second : List ℕ = codes "limit " ++ decimal c.args.limit in
    let whole : joined (head_lines c.args.version c.args.limit) ≡ first ++ (codes "\n" ++ (second ++ codes "\n")) =
    append_assoc first (10 ∷ []) (joined (second ∷ [])) ∙ ap (λ t. first ++ 10 ∷ t) (append-nil (second ++ codes "\n")) in
    puts-four (joined (head_lines c.args.version c.args.limit)) first (codes "\n") second (codes "\n") _ _ _ _ _ whole
    c.put_version.ensures c.put.ensures.puts c.put_limit.ensures c.put-2.ensures.puts
