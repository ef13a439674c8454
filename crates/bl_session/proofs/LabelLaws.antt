-- Laws of the text of a label.
use Rattle.std.proofs.Common.{◌≡◌, ℕ, ◌<◌, List, [], ◌∷◌, ◌++◌, length, sym, ap, ◌∙◌, arith, append_assoc, codes}
use Rattle.std.specs.Prelude.{decimal}
use Rattle.bl_wire.specs.Replies.{label_text}

-- one number more
pub label_more : (label : List ℕ) (w : ℕ) → 0 < length label → label_text (label ++ w ∷ []) ≡ label_text label ++ (codes "." ++ decimal w)
label_more [] w some = absurd (omega arith)
label_more (n ∷ []) w some = append_assoc (decimal n) (codes ".") (decimal w)
label_more (n ∷ m ∷ label) w some =
    ap (λ l. (decimal n ++ codes ".") ++ l) (label_more (m ∷ label) w (omega arith))
    ∙ sym (append_assoc (decimal n ++ codes ".") (label_text (m ∷ label)) (codes "." ++ decimal w))
