-- The texts of labels, piece by piece.
use Rattle.std.proofs.Common.{◌≡◌, ℕ, ◌+◌, ◌<◌, List, [], ◌∷◌, ◌++◌, length, take, sym, ap, ◌∙◌, append_assoc, add-one, codes, decimal, slice_index}
use Rattle.std.proofs.Math.Seq.{take-suc}
use Rattle.bl_wire.specs.Replies.{label_text}

-- one number more
pub label-more : (n : ℕ) (path : List ℕ) (m : ℕ) → label_text (n ∷ (path ++ m ∷ [])) ≡ label_text (n ∷ path) ++ (codes "." ++ decimal m)
label-more n [] m = append_assoc (decimal n) (codes ".") (decimal m)
label-more n (x ∷ path) m =
    ap (λ l. (decimal n ++ codes ".") ++ l) (label-more x path m)
    ∙ sym (append_assoc (decimal n ++ codes ".") (label_text (x ∷ path)) (codes "." ++ decimal m))

-- the label up to a number, and then a dot and the number
pub label-step : (n : ℕ) (path : List ℕ) (i : ℕ) → i < length path
    → label_text (n ∷ take (i + 1) path) ≡ label_text (n ∷ take i path) ++ (codes "." ++ decimal (slice_index path i))
label-step n path i lt =
    ap (λ l. label_text (n ∷ l)) (ap (λ k. take k path) (add-one i) ∙ take-suc path i 0 lt) ∙ label-more n (take i path) (slice_index path i)
