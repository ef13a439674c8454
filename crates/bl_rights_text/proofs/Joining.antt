-- Texts that grow piece by piece.
use Rattle.std.proofs.Common.{◌≡◌, ℕ, List, ◌++◌, ap₂, ◌∙◌}

-- one piece more
pub then-put : (text piece new whole own : List ℕ) → new ≡ text ++ piece → text ≡ whole → piece ≡ own → new ≡ whole ++ own
then-put text piece new whole own is so_far same = is ∙ ap₂ (λ a b. a ++ b) so_far same
