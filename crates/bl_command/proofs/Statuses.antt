-- The statuses of words that name no command.
use Rattle.std.proofs.Common.{◌≡◌, ◌⊎◌, ℕ, inl, inr}
use Rattle.bl_status.specs.Status.{IsStatus}

pub of_words : (status : ℕ) → (status ≡ 0) ⊎ ((status ≡ 2) ⊎ (status ≡ 4)) → IsStatus status
of_words status (inl zero) = inr (inr (inl zero))
of_words status (inr (inl two)) = inr (inl two)
of_words status (inr (inr four)) = inr (inr (inr (inr four)))
