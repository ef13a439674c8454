-- What low subjects are told does not rest on what is high (Goguen and Meseguer 1982, noninterference, of Bell and La
-- Padula 1976).
use Rattle.std.specs.Prelude.{◌≡◌, ℕ, ◌<◌, ◌≤◌, IsTrue, length}
use Rattle.bl_level.specs.Level.{SecurityLevel}
use Rattle.bl_setup.specs.Setup.{Setup}
use Rattle.bl_flow.specs.Low.{History, place_in, policy_in, content_in, is_low_document}
use Rattle.bl_flow.specs.Purge.{is_kept, kept_before, purged}
use Rattle.bl_flow.specs.Sealed.{IsPossible}

-- What is kept of a history is a history of its own, from a setup with any contents of the documents that are not low:
-- it may come about, each place that is kept has the record that it had (its subject, levels, task, answer and
-- effects), and at each place the policy and the content of each low document are what they were.
pub record StandsAlone (level : SecurityLevel) (history : History) (setup : Setup) : Type 0 where
  pub possible : IsPossible (purged level history setup)
  pub places : (n : ℕ) → n < length history.order → IsTrue (is_kept level history n)
      → place_in (purged level history setup) (kept_before level history n) ≡ place_in history n
  pub policies : (n : ℕ) → n ≤ length history.order
      → policy_in (purged level history setup) (kept_before level history n) ≡ policy_in history n
  pub contents : (n doc : ℕ) → n ≤ length history.order → IsTrue (is_low_document level (policy_in history n) doc)
      → content_in (purged level history setup) doc (kept_before level history n) ≡ content_in history doc n

-- Two histories tell low subjects the same. Two places correspond where as many are kept before the one as before the
-- other: where both are kept they have one record, and the policy and the content of each low document are one there.
pub record TellTheSame (level : SecurityLevel) (one two : History) : Type 0 where
  pub places : (m n : ℕ) → m < length one.order → n < length two.order → IsTrue (is_kept level one m)
      → IsTrue (is_kept level two n)
      → kept_before level one m ≡ kept_before level two n → place_in one m ≡ place_in two n
  pub policies : (m n : ℕ) → m ≤ length one.order → n ≤ length two.order
      → kept_before level one m ≡ kept_before level two n → policy_in one m ≡ policy_in two n
  pub contents : (m n doc : ℕ) → m ≤ length one.order → n ≤ length two.order
      → kept_before level one m ≡ kept_before level two n
      → IsTrue (is_low_document level (policy_in one m) doc) → content_in one doc m ≡ content_in two doc n
