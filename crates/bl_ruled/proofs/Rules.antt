-- The rules of a text, by those of the lines behind its head.
use Rattle.std.proofs.Common.{◌≡◌, ◌++◌, ℕ, List, sym, subst}
use Rattle.std.specs.Prelude.{All}
use Rattle.std.proofs.lemmas.List.Elements.{All-nil}
use Rattle.bl_setup.specs.Setup.{Setup, by_version}
use Rattle.bl_setup.specs.declared.version.Version.{Version}
use Rattle.bl_order.specs.Machine.{State, start}
use Rattle.bl_trail.specs.Follow.{IsFollowed, IsVerdict}
use Rattle.bl_trail.specs.TrueText.{FirstWrong, IsLimit, head_lines, joined}
use Rattle.bl_trail.specs.Versions.{HasSetup}
use Rattle.bl_trail.specs.declared.verdict.Verdict.{Verdict}
use Rattle.bl_trail.specs.declared.verdict.Verdict.TheVariants.{Accepted, Rejected}
use Rattle.bl_explain.specs.Since.{KnowsApplied}
use Rattle.bl_explain.specs.declared.since.Applied.{Applied}
use Rattle.bl_ruled.specs.Noting.{AreLeft}
use Rattle.bl_ruled.specs.Ruled.{AreRulesOf}
use Rattle.bl_ruled.proofs.Fronts.{true-text}

module _ (setup : Setup) (version : Version) (limit : ℕ) (has_setup : HasSetup version setup) (is_limit : IsLimit limit) (text rest : List ℕ)
    (is : text ≡ joined (head_lines version limit) ++ rest) where
  abbrev first : State
  first = start (by_version version setup) limit

  -- the verdict on the whole text
  pub verdict-of : ((verdict : Verdict) → IsFollowed first rest verdict → IsVerdict setup (joined (head_lines version limit) ++ rest) verdict)
      → (verdict : Verdict) (rules : List Applied) → AreLeft first rest verdict rules → IsVerdict setup text verdict
  verdict-of law (Accepted count) rules left = true-text setup version limit has_setup is_limit text rest is left.0 count left.1 left.2
  verdict-of law (Rejected number) rules left = subst (λ t. FirstWrong setup t number) (sym is) (law (Rejected number) left.0)

  -- and its rules
  pub rules-of : (verdict : Verdict) (rules : List Applied) → AreLeft first rest verdict rules → AreRulesOf setup text verdict rules
  rules-of (Accepted count) rules left = (true-text setup version limit has_setup is_limit text rest is left.0 count left.1 left.2, left.3)
  rules-of (Rejected number) rules left = left.1

  -- whose ids are in the policy
  pub known-of : (verdict : Verdict) (rules : List Applied) → AreLeft first rest verdict rules → All (KnowsApplied setup.policy) rules
  known-of (Accepted count) rules left = left.4
  known-of (Rejected number) rules left = subst (λ (l : List Applied). All (KnowsApplied setup.policy) l) (sym left.1) (All-nil (KnowsApplied setup.policy))
