-- What a trail is found to be that may be open, and what is told of it.
use Rattle.std.proofs.Common.{◌≡◌, ◌≢◌, ◌∙◌, ℕ, zero, suc, List, ◌++◌, Some, None, ap, inl, inr, refl, subst, length, take, drop, arith}
use Rattle.std.specs.Prelude.{codes, decimal}
use Rattle.bl_setup.specs.Setup as setups
use Rattle.bl_trail.specs.Follow.{IsVerdict}
use Rattle.bl_trail.specs.TrueText.{FirstWrong}
use Rattle.bl_trail.specs.declared.verdict.Verdict.{Verdict}
use Rattle.bl_trail.specs.declared.verdict.Verdict.TheVariants.{Accepted, Rejected}
use Rattle.bl_trail.proofs.OneVerdict.{one-verdict}
use Rattle.bl_replaying.specs.Finding.{IsFound}
use Rattle.bl_replaying.specs.Open.{IsOpen, IsSplit, IsUnstopped, LacksStop, torn_text}
use Rattle.bl_replaying.specs.Replays.{status_by}
use Rattle.bl_replaying.specs.Runs.{TellsTrail}
use Rattle.bl_replaying.specs.declared.open.Finding.TheVariants.{Judged}
use Rattle.bl_replaying.proofs.Splits.{same-lines}
use Rattle.bl_status.specs.Status.{IsStatus}
use Rattle.bl_wire.specs.Watch.{Use}

-- with `stop` behind it the text is rejected
pub unstopped-none : (begun : setups.Setup) (text stopped : List ℕ) (line : ℕ) → stopped ≡ text ++ codes "stop\n" → IsVerdict begun stopped (Rejected line) → IsUnstopped begun text None
unstopped-none begun text stopped line is wrong events lacks =
    one-verdict begun (text ++ codes "stop\n") events line lacks (subst (λ t. FirstWrong begun t line) is wrong)

-- and accepted
pub unstopped-some : (begun : setups.Setup) (text stopped : List ℕ) (events : ℕ) → stopped ≡ text ++ codes "stop\n" → IsVerdict begun stopped (Accepted events) → IsUnstopped begun text (Some events)
unstopped-some begun text stopped events is right = subst (λ t. IsVerdict begun t (Accepted events)) is right

-- a text is not open where `stop` behind its lines is not all that it lacks
pub not-open : (begun : setups.Setup) (trail lines rest : List ℕ) → IsSplit trail lines rest → IsUnstopped begun lines None → (events torn : ℕ) → IsOpen begun trail events torn → ⊥
not-open begun trail lines rest split none events torn is =
    none events (subst (λ l. LacksStop begun l events) (same-lines trail lines rest is.lines is.rest split is.split) is.lacks)

-- its lines are such a trail
pub opened : (begun : setups.Setup) (trail : List ℕ) (end events torn : ℕ) (lines rest : List ℕ) → IsSplit trail (take end trail) (drop end trail) → lines ≡ take end trail → rest ≡ drop end trail
    → IsUnstopped begun lines (Some events) → torn ≡ length rest → IsOpen begun trail events torn
opened begun trail end events torn lines rest split front back lacks long = record {
  lines = take end trail;
  rest = drop end trail;
  split = split;
  lacks = subst (λ l. LacksStop begun l events) front lacks;
  torn_is = long ∙ ap length back;
}

pub unopened : (begun : setups.Setup) (trail : List ℕ) (end : ℕ) (lines : List ℕ) → IsSplit trail (take end trail) (drop end trail) → lines ≡ take end trail → IsUnstopped begun lines None
    → (events torn : ℕ) → IsOpen begun trail events torn → ⊥
unopened begun trail end lines split front none = not-open begun trail (take end trail) (drop end trail) split (subst (λ l. IsUnstopped begun l None) front none)

-- what was judged is not open where it was rejected
pub judged-is : (begun : setups.Setup) (trail : List ℕ) (verdict : Verdict) → IsFound begun trail (Judged verdict)
    → IsVerdict begun trail verdict × (status_by verdict ≡ 1 → (events torn : ℕ) → IsOpen begun trail events torn → ⊥)
judged-is begun trail (Accepted count) is = (is, λ one. absurd (omega (arith, one)))
judged-is begun trail (Rejected line) is = (is.0, λ one. is.1)

-- the words for what was left out
pub torn-some : (torn : ℕ) → torn ≢ 0 → torn_text torn ≡ codes "left out " ++ (decimal torn ++ codes " bytes\n")
torn-some zero some = absurd (some refl)
torn-some (suc n) some = refl

-- the status of a run that told what a trail is
by-verdict : (status : ℕ) (verdict : Verdict) → status ≡ status_by verdict → IsStatus status
by-verdict status (Accepted count) is = inr (inr (inl is))
by-verdict status (Rejected line) is = inl is

pub told-status : (begun : setups.Setup) (trail : List ℕ) (status : ℕ) (output errors : Use) → TellsTrail begun trail status output errors → IsStatus status
told-status begun trail status output errors (inl opened) = inr (inr (inl opened.status_is))
told-status begun trail status output errors (inr found) = by-verdict status found.replayed.verdict found.replayed.status_is
