-- What the text of a trail leaves, by what stands behind its lines.
use Rattle.std.proofs.Common.{◌≡◌, ◌++◌, ℕ, List, Option, Some, None, sym, subst}
use Rattle.std.specs.Prelude.{IfSome}
use Rattle.bl_setup.specs.Setup.{Setup, by_version}
use Rattle.bl_setup.specs.declared.version.Version.{Version}
use Rattle.bl_setup.specs.declared.version.Version.TheVariants.{Two}
use Rattle.bl_order.specs.Headline.{IsReached}
use Rattle.bl_order.specs.Machine.{State, start, state_after}
use Rattle.bl_order.specs.Standing.{HaveAllEnded, setup_now}
use Rattle.bl_state.specs.Whole.{IsWhole}
use Rattle.bl_trail.specs.Follow.{IsFollowed, IsVerdict}
use Rattle.bl_trail.specs.TrueText.{FirstWrong, IsLimit, head_lines, joined}
use Rattle.bl_trail.specs.Versions.{HasSetup}
use Rattle.bl_trail.specs.declared.verdict.Verdict.{Verdict}
use Rattle.bl_trail.specs.declared.verdict.Verdict.TheVariants.{Accepted, Rejected}
use Rattle.bl_trail.proofs.Following.{setup-end}
use Rattle.bl_left.specs.Ended.{Leaves}
use Rattle.bl_left.specs.Left.{IsLeft, Stands}
use Rattle.bl_left.proofs.TrueEnds.{true-end}

-- what is whole is so as a setup of version 2
whole-as-two : (setup : Setup) → IsWhole setup → IsWhole (by_version Two setup)
whole-as-two setup whole = subst IsWhole (λ i. record setup { version = whole.two i }) whole

left-whole : ((x : State) → IsReached x → HaveAllEnded x → IsWhole (by_version Two x.setup) → IsWhole (by_version Two (setup_now x)))
    → (setup : Setup) (version : Version) (x : State) → by_version version setup ≡ x.setup → IsReached x → (left : Option Setup) → Stands x left
    → IsWhole setup → IfSome left IsWhole
left-whole as_two setup version x is reached None stands whole = tt
left-whole as_two setup version x is reached (Some left) stands whole =
    subst IsWhole (sym stands.1)
    (as_two x reached stands.0 (subst (λ (s : Setup). IsWhole (by_version Two s)) is (whole-as-two setup whole)))

module _ (setup : Setup) (version : Version) (limit : ℕ) (has_setup : HasSetup version setup) (is_limit : IsLimit limit) (text rest : List ℕ)
    (is : text ≡ joined (head_lines version limit) ++ rest) where
  abbrev first : State
  first = start (by_version version setup) limit

  -- the verdict on the whole text
  pub verdict-of : ((verdict : Verdict) → IsFollowed first rest verdict → IsVerdict setup (joined (head_lines version limit) ++ rest) verdict)
      → (verdict : Verdict) (left : Option Setup) → Leaves first rest verdict left → IsVerdict setup text verdict
  verdict-of law (Accepted count) left leaves = true-end version setup has_setup limit is_limit leaves.0 text rest count is leaves.1 leaves.2
  verdict-of law (Rejected number) left leaves = subst (λ t. FirstWrong setup t number) (sym is) (law (Rejected number) leaves.0)

  -- and what it leaves
  pub left-of : (verdict : Verdict) (left : Option Setup) → Leaves first rest verdict left → IsLeft setup text verdict left
  left-of (Accepted count) left leaves = (true-end version setup has_setup limit is_limit leaves.0 text rest count is leaves.1 leaves.2, leaves.4)
  left-of (Rejected number) left leaves = leaves.1

  pub whole-of : ((x : State) → IsReached x → HaveAllEnded x → IsWhole (by_version Two x.setup) → IsWhole (by_version Two (setup_now x)))
      → IsWhole setup → (verdict : Verdict) (left : Option Setup) → Leaves first rest verdict left → IfSome left IsWhole
  whole-of as_two whole (Accepted count) left leaves =
      left-whole as_two setup version (state_after first leaves.0) (setup-end first leaves.0) leaves.3 left leaves.4 whole
  whole-of as_two whole (Rejected number) left leaves = subst (λ (l : Option Setup). IfSome l IsWhole) (sym leaves.1) tt
