-- The policy that stands in a state has levels that have names.
use Rattle.std.proofs.Common.{◌≡◌, ℕ, List, length, subst, sym}
use Rattle.std.specs.Prelude.{All}
use Rattle.bl_setup.specs.Setup.{Setup, by_version}
use Rattle.bl_setup.specs.declared.version.Version.{Version}
use Rattle.bl_work.specs.KnownLine.{IsKnownLine}
use Rattle.bl_work.specs.LineGrammar.{LineOf}
use Rattle.bl_work.specs.Names.{KnownNames}
use Rattle.bl_work.specs.declared.asked.Line.{Line}
use Rattle.bl_order.specs.Headline.{IsReached}
use Rattle.bl_order.specs.Known.{IsAsked}
use Rattle.bl_order.specs.Machine.{State, has_ended, is_lost}
use Rattle.bl_order.specs.Now.{ended_before, policy_now}
use Rattle.bl_state.specs.Whole.{IsWhole}
use Rattle.bl_state.proofs.Kept.{IsPolicyFor, RuleLaws, ended-fits, policy-fits}
use Rattle.bl_state.proofs.Standing.{asked-fits}
use Rattle.bl_explaining.specs.Explained.{IsPolicyOf}

pub record FittingLaws : Type 1 where
  pub rules : RuleLaws
  pub known : (names : KnownNames) (bytes : List ℕ) (l : Line) → LineOf names bytes l → IsKnownLine names l
  pub asked : (x : State) → IsReached x → All (IsAsked x.setup.names) x.order

module _ (laws : FittingLaws) where
  fits-here : (x : State) → IsReached x → IsPolicyFor x.setup.names x.setup.policy → IsPolicyFor x.setup.names (policy_now x)
  fits-here x reached first =
      policy-fits laws.rules x.setup.names x.setup (ended_before x.setup (is_lost x) x.order (has_ended x) (length x.order))
      (ended-fits x.setup.names x.setup (is_lost x) x.order (asked-fits x.setup.names (laws.known x.setup.names) x.order (laws.asked x reached))
      (has_ended x) (length x.order)) first

  -- of a run over a setup that is whole, by whatever version it is judged
  pub fits-now : (setup : Setup) (version : Version) (x : State) → by_version version setup ≡ x.setup → IsReached x → IsWhole setup
      → IsPolicyOf setup.names (policy_now x)
  fits-now setup version x same reached whole =
      let first : IsPolicyFor setup.names setup.policy = record {
        subjects = whole.agree.subjects;
        documents = whole.agree.documents;
        presence = whole.agree.presence;
        cleared = whole.cleared;
        held = whole.held;
        cells = whole.cells;
      } in
      let here : IsPolicyFor x.setup.names (policy_now x) = fits-here x reached (subst (λ (s : Setup). IsPolicyFor s.names s.policy) same first) in
      let back : IsPolicyFor setup.names (policy_now x) = subst (λ (s : Setup). IsPolicyFor s.names (policy_now x)) (sym same) here in
      record { subjects = back.subjects; documents = back.documents; cleared = back.cleared; held = back.held }
