-- Which events are meant: all of a true text, or the first ones.
use Rattle.std.proofs.Common.{◌≡◌, ◌++◌, ◌∷◌, ◌∙◌, ℕ, List, [], ap, refl, sym}
use Rattle.std.specs.Prelude.{codes, Some, None}
use Rattle.std.specs.List.{AllByRecursion}
use Rattle.bl_policy.specs.Policy.{SecurityPolicy}
use Rattle.bl_setup.specs.Setup.{Setup, by_version}
use Rattle.bl_order.specs.Headline.{IsReached}
use Rattle.bl_order.specs.Machine.{Event, IsTrail, start, state_after}
use Rattle.bl_order.specs.Now.{policy_now}
use Rattle.bl_trail.specs.TrueText.{HasNoLf, IsTrueText, event_texts, head_lines}
use Rattle.bl_trail.proofs.Following.{joined-append, setup-end}
use Rattle.bl_explain.specs.Run.{rules_of}
use Rattle.bl_explain.specs.Since.{policy_after}
use Rattle.bl_explain.specs.declared.since.Applied.{Applied}
use Rattle.bl_ruled.specs.Ruled.{IsFront, front_end, front_rules, front_start}
use Rattle.bl_explaining_trail.specs.Moments.{AreRulesAt}

pub all-before : {A : Type 0} (P : A → Type 0) (a b : List A) → AllByRecursion P (a ++ b) → AllByRecursion P a
all-before P [] b all = tt
all-before P (x ∷ a) b all = (all.0, all-before P a b all.1)

-- a true text begins with all its events
abbrev pub whole-front : (setup : Setup) (text : List ℕ) (count : ℕ) → IsTrueText setup text count → IsFront setup text count
whole-front setup text count t =
    let texts : List (List ℕ) = event_texts (start (by_version t.version setup) t.limit) t.events in
    record {
      version = t.version;
      has_setup = t.has_setup;
      limit = t.limit;
      is_limit = t.is_limit;
      events = t.events;
      steps = t.steps;
      has_events = t.has_events;
      plain = (t.plain.0, (t.plain.1.0, all-before HasNoLf texts (codes "stop" ∷ []) t.plain.1.1));
      rest = codes "stop" ++ 10 ∷ [];
      is = t.is ∙ joined-append (head_lines t.version t.limit ++ texts) (codes "stop" ∷ []);
      counted = t.counted;
    }

-- so its rules are those of all its events
pub all-meant : (setup : Setup) (text : List ℕ) (count : ℕ) (rules : List Applied) (t : IsTrueText setup text count)
    → rules ≡ rules_of 0 (start (by_version t.version setup) t.limit) t.events → AreRulesAt setup text None rules
all-meant setup text count rules t are = (count, t, whole-front setup text count t, are)

pub first-meant : (setup : Setup) (text : List ℕ) (count : ℕ) (rules : List Applied) (front : IsFront setup text count)
    → rules ≡ front_rules setup text count front → AreRulesAt setup text (Some count) rules
first-meant setup text count rules front are = (count, refl, front, are)

module _ (setup : Setup) (text : List ℕ) (count : ℕ) (front : IsFront setup text count) where
  pub front-reached : IsReached (front_end setup text count front)
  front-reached = record { setup = by_version front.version setup; limit = front.limit; events = front.events; trail = front.steps; leads = refl }

  pub front-setup : by_version front.version setup ≡ (front_end setup text count front).setup
  front-setup = setup-end (front_start setup text count front) front.events

  -- the policy that the rules make is that of the run there
  pub front-policy : ((setup : Setup) (limit : ℕ) (events : List Event) → IsTrail (start setup limit) events
      → policy_now (state_after (start setup limit) events) ≡ policy_after setup.policy (rules_of 0 (start setup limit) events))
      → (p : SecurityPolicy) (rules : List Applied) → p ≡ policy_after setup.policy rules → rules ≡ front_rules setup text count front
      → p ≡ policy_now (front_end setup text count front)
  front-policy law p rules made are =
      made ∙ ap (policy_after setup.policy) are ∙ sym (law (by_version front.version setup) front.limit front.events front.steps)
