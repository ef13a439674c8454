use Rattle.std.proofs.Common.{rules, ◌≡◌, length, sym, ◌∙◌, subst}
use Rattle.bl_setup.specs.Agreement.{Agree}
use Rattle.bl_order.specs.Headline.{IsReached}
use Rattle.bl_order.specs.Now.{content_now, policy_now}
use Rattle.bl_order.specs.Standing.{setup_now, tabled}
use Rattle.bl_state.specs.Whole.{IsWhole}
use Rattle.bl_next.proofs.next.next_setup.Goals as goal

pub of-requires : goal.of-requires
of-requires c =
    let x = c.args.core.now in
    let names : c.in_ok-names.names ≡ x.setup.names = search rules in
    let policy : c.in_ok-policy.policy ≡ policy_now x = search rules in
    let contents : c.in_ok-contents.contents.items ≡ tabled 0 (length x.setup.contents) (content_now x) = search rules in
    let reached : IsReached x = search rules in
    let whole : IsWhole (setup_now x) = c.states_stay_whole.ensures.now x reached c.requires.ended c.requires.whole in
    subst Agree (λ i. record { names = sym names i; policy = sym policy i; contents = sym contents i; version = whole.two i }) whole.agree

pub returns-clause-stands : goal.returns-clause-stands
returns-clause-stands c =
    let x = c.args.core.now in
    let names : c.in_ok-names.names ≡ x.setup.names = search rules in
    let policy : c.in_ok-policy.policy ≡ policy_now x = search rules in
    let contents : c.in_ok-contents.contents.items ≡ tabled 0 (length x.setup.contents) (content_now x) = search rules in
    let reached : IsReached x = search rules in
    let whole : IsWhole (setup_now x) = c.states_stay_whole.ensures.now x reached c.requires.ended c.requires.whole in
    c.of.ensures ∙ sym (λ i. record { names = sym names i; policy = sym policy i; contents = sym contents i; version = whole.two i })

pub returns-clause-whole : goal.returns-clause-whole
returns-clause-whole c =
    let x = c.args.core.now in
    let reached : IsReached x = search rules in
    subst IsWhole (sym (returns-clause-stands c)) (c.states_stay_whole.ensures.now x reached c.requires.ended c.requires.whole)
