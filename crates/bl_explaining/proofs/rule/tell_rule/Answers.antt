use Rattle.std.proofs.Common.{◌≡◌, ◌∙◌, [], ap}
use Rattle.std.specs.Prelude.{is_none}
use Rattle.bl_explain.specs.RuleTests.{in_turn, rule_tests_on}
use Rattle.bl_explain.specs.Tests.{fails_first}
use Rattle.bl_explain_text.specs.Telling.{rule_verdict}
use Rattle.bl_explaining.specs.Shown.{rule_grounds_in, with_conditions, with_line}
use Rattle.bl_explaining.proofs.Nones.{none-is}
use Rattle.bl_explaining.proofs.rule.tell_rule.Goals as goal

pub returns : goal.returns
returns c =
    let t = c.args.setting.now in
    let rule = c.args.rule.now in
    let words = c.args.words.now in
    let names = t.moment.setup.now.names in
    let places = c.in_ok-places.places in
    let tests : c.tests-tests.result ≡ rule_tests_on (rule_grounds_in t rule) rule =
    c.tests-tests.ensures ∙ ap (λ g. rule_tests_on g rule) c.rule_grounds.ensures.value in
    let failed : c.fails_first-failed.result ≡ fails_first (in_turn (rule_tests_on (rule_grounds_in t rule) rule)) =
    c.fails_first-failed.ensures ∙ ap (λ u. fails_first (in_turn u)) tests in
    let line : c.deref.result.now ≡ rule_verdict names t.subject (fails_first (in_turn (rule_tests_on (rule_grounds_in t rule) rule))) words =
    c.deref.ensures.value ∙ c.in_ok-line.ensures ∙ ap (λ n. rule_verdict n t.subject c.fails_first-failed.result words) c.names.ensures
    ∙ ap (λ f. rule_verdict names t.subject f words) failed in
    let first : c.put_line.new.text.items
    ≡ with_line [] (rule_verdict names t.subject (fails_first (in_turn (rule_tests_on (rule_grounds_in t rule) rule))) words) =
    c.in_ok-put_line.ensures ∙ ap (λ l. with_line l c.deref.result.now) c.new-text.ensures.items ∙ ap (with_line []) line in
    record {
      places = places;
      are = c.in_ok-places.ensures;
      granted_is = none-is c.fails_first-failed.result c.is_none.result c.is_none.ensures ∙ ap is_none failed;
      text_is = c.in_ok-put_conditions.ensures
          ∙ ap (with_conditions t rule places c.tests-tests.result.first c.tests-tests.result.second) first
          ∙ ap (λ u. with_conditions t rule places u.first u.second
          (with_line [] (rule_verdict names t.subject (fails_first (in_turn (rule_tests_on (rule_grounds_in t rule) rule))) words))) tests;
    }
