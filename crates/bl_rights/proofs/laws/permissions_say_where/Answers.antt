use Rattle.std.proofs.Common.{◌≡◌, true, refl, sym, ◌∙◌, subst, None, true≢false}
use Rattle.std.specs.Prelude.{is_none, Option, Some}
use Rattle.bl_policy.specs.declared.denial.Clause.{Clause}
use Rattle.bl_explain.specs.Grounds.{grounds_of}
use Rattle.bl_explain.specs.Tests.{fails_first, in_order, tests_of}
use Rattle.bl_explain.specs.declared.grounds.Grounds.{Grounds}
use Rattle.bl_policy.specs.Policy.{lowest}
use Rattle.bl_rights.specs.Permissions.{IsPermittedAt, first_grounds, permission_on}
use Rattle.bl_rights.proofs.Saying.{as-found, levels-said, never-said, now-said, right-said}
use Rattle.bl_rights.proofs.laws.permissions_say_where.Goals as goal

is-none : (o : Option Clause) → is_none o ≡ true → o ≡ None
is-none None h = refl
is-none (Some x) h = absurd (true≢false (sym h))

none-is : (o : Option Clause) → o ≡ None → is_none o ≡ true
none-is None h = refl
none-is (Some x) h = absurd (cc)

pub returns-clause-now : goal.returns-clause-now
returns-clause-now c = λ p s access there. (
  (λ h. (c.what_fails_first_decides.ensures.granted p s lowest access).0
      (is-none (fails_first (in_order (tests_of p s lowest access))) (sym (now-said p s access there) ∙ h))),
  (λ h. now-said p s access there
      ∙ none-is (fails_first (in_order (tests_of p s lowest access))) ((c.what_fails_first_decides.ensures.granted p s lowest access).1 h)),
)

pub returns-clause-levels : goal.returns-clause-levels
returns-clause-levels c = λ p s access current there known below no.
    let just = c.granted_at_just_these_levels.ensures.levels p s lowest access current known in
    let found = grounds_of p s lowest access in
    let said = levels-said c.dominance_is_antisymmetric.ensures found access.mode current below (sym (now-said p s access there) ∙ no) in
    let first : IsPermittedAt (permission_on found access.mode) current → IsPermittedAt (permission_on (first_grounds p s access) access.mode) current =
    λ h. subst (λ (g : Grounds). IsPermittedAt (permission_on g access.mode) current) (sym (as-found p s access there)) h in
    let last : IsPermittedAt (permission_on (first_grounds p s access) access.mode) current → IsPermittedAt (permission_on found access.mode) current =
    λ h. subst (λ (g : Grounds). IsPermittedAt (permission_on g access.mode) current) (as-found p s access there) h in (
      (λ h. first (said.0 (just.0 (below, h)))),
      (λ h. (just.1 (said.1 (last h))).1),
    )

pub returns-clause-rights : goal.returns-clause-rights
returns-clause-rights c = λ p s access. right-said (first_grounds p s access) access.mode

pub returns-clause-never : goal.returns-clause-never
returns-clause-never c = never-said c.dominates_means_dominance.ensures
