-- The ids of rules are in the policy.
use Rattle.std.proofs.Common.{◌≡◌, List, [], ◌++◌, sym, subst}
use Rattle.std.specs.Prelude.{All, IfSome, Option, Some, None}
use Rattle.std.proofs.lemmas.List.Elements.{All-append, All-cons, All-nil}
use Rattle.bl_policy.specs.Policy.{SecurityPolicy}
use Rattle.bl_explain.specs.Since.{KnowsApplied}
use Rattle.bl_explain.specs.declared.since.Applied.{Applied}
use Rattle.bl_ruled.specs.Noting.{listed}

pub none-known : (p : SecurityPolicy) (rules : List Applied) → rules ≡ [] → All (KnowsApplied p) rules
none-known p rules none' = subst (λ (l : List Applied). All (KnowsApplied p) l) (sym none') (All-nil (KnowsApplied p))

listed-known : (p : SecurityPolicy) (applied : Option Applied) → IfSome applied (KnowsApplied p) → All (KnowsApplied p) (listed applied)
listed-known p None known = All-nil (KnowsApplied p)
listed-known p (Some rule) known = All-cons (KnowsApplied p) rule [] known (All-nil (KnowsApplied p))

pub more-known : (p : SecurityPolicy) (before after : List Applied) (applied : Option Applied) → after ≡ before ++ listed applied → All (KnowsApplied p) before
    → IfSome applied (KnowsApplied p) → All (KnowsApplied p) after
more-known p before after applied is all known =
    subst (λ (l : List Applied). All (KnowsApplied p) l) (sym is) (All-append (KnowsApplied p) before (listed applied) all (listed-known p applied known))
