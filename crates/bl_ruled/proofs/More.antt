-- The rules of one event more.
use Rattle.std.proofs.Common.{◌≡◌, ℕ, suc, ◌+◌, List, [], ◌∷◌, ◌++◌, length, refl, sym, ◌∙◌, ap, arith, append_assoc, append-nil}
use Rattle.bl_order.specs.Machine.{State, Event, Opens, Admits, Starts, Ends, Loses, change, past_at, state_after}
use Rattle.bl_explain.specs.Run.{applied_by, rules_of}
use Rattle.bl_explain.specs.declared.since.Applied.{Applied}
use Rattle.bl_ruled.specs.Noting.{rules_at}

one : (count number : ℕ) (x : State) (e : Event) → number ≡ suc count → rules_of count x (e ∷ []) ≡ rules_at number x e
one count number x (Opens subject) is = refl
one count number x (Admits session ordinal asked) is = refl
one count number x (Starts n) is = append-nil (applied_by (suc count) (past_at x n)) ∙ ap (λ (k : ℕ). applied_by k (past_at x n)) (sym is)
one count number x (Ends n) is = refl
one count number x (Loses n) is = refl

pub rules-more : (count number : ℕ) (x : State) (es : List Event) (e : Event) → number ≡ suc (count + length es)
    → rules_of count x (es ++ e ∷ []) ≡ rules_of count x es ++ rules_at number (state_after x es) e
rules-more count number x [] e is = one count number x e (omega (arith, is))
rules-more count number x (Opens subject ∷ es) e is = rules-more (suc count) number (change x (Opens subject)) es e (omega (arith, is))
rules-more count number x (Admits session ordinal asked ∷ es) e is =
    rules-more (suc count) number (change x (Admits session ordinal asked)) es e (omega (arith, is))
rules-more count number x (Starts n ∷ es) e is =
    let own = applied_by (suc count) (past_at x n) in
    ap (λ (l : List Applied). own ++ l) (rules-more (suc count) number (change x (Starts n)) es e (omega (arith, is)))
    ∙ sym (append_assoc own (rules_of (suc count) (change x (Starts n)) es) (rules_at number (state_after (change x (Starts n)) es) e))
rules-more count number x (Ends n ∷ es) e is = rules-more (suc count) number (change x (Ends n)) es e (omega (arith, is))
rules-more count number x (Loses n ∷ es) e is = rules-more (suc count) number (change x (Loses n)) es e (omega (arith, is))
