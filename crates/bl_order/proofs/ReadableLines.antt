-- The work of each line in the order of a state that a trail leads to is one that some bytes ask.
use Rattle.std.proofs.Common.{ℕ, ◌+◌, List, [], ◌∷◌, sym, subst, arith}
use Rattle.std.specs.Prelude.{All}
use Rattle.std.proofs.lemmas.List.Elements.{All-append, All-push}
use Rattle.bl_work.specs.Effects.{children}
use Rattle.bl_work.specs.Names.{KnownNames}
use Rattle.bl_order.specs.Order.{Line, Child}
use Rattle.bl_order.specs.Machine.{State, Event, Opens, Admits, Starts, Ends, Loses, Needs, IsTrail, change, child_entries, past_at, session_at, start, state_after}
use Rattle.bl_order.specs.Headline.{IsReached}
use Rattle.bl_order.specs.Known.{IsAsked}

abbrev AreAsked : State → Type 0
AreAsked x = All (IsAsked x.setup.names) x.order

none : (names : KnownNames) → All (IsAsked names) []
none names = λ k d lt. absurd (omega (arith, lt))

-- children are asked by no line
asked-children : (names : KnownNames) (parent which : ℕ) (behaviours : List ℕ) → All (IsAsked names) (child_entries parent which behaviours)
asked-children names parent which [] = none names
asked-children names parent which (behaviour ∷ behaviours) =
    All-append (IsAsked names) (Child parent which ∷ []) (child_entries parent (which + 1) behaviours)
    (All-push (IsAsked names) [] (Child parent which) (none names) tt) (asked-children names parent (which + 1) behaviours)

asked-step : (x : State) (e : Event) → AreAsked x → Needs x e → AreAsked (change x e)
asked-step x (Opens subject) are needs = are
asked-step x (Admits session ordinal work) are needs =
    All-push (IsAsked x.setup.names) x.order (Line session ordinal (session_at x session).subject work) are needs.1
asked-step x (Starts n) are needs = are
asked-step x (Ends n) are needs =
    All-append (IsAsked x.setup.names) x.order (child_entries n 1 (children (past_at x n).effects)) are
    (asked-children x.setup.names n 1 (children (past_at x n).effects))
asked-step x (Loses n) are needs = are

asked-trail : (x : State) (es : List Event) → AreAsked x → IsTrail x es → AreAsked (state_after x es)
asked-trail x [] are trail = are
asked-trail x (e ∷ es) are trail = asked-trail (change x e) es (asked-step x e are trail.0) trail.1

pub asked-reached : (x : State) → IsReached x → AreAsked x
asked-reached x r = subst AreAsked (sym r.leads) (asked-trail (start r.setup r.limit) r.events (none r.setup.names) r.trail)
