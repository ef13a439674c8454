-- The events of a hall, by what it keeps of them.
use Rattle.std.proofs.Common.{◌≡◌, ℕ, suc, ◌+◌, List, [], ◌∷◌, ◌++◌, length, refl, sym, ap, ◌∙◌, arith, append-nil}
use Rattle.std.specs.Prelude.{map}
use Rattle.bl_work.specs.declared.work.Work.{Work}
use Rattle.bl_order.specs.Machine.{State, Event, Opens, Admits, Starts, Ends, Loses, change, children_at, child_entries, session_at}
use Rattle.bl_order.specs.Order.{Entry, Line, Child}
use Rattle.bl_work.specs.Effects.{children}
use Rattle.bl_order.specs.Machine.{past_at}
use Rattle.bl_hall.specs.declared.event.Event as kept
use Rattle.bl_hall.specs.declared.event.Event.TheVariants as kept_as
use Rattle.bl_hall.specs.declared.hall.Hall.TheInside.{Inside}
use Rattle.bl_hall.specs.Chronicle.{kept_of, with_event}
use Rattle.bl_hall.specs.Recalled.{works_of, lines_in, later_works, recalled, chronicle_of}

-- the work that an event brings
abbrev pub new_works : Event → List Work
new_works (Opens subject) = []
new_works (Admits session ordinal work) = work ∷ []
new_works (Starts n) = []
new_works (Ends n) = []
new_works (Loses n) = []

works-more : (A B : List Entry) → works_of (A ++ B) ≡ works_of A ++ works_of B
works-more [] B = refl
works-more (Line s k u w ∷ A) B = ap (λ l. w ∷ l) (works-more A B)
works-more (Child p w ∷ A) B = works-more A B

works-kids : (p which : ℕ) (ks : List ℕ) → works_of (child_entries p which ks) ≡ []
works-kids p which [] = refl
works-kids p which (k ∷ ks) = works-kids p (which + 1) ks

pub works-change : (x : State) (e : Event) → works_of (change x e).order ≡ works_of x.order ++ new_works e
works-change x (Opens u) = sym (append-nil (works_of x.order))
works-change x (Admits s o w) = works-more x.order (Line s o (session_at x s).subject w ∷ [])
works-change x (Starts n) = sym (append-nil (works_of x.order))
works-change x (Ends n) =
    works-more x.order (children_at x n) ∙ ap (λ l. works_of x.order ++ l) (works-kids n 1 (children (past_at x n).effects))
works-change x (Loses n) = sym (append-nil (works_of x.order))

pub lines-more : (es : List kept.Event) (e : Event) → lines_in (es ++ kept_of e ∷ []) ≡ lines_in es + length (new_works e)
lines-more [] (Opens u) = refl
lines-more [] (Admits s o w) = refl
lines-more [] (Starts n) = refl
lines-more [] (Ends n) = refl
lines-more [] (Loses n) = refl
lines-more (kept_as.Open u ∷ es) e = lines-more es e
lines-more (kept_as.Line s o ∷ es) e = ap suc (lines-more es e) ∙ plus (lines_in es) (length (new_works e))
  where
    plus : (a b : ℕ) → suc (a + b) ≡ suc a + b
    plus a b = omega arith
lines-more (kept_as.Start n ∷ es) e = lines-more es e
lines-more (kept_as.End n ∷ es) e = lines-more es e
lines-more (kept_as.Lost n ∷ es) e = lines-more es e

first-more : (e : Event) → recalled (new_works e) (kept_of e ∷ []) ≡ e ∷ []
first-more (Opens u) = refl
first-more (Admits s o w) = refl
first-more (Starts n) = refl
first-more (Ends n) = refl
first-more (Loses n) = refl

pub recalled-more : (ws : List Work) (es : List kept.Event) (e : Event) → lines_in es ≡ length ws → recalled (ws ++ new_works e) (es ++ kept_of e ∷ []) ≡ recalled ws es ++ e ∷ []
recalled-more [] [] e h = first-more e
recalled-more (w ∷ ws) [] e h = absurd (omega (arith, h))
recalled-more ws (kept_as.Open u ∷ es) e h = ap (λ l. Opens u ∷ l) (recalled-more ws es e h)
recalled-more [] (kept_as.Line s o ∷ es) e h = absurd (omega (arith, h))
recalled-more (w ∷ ws) (kept_as.Line s o ∷ es) e h = ap (λ l. Admits s o w ∷ l) (recalled-more ws es e (omega (arith, h)))
recalled-more ws (kept_as.Start n ∷ es) e h = ap (λ l. Starts n ∷ l) (recalled-more ws es e h)
recalled-more ws (kept_as.End n ∷ es) e h = ap (λ l. Ends n ∷ l) (recalled-more ws es e h)
recalled-more ws (kept_as.Lost n ∷ es) e h = ap (λ l. Loses n ∷ l) (recalled-more ws es e h)

-- what is kept is the image of the events
pub kept-image : (ws : List Work) (es : List kept.Event) → map kept_of (recalled ws es) ≡ es
kept-image ws [] = refl
kept-image ws (kept_as.Open u ∷ es) = ap (λ l. kept_as.Open u ∷ l) (kept-image ws es)
kept-image ws (kept_as.Line s o ∷ es) = ap (λ l. kept_as.Line s o ∷ l) (kept-image (later_works ws) es)
kept-image ws (kept_as.Start n ∷ es) = ap (λ l. kept_as.Start n ∷ l) (kept-image ws es)
kept-image ws (kept_as.End n ∷ es) = ap (λ l. kept_as.End n ∷ l) (kept-image ws es)
kept-image ws (kept_as.Lost n ∷ es) = ap (λ l. kept_as.Lost n ∷ l) (kept-image ws es)

pub same-setup : (x : State) (e : Event) → (change x e).setup ≡ x.setup
same-setup x (Opens u) = refl
same-setup x (Admits s o w) = refl
same-setup x (Starts n) = refl
same-setup x (Ends n) = refl
same-setup x (Loses n) = refl

pub same-limit : (x : State) (e : Event) → (change x e).limit ≡ x.limit
same-limit x (Opens u) = refl
same-limit x (Admits s o w) = refl
same-limit x (Starts n) = refl
same-limit x (Ends n) = refl
same-limit x (Loses n) = refl

-- what a hall is with one event more
pub chronicle-next : (h d : Inside) (e : Event) → lines_in h.events.items ≡ length (works_of h.core.order) → d.core ≡ change h.core e → d.events.items ≡ h.events.items ++ kept_of e ∷ []
    → chronicle_of d ≡ with_event (chronicle_of h) e
chronicle-next h d e many core events = λ i. record { setup = setup i; limit = limit i; trail = trail i }
  where
    setup : d.core.setup ≡ h.core.setup
    setup = ap (λ (x : State). x.setup) core ∙ same-setup h.core e

    limit : d.core.limit ≡ h.core.limit
    limit = ap (λ (x : State). x.limit) core ∙ same-limit h.core e

    trail : recalled (works_of d.core.order) d.events.items ≡ recalled (works_of h.core.order) h.events.items ++ e ∷ []
    trail =
        ap (λ (x : State). recalled (works_of x.order) d.events.items) core
        ∙ ap (recalled (works_of (change h.core e).order)) events
        ∙ ap (λ ws. recalled ws (h.events.items ++ kept_of e ∷ [])) (works-change h.core e)
        ∙ recalled-more (works_of h.core.order) h.events.items e many
