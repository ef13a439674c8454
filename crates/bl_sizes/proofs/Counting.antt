-- A count stays right while a run goes on.
use Rattle.std.proofs.Common.{◌≡◌, ℕ, ◌≤◌, ◌<◌, ◌+◌, ◌-◌, List, [], ◌∷◌, length, ap, sym, arith, subst, length-append}
use Rattle.std.specs.Prelude.{sum_by}
use Rattle.std.specs.List.{range_with_len}
use Rattle.std.proofs.Math.ListN.{get_or-append}
use Rattle.std.proofs.Math.Seq.{get_or-append_seam}
use Rattle.std.proofs.lemmas.List.Sums.{sum_by-cons}
use Rattle.bl_order.specs.Headline.{IsReached}
use Rattle.bl_order.specs.Order.{Line}
use Rattle.bl_order.specs.Past.{no_entry}
use Rattle.bl_order.specs.Machine.{State, Event, Opens, Admits, Starts, Ends, Loses, IsTrail, Needs, change, children_at, session_at, state_after}
use Rattle.bl_order.proofs.PlaceSums.{sum-less, sum-split}
use Rattle.bl_order.proofs.Reached.{reached-next}
use Rattle.bl_order.proofs.RoomProof.{LinesAskScripts}
use Rattle.bl_sizes.specs.Counts.{IsCounted, LeadsOn, added_at, added_behind}
use Rattle.bl_sizes.specs.Sizes.{HoldsDocuments, added_by}
use Rattle.bl_sizes.proofs.Growing.{event_size}
use Rattle.bl_sizes.proofs.Stepping.{full-next, setup-stays}

-- an order that has grown at its end adds what it added, and what the new entries add
grown : (x y : State) (p c : ℕ) → p ≤ length x.order → length y.order ≡ length x.order + c → ((m : ℕ) → m < length x.order → added_at x m ≤ added_at y m)
    → added_behind x p + sum_by (added_at y) (range_with_len (length x.order) c) ≤ added_behind y p
grown x y p c le longer same =
    let split = sum-split (added_at y) p (length x.order - p) c (length y.order - p) (omega (arith, le, longer)) in
    let there : p + (length x.order - p) ≡ length x.order = omega (arith, le) in
    let less = sum-less (added_at y) (added_at x) p (length x.order - p) (λ m above below. same m (omega (arith, below, le))) in
    omega (arith, split, ap (λ a. sum_by (added_at y) (range_with_len a c)) there, less)

same-less : (a b : ℕ) → a ≡ b → b ≤ a
same-less a b e = omega (arith, e)

added-step : (x : State) (e : Event) (p : ℕ) → p ≤ length x.order → added_behind x p + event_size x.setup.names e ≤ added_behind (change x e) p
added-step x (Opens s) p le = omega arith
added-step x (Admits i o w) p le =
    omega (
      arith,
      grown x (change x (Admits i o w)) p 1 le (length-append x.order (Line i o (session_at x i).subject w ∷ []))
          (λ m lt. same-less (added_at (change x (Admits i o w)) m) (added_at x m) (ap (added_by x.setup.names) (get_or-append x.order (Line i o (session_at x i).subject w ∷ []) no_entry m lt))),
      sum_by-cons (added_at (change x (Admits i o w))) (length x.order) [],
      ap (added_by x.setup.names) (get_or-append_seam x.order (Line i o (session_at x i).subject w) [] no_entry),
    )
added-step x (Starts k) p le = omega arith
added-step x (Ends k) p le =
    omega (
      arith,
      grown x (change x (Ends k)) p (length (children_at x k)) le (length-append x.order (children_at x k))
          (λ m lt. same-less (added_at (change x (Ends k)) m) (added_at x m) (ap (added_by x.setup.names) (get_or-append x.order (children_at x k) no_entry m lt))),
    )
added-step x (Loses k) p le = omega arith

longer-step : (x : State) (e : Event) → length x.order ≤ length (change x e).order
longer-step x (Opens s) = omega arith
longer-step x (Admits i o w) = omega (arith, length-append x.order (Line i o (session_at x i).subject w ∷ []))
longer-step x (Starts k) = omega arith
longer-step x (Ends k) = omega (arith, length-append x.order (children_at x k))
longer-step x (Loses k) = omega arith

module _ (all : LinesAskScripts) where
  counted-step : (x : State) (e : Event) (count place : ℕ) → IsReached x → HoldsDocuments x.setup → Needs x e → IsCounted x count place → IsCounted (change x e) count place
  counted-step x e count place r short needs c = record {
    there = omega (arith, c.there, longer-step x e);
    all = omega (arith, c.all, full-next all x e r short needs, added-step x e place c.there);
  }

  counted-trail : (x : State) (es : List Event) (count place : ℕ) → IsReached x → HoldsDocuments x.setup → IsTrail x es → IsCounted x count place → IsCounted (state_after x es) count place
  counted-trail x [] count place r short t c = c
  counted-trail x (e ∷ es) count place r short t c =
      counted-trail (change x e) es count place (reached-next x e r t.0) (subst HoldsDocuments (sym (setup-stays x e)) short) t.1
      (counted-step x e count place r short t.0 c)

  pub counted-on : (x y : State) (count place : ℕ) → IsReached x → HoldsDocuments x.setup → LeadsOn x y → IsCounted x count place → IsCounted y count place
  counted-on x y count place r short on c =
      subst (λ z. IsCounted z count place) (sym on.leads) (counted-trail x on.events count place r short on.steps c)
