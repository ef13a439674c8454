-- A quota stays right while the run goes on.
use Rattle.std.proofs.Common.{◌≡◌, ℕ, zero, suc, ◌≤◌, ◌<◌, ◌+◌, true, false, cond, List, [], ◌∷◌, ◌++◌, length, get_or, refl, ap, ◌∙◌, sym, arith, subst, length-append}
use Rattle.std.specs.Prelude.{sum_by}
use Rattle.std.specs.List.{range_with_len}
use Rattle.std.proofs.Math.ListN.{get_or-append}
use Rattle.bl_setup.specs.Setup.{Setup}
use Rattle.bl_order.specs.Headline.{IsReached}
use Rattle.bl_order.specs.Order.{Line}
use Rattle.bl_order.specs.Past.{Past, no_entry}
use Rattle.bl_order.specs.Machine.{State, Event, Opens, Admits, Starts, Ends, Loses, IsTrail, Needs, change, children_at, has_ended, past_at, session_at, state_after}
use Rattle.bl_order.specs.TheHeadline.{IsTheHeadline}
use Rattle.bl_order.proofs.PlaceSums.{sum-less}
use Rattle.bl_order.proofs.Reached.{reached-next}
use Rattle.bl_sizes.specs.Counts.{IsCounted, LeadsOn, in_word}
use Rattle.bl_sizes.specs.Sizes.{HoldsDocuments, ended_size, entry_size, run_most, written_at}
use Rattle.bl_sizes.proofs.Stepping.{setup-stays}
use Rattle.bl_quota.specs.Quotas.{IsQuota, IsSettled, WasQuota}
use Rattle.bl_quota.specs.declared.quota.Quota.{Quota}

entry-stays : (x : State) (e : Event) (n : ℕ) → n < length x.order → get_or (change x e).order n no_entry ≡ get_or x.order n no_entry
entry-stays x (Opens s) n lt = refl
entry-stays x (Admits i o w) n lt = get_or-append x.order (Line i o (session_at x i).subject w ∷ []) no_entry n lt
entry-stays x (Starts k) n lt = refl
entry-stays x (Ends k) n lt = get_or-append x.order (children_at x k) no_entry n lt
entry-stays x (Loses k) n lt = refl

longer : (x : State) (e : Event) → length x.order ≤ length (change x e).order
longer x (Opens s) = omega arith
longer x (Admits i o w) = omega (arith, length-append x.order (Line i o (session_at x i).subject w ∷ []))
longer x (Starts k) = omega arith
longer x (Ends k) = omega (arith, length-append x.order (children_at x k))
longer x (Loses k) = omega arith

less-same : (a b : ℕ) → a ≡ b → a ≤ b
less-same a b e = omega (arith, e)

less-same' : (a b : ℕ) → a ≡ b → b ≤ a
less-same' a b e = omega (arith, e)

module _ (all : (x : State) → IsReached x → IsTheHeadline x) where
  -- what has ended has what it had
  written-stays : (x : State) (e : Event) → IsReached x → Needs x e → (n : ℕ) → n < length x.order → has_ended x n ≡ true → written_at (change x e) n ≡ written_at x n
  written-stays x e r needs n lt over =
      (λ i. entry_size (setup-stays x e i).names (entry-stays x e n lt i) + cond (over-too i) (ended_size (past i).answer) run_most)
    where
      over-too : has_ended (change x e) n ≡ has_ended x n
      over-too = (all x r).ended_stays e needs n over ∙ sym over

      past : past_at (change x e) n ≡ past_at x n
      past = (all x r).said_stays e needs n lt over

  settled-step : (x : State) (e : Event) (kept settled : ℕ) → IsReached x → Needs x e → IsSettled x kept settled → IsSettled (change x e) kept settled
  settled-step x e kept settled r needs s = record {
    there = omega (arith, s.there, longer x e);
    ended = λ n lt. (all x r).ended_stays e needs n (s.ended n lt);
    are = s.are ∙ ap in_word same;
  }
    where
      stays : (m : ℕ) → m < kept → written_at (change x e) m ≡ written_at x m
      stays m lt = written-stays x e r needs m (omega (arith, lt, s.there)) (s.ended m lt)

      same : sum_by (written_at x) (range_with_len 0 kept) ≡ sum_by (written_at (change x e)) (range_with_len 0 kept)
      same =
          let there = sum-less (written_at x) (written_at (change x e)) 0 kept (λ m above below. less-same (written_at (change x e) m) (written_at x m) (stays m (omega (arith, below)))) in
          let back = sum-less (written_at (change x e)) (written_at x) 0 kept (λ m above below. less-same' (written_at (change x e) m) (written_at x m) (stays m (omega (arith, below)))) in
          omega (arith, there, back)

  settled-trail : (x : State) (es : List Event) (kept settled : ℕ) → IsReached x → IsTrail x es → IsSettled x kept settled → IsSettled (state_after x es) kept settled
  settled-trail x [] kept settled r t s = s
  settled-trail x (e ∷ es) kept settled r t s = settled-trail (change x e) es kept settled (reached-next x e r t.0) t.1 (settled-step x e kept settled r t.0 s)

  setup-trail : (x : State) (es : List Event) → (state_after x es).setup ≡ x.setup
  setup-trail x [] = refl
  setup-trail x (e ∷ es) = setup-trail (change x e) es ∙ setup-stays x e

  -- the quota of an earlier state is one of a later state
  pub quota-now : ((x y : State) (count place : ℕ) → IsReached x → HoldsDocuments x.setup → LeadsOn x y → IsCounted x count place → IsCounted y count place)
      → (quota : Quota) (y : State) → WasQuota quota y → IsQuota quota y
  quota-now counts quota y was = record {
    documents = subst HoldsDocuments (sym (ap (λ (z : State). z.setup) was.on.leads ∙ setup-trail was.before was.on.events)) was.was.documents;
    counted = counts was.before y quota.count quota.seen was.reached was.was.documents was.on was.was.counted;
    settled = subst (λ (z : State). IsSettled z quota.kept quota.settled) (sym was.on.leads)
        (settled-trail was.before was.on.events quota.kept quota.settled was.reached was.on.steps was.was.settled);
  }
