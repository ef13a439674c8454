-- What the lines of events find.
use Rattle.std.proofs.Common.{◌≡◌, ℕ, ◌<◌, ◌≤◌, Bool, true, false, cond, List, ◌∷◌, [], zero, suc, drop, get_or, length, refl, sym, ◌∙◌, ap, arith, ◌⊎◌, inl, inr, true≢false}
use Rattle.std.specs.Prelude.{codes, Some, None, IsTrue, ◌==◌}
use Rattle.std.proofs.lemmas.Bool.Decides.{nat_tests}
use Rattle.bl_work.specs.declared.answer.Answer.{Answer}
use Rattle.bl_work.specs.declared.answer.Answer.TheVariants.{Done, RuleDone, Denied, Lost}
use Rattle.bl_order.specs.Past.{is_done}
use Rattle.bl_order.specs.Machine.{State, Event, Opens, Admits, Starts, Ends, Loses, Needs, MayStart, Phase, Waiting, is_running, runs, past_at}
use Rattle.bl_trail.specs.Asks.{opens, admits, starts, ends, loses, nothing}
use Rattle.bl_trail.specs.Asking.{asked_for}
use Rattle.bl_trail.specs.EventText.{start_words}
use Rattle.bl_trail.specs.OneEvent.{IsSmall}
use Rattle.bl_replay.specs.Marks.{Finding, ending_of}

itself : (n : ℕ) → (n == n) ≡ true
itself n = grind (arith, nat_tests)

told_apart : (m n : ℕ) → (m == n) ≡ false → m ≡ n → ⊥
told_apart m n h e = absurd (true≢false (sym (ap (λ k. k == n) e ∙ itself n) ∙ h))

running_within : (ps : List Phase) (n : ℕ) → is_running (get_or ps n Waiting) ≡ true → n < length ps
running_within ps n h = go ps n h
  where
    go : (qs : List Phase) (m : ℕ) → is_running (get_or qs m Waiting) ≡ true → m < length qs
    go [] m h = absurd (true≢false (sym h))
    go (p ∷ qs) zero h = omega arith
    go (p ∷ qs) (suc m) h = let lt : m < length qs = go qs m h in omega arith

some_of : (p q : ℕ × Bool) → ◌≡◌ {A = Finding} (Some p) (Some q) → p ≡ q
some_of p q h = cc

same_place : (n m : ℕ) (b c : Bool) → ◌≡◌ {A = Finding} (Some (n, b)) (Some (m, c)) → n ≡ m
same_place n m b c h = ap (λ (p : ℕ × Bool). p.0) (some_of (n, b) (m, c) h)

no_place : (n : ℕ) (b : Bool) → ◌≡◌ {A = Finding} (Some (n, b)) None → ⊥
no_place n b h = absurd (cc)

module _ (x : State) (small : IsSmall x) where
  -- what an event finds is told by what is asked
  pub finds-start : (e : Event) (n : ℕ) (words : List ℕ) → starts n words ≡ asked_for x e → (words ≡ codes "run" → ◌≡◌ {A = Finding} None (ending_of x e)) × ((words ≡ codes "run" → ⊥) → ◌≡◌ {A = Finding} (Some (n, false)) (ending_of x e))
  finds-start (Opens s) n words h = absurd (cc)
  finds-start (Admits i k w) n words h = absurd (cc)
  finds-start (Ends m) n words h = absurd (cc)
  finds-start (Loses m) n words h = absurd (cc)
  finds-start (Starts m) n words h = go (past_at x m).answer (number h) (said h)
    where
      number : starts n words ≡ starts m (drop 1 (start_words x.setup.names (past_at x m).answer)) → n ≡ m
      number e = cc

      said : starts n words ≡ starts m (drop 1 (start_words x.setup.names (past_at x m).answer)) → words ≡ drop 1 (start_words x.setup.names (past_at x m).answer)
      said e = cc

      third : (l k : List ℕ) → l ≡ k → get_or l 2 0 ≡ get_or k 2 0
      third l k e = ap (λ t. get_or t 2 0) e

      go : (a : Answer) → n ≡ m → words ≡ drop 1 (start_words x.setup.names a)
          → (words ≡ codes "run" → ◌≡◌ {A = Finding} None (cond (is_done a) None (Some (m, false)))) × ((words ≡ codes "run" → ⊥) → ◌≡◌ {A = Finding} (Some (n, false)) (cond (is_done a) None (Some (m, false))))
      go (Done shown) i w = ((λ run. refl), (λ other. absurd (other w)))
      go RuleDone i w = ((λ run. absurd (told_apart 108 110 refl (third (codes "rule") (codes "run") (sym w ∙ run)))), (λ other. ap (λ k. Some (k, false)) i))
      go (Denied d) i w = ((λ run. absurd (told_apart 100 114 refl (ap (λ t. get_or t 0 0) (sym w ∙ run)))), (λ other. ap (λ k. Some (k, false)) i))
      go Lost i w = ((λ run. absurd (told_apart 108 114 refl (ap (λ t. get_or t 0 0) (sym w ∙ run)))), (λ other. ap (λ k. Some (k, false)) i))

  pub finds-end : (e : Event) (n : ℕ) → ends n ≡ asked_for x e → ◌≡◌ {A = Finding} (Some (n, false)) (ending_of x e)
  finds-end (Opens s) n h = absurd (cc)
  finds-end (Admits i k w) n h = absurd (cc)
  finds-end (Starts m) n h = absurd (cc)
  finds-end (Ends m) n h = cc
  finds-end (Loses m) n h = absurd (cc)

  pub finds-loss : (e : Event) (n : ℕ) → loses n ≡ asked_for x e → ◌≡◌ {A = Finding} (Some (n, true)) (ending_of x e)
  finds-loss (Opens s) n h = absurd (cc)
  finds-loss (Admits i k w) n h = absurd (cc)
  finds-loss (Starts m) n h = absurd (cc)
  finds-loss (Ends m) n h = absurd (cc)
  finds-loss (Loses m) n h = cc

  pub finds-opening : (e : Event) (name : List ℕ) → opens name ≡ asked_for x e → ◌≡◌ {A = Finding} None (ending_of x e)
  finds-opening (Opens s) name h = refl
  finds-opening (Admits i k w) name h = absurd (cc)
  finds-opening (Starts m) name h = absurd (cc)
  finds-opening (Ends m) name h = absurd (cc)
  finds-opening (Loses m) name h = absurd (cc)

  pub finds-line : (e : Event) (i k : ℕ) (text : List ℕ) → admits i k text ≡ asked_for x e → ◌≡◌ {A = Finding} None (ending_of x e)
  finds-line (Opens s) i k text h = absurd (cc)
  finds-line (Admits j l w) i k text h = refl
  finds-line (Starts m) i k text h = absurd (cc)
  finds-line (Ends m) i k text h = absurd (cc)
  finds-line (Loses m) i k text h = absurd (cc)

  pub finds-nothing : (e : Event) → nothing ≡ asked_for x e → ⊥
  finds-nothing (Opens s) h = absurd (cc)
  finds-nothing (Admits j l w) h = absurd (cc)
  finds-nothing (Starts m) h = absurd (cc)
  finds-nothing (Ends m) h = absurd (cc)
  finds-nothing (Loses m) h = absurd (cc)

  -- no event ends a place past the most that there may be
  pub ends-small : (e : Event) (n : ℕ) (b : Bool) → Needs x e → ◌≡◌ {A = Finding} (Some (n, b)) (ending_of x e) → n < 100000
  ends-small (Opens s) n b needs h = absurd (no_place n b h)
  ends-small (Admits i k w) n b needs h = absurd (no_place n b h)
  ends-small (Starts m) n b may h = go (is_done (past_at x m).answer) h
    where
      go : (c : Bool) → ◌≡◌ {A = Finding} (Some (n, b)) (cond c None (Some (m, false))) → n < 100000
      go true e = absurd (no_place n b e)
      go false e =
          let same : n ≡ m = same_place n m b false e in
          let there : m < length x.order = may.there in
          let few : length x.order ≤ 100000 = small.order in
          omega arith
  ends-small (Ends m) n b r h =
      let same : n ≡ m = same_place n m b false h in
      let there : m < length x.phases = running_within x.phases m r in
      let few : length x.phases ≤ 100000 = small.phases in
      omega arith
  ends-small (Loses m) n b needs h =
      let same : n ≡ m = same_place n m b true h in
      let there : m < 100000 = go needs in
      omega arith
    where
      go : IsTrue (runs x m) ⊎ MayStart x m → m < 100000
      go (inl r) =
          let there : m < length x.phases = running_within x.phases m r in
          let few : length x.phases ≤ 100000 = small.phases in
          omega arith
      go (inr may) =
          let there : m < length x.order = may.there in
          let few : length x.order ≤ 100000 = small.order in
          omega arith
