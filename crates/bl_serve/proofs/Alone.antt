-- Positions at which the lines of a session stand.
use Rattle.std.proofs.Common.{◌≡◌, ℕ, zero, suc, ◌+◌, ◌<◌, ◌≤◌, ◌⊎◌, inl, inr, true, false, cond, List, [], ◌∷◌, ◌++◌, length, Some, refl, ap, ◌∙◌, arith}
use Rattle.std.specs.Prelude.{slice_get, ◌==◌}
use Rattle.std.proofs.lemmas.Bool.Decides.{eqb_tells}
use Rattle.bl_work.specs.declared.work.Work.{Work}
use Rattle.bl_order.specs.Machine.{Event, Opens, Admits, Starts, Ends, Loses}
use Rattle.bl_gate.specs.Counts.{times}
use Rattle.bl_gate.proofs.Totals.{times-append}
use Rattle.bl_gate.proofs.Trails.{get_later}
use Rattle.bl_session.specs.Transcripts.{admitted}
use Rattle.bl_serve.specs.Courses.{StandAt}

-- events without a line of the session
none_admitted : (session : ℕ) (events : List Event) → ((j k : ℕ) (w : Work) → slice_get events j ≡ Some (Admits session k w) → ⊥) → admitted session events ≡ []
none_admitted session [] none = refl
none_admitted session (Opens u ∷ events) none = none_admitted session events (λ j. none (suc j))
none_admitted session (Admits i k w ∷ events) none = go (none_admitted session events (λ j. none (suc j))) (eqb_tells i session)
  where
    go : admitted session events ≡ [] → (((i == session) ≡ true) × (i ≡ session)) ⊎ (((i == session) ≡ false) × (i ≡ session → ⊥)) → cond (i == session) ((k, w) ∷ admitted session events) (admitted session events) ≡ []
    go rest (inl t) = absurd (none 0 k w (ap (λ j. Some (Admits j k w)) t.1))
    go rest (inr t) = ap (λ b. cond b ((k, w) ∷ admitted session events) (admitted session events)) t.0 ∙ rest
none_admitted session (Starts n ∷ events) none = none_admitted session events (λ j. none (suc j))
none_admitted session (Ends n ∷ events) none = none_admitted session events (λ j. none (suc j))
none_admitted session (Loses n ∷ events) none = none_admitted session events (λ j. none (suc j))

-- ---- what stands where

get_back : (xs ys : List Event) (j : ℕ) (e : Event) → slice_get ys j ≡ Some e → slice_get (xs ++ ys) (length xs + j) ≡ Some e
get_back [] ys j e h = ap (slice_get ys) (zero_more j) ∙ h
  where
    zero_more : (j : ℕ) → 0 + j ≡ j
    zero_more j = omega arith
get_back (x ∷ xs) ys j e h = ap (slice_get (x ∷ (xs ++ ys))) (suc_more (length xs) j) ∙ get_back xs ys j e h
  where
    suc_more : (m j : ℕ) → suc m + j ≡ suc (m + j)
    suc_more m j = omega arith

pub get_inside : (xs : List Event) (p : ℕ) (e : Event) → slice_get xs p ≡ Some e → p < length xs
get_inside [] p e h = absurd (cc)
get_inside (x ∷ xs) zero e h = omega arith
get_inside (x ∷ xs) (suc p) e h = omega (arith, get_inside xs p e h)

pub either : (i : ℕ) (g h : List ℕ) → 1 ≤ times i (g ++ h) → (1 ≤ times i g) ⊎ (1 ≤ times i h)
either i g h some = let e = times-append i g h in grind arith

-- A trail that was seen went on, and positions were gained at which no line of the session stands: so its lines stood at the others
-- already, and no more of them came.
module _ (session : ℕ) (g h : List ℕ) (seen others : List Event) (alone : StandAt (g ++ h) session (seen ++ others))
    (none : (p k : ℕ) (w : Work) → slice_get (seen ++ others) p ≡ Some (Admits session k w) → 1 ≤ times p h → ⊥) (within : (p : ℕ) → 1 ≤ times p g → p < length seen) where
  old : (p k : ℕ) (w : Work) → slice_get (seen ++ others) p ≡ Some (Admits session k w) → 1 ≤ times p g
  old p k w at = go (either p g h (alone p k w at))
    where
      go : (1 ≤ times p g) ⊎ (1 ≤ times p h) → 1 ≤ times p g
      go (inl mine) = mine
      go (inr new) = absurd (none p k w at new)

  pub stood : StandAt g session seen
  stood p k w at = old p k w (get_later (seen ++ others) seen p (Admits session k w) (others, refl) at)

  pub none_came : admitted session others ≡ []
  none_came = none_admitted session others (λ j k w at. let lt = within (length seen + j) (old (length seen + j) k w (get_back seen others j (Admits session k w) at)) in absurd (omega (arith, lt)))
