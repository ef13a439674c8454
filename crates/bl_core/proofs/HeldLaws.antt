-- What is held, place by place.
use Rattle.std.proofs.Common.{◌≡◌, ℕ, zero, suc, ◌+◌, ◌-◌, ◌<◌, ◌≤◌, Bool, true, false, cond, List, [], ◌∷◌, ◌++◌, length, refl, ap, sym, ◌∙◌, subst, arith, append_assoc, true≢false}
use Rattle.std.specs.Prelude.{map}
use Rattle.std.proofs.lemmas.List.{map-append}
use Rattle.bl_policy.specs.declared.access.Access.{Access}
use Rattle.bl_policy.specs.declared.access.Mode.{Mode}
use Rattle.bl_order.specs.Headline.{IsReached}
use Rattle.bl_order.specs.Order.{Task, Runs, Applies, accesses_of, is_rule}
use Rattle.bl_order.specs.Room.{IsBehaviourOrRule}
use Rattle.bl_order.specs.Machine.{State, held, held_below, is_running, past_at, runs}
use Rattle.bl_order.proofs.Reached.{sound-reached}
use Rattle.bl_order.proofs.Present.{rule_never_runs}
use Rattle.bl_work.specs.Script.{IsBehaviour}
use Rattle.bl_work.specs.Statements.{no_part}
use Rattle.std.proofs.lemmas.List.Elements.{All-get_or}
use Rattle.bl_core.specs.HeldItems.{item_of, items_by, items_at, items_from, items_left, AreBehaviours}
use Rattle.bl_core.specs.declared.held.Held.TheInside.{Inside as Left}
use Rattle.bl_place.specs.Places.{place_in, phase_of, task_in}
use Rattle.bl_core.specs.Keeps.{Keeps}
use Rattle.bl_core.specs.View.{state_of}
use Rattle.bl_place.specs.declared.place.Place.{Place}
use Rattle.bl_core.specs.declared.machine.Core.TheInside.{Inside}
use Rattle.bl_core.proofs.Views.{length-order, phase-read}

items-map : (subject : ℕ) (accesses : List Access)
    → map item_of (map (λ (a : Access). record { subject = subject; doc = a.doc; mode = a.mode }) accesses) ≡ items_by subject accesses
items-map subject [] = refl
items-map subject (a ∷ accesses) = ap (λ l. (subject, a.doc, a.mode) ∷ l) (items-map subject accesses)

-- a place that does not run is passed
pub items_pass : (places : List Place) (n : ℕ) → n < length places → is_running (phase_of (place_in places n).stand) ≡ false
    → items_from places n (length places - n) ≡ items_from places (n + 1) (length places - (n + 1))
items_pass places n lt idle =
    ap (items_from places n) (counts (length places) n lt)
    ∙ ap (λ b. cond b (items_by (place_in places n).subject (accesses_of (task_in places n))) [] ++ items_from places (suc n) (length places - (n + 1))) idle
    ∙ ap (λ m. items_from places m (length places - (n + 1))) (next n)
  where
    counts : (a b : ℕ) → b < a → a - b ≡ suc (a - (b + 1))
    counts a b h = omega (arith, h)

    next : (a : ℕ) → suc a ≡ a + 1
    next a = omega arith

-- a place that runs comes with what it declares
pub items_here : (places : List Place) (n : ℕ) → n < length places → is_running (phase_of (place_in places n).stand) ≡ true
    → items_from places n (length places - n) ≡ items_by (place_in places n).subject (accesses_of (task_in places n)) ++ items_from places (n + 1) (length places - (n + 1))
items_here places n lt runs =
    ap (items_from places n) (counts (length places) n lt)
    ∙ ap (λ b. cond b (items_by (place_in places n).subject (accesses_of (task_in places n))) [] ++ items_from places (suc n) (length places - (n + 1))) runs
    ∙ ap (λ m. items_by (place_in places n).subject (accesses_of (task_in places n)) ++ items_from places m (length places - (n + 1))) (next n)
  where
    counts : (a b : ℕ) → b < a → a - b ≡ suc (a - (b + 1))
    counts a b h = omega (arith, h)

    next : (a : ℕ) → suc a ≡ a + 1
    next a = omega arith

pub items_none : (places : List Place) (n : ℕ) → length places ≤ n → items_from places n (length places - n) ≡ []
items_none places n le = ap (items_from places n) (none (length places) n le)
  where
    none : (a b : ℕ) → a ≤ b → a - b ≡ 0
    none a b h = omega (arith, h)

module _ (c : Inside) (k : Keeps c) where
  -- what a place holds in the state
  item-held : (n : ℕ) → n < length c.places.items
      → map item_of (cond (runs (state_of c) n) (map (λ (a : Access). record { subject = (past_at (state_of c) n).subject; doc = a.doc; mode = a.mode }) (accesses_of (past_at (state_of c) n).task)) [])
      ≡ items_at c.places.items n
  item-held n lt =
      ap (λ b. map item_of (cond b (map (λ (a : Access). record { subject = (past_at (state_of c) n).subject; doc = a.doc; mode = a.mode }) (accesses_of (past_at (state_of c) n).task)) [])) (ap is_running (phase-read c n lt))
      ∙ go (is_running (phase_of (place_in c.places.items n).stand))
    where
      go : (b : Bool) → map item_of (cond b (map (λ (a : Access). record { subject = (past_at (state_of c) n).subject; doc = a.doc; mode = a.mode }) (accesses_of (past_at (state_of c) n).task)) [])
          ≡ cond b (items_by (place_in c.places.items n).subject (accesses_of (task_in c.places.items n))) []
      go true =
          items-map (past_at (state_of c) n).subject (accesses_of (past_at (state_of c) n).task)
          ∙ ap (λ s. items_by s (accesses_of (past_at (state_of c) n).task)) (k.told n lt).subject
          ∙ ap (λ t. items_by (place_in c.places.items n).subject (accesses_of t)) (k.told n lt).task
      go false = refl

  held-below : (n count : ℕ) → n + count ≤ length c.places.items
      → map item_of (held_below (state_of c) n) ++ items_from c.places.items n count ≡ map item_of (held_below (state_of c) (n + count))
  held-below n zero le =
      append_none (map item_of (held_below (state_of c) n)) ∙ ap (λ m. map item_of (held_below (state_of c) m)) (plus_zero n)
    where
      append_none : {X : Type 0} (xs : List X) → xs ++ [] ≡ xs
      append_none [] = refl
      append_none (x ∷ xs) = ap (λ l. x ∷ l) (append_none xs)

      plus_zero : (a : ℕ) → a ≡ a + 0
      plus_zero a = omega arith
  held-below n (suc count) le =
      sym (append_assoc (map item_of (held_below (state_of c) n)) (items_at c.places.items n) (items_from c.places.items (suc n) count))
      ∙ ap (λ l. (map item_of (held_below (state_of c) n) ++ l) ++ items_from c.places.items (suc n) count) (sym (item-held n (omega (arith, le))))
      ∙ ap (λ l. l ++ items_from c.places.items (suc n) count)
      (sym (map-append item_of (held_below (state_of c) n)
      (cond (runs (state_of c) n) (map (λ (a : Access). record { subject = (past_at (state_of c) n).subject; doc = a.doc; mode = a.mode }) (accesses_of (past_at (state_of c) n).task)) [])))
      ∙ held-below (suc n) count (omega (arith, le))
      ∙ ap (λ m. map item_of (held_below (state_of c) m)) (plus_suc n count)
    where
      plus_suc : (a b : ℕ) → suc a + b ≡ a + suc b
      plus_suc a b = omega arith

  -- what all places hold is what is held
  pub items-held : items_from c.places.items 0 (length c.places.items) ≡ map item_of (held (state_of c))
  items-held = held-below 0 (length c.places.items) (omega arith) ∙ ap (λ m. map item_of (held_below (state_of c) m)) (zero_plus (length c.places.items) ∙ sym (length-order c))
    where
      zero_plus : (a : ℕ) → 0 + a ≡ a
      zero_plus a = omega arith

  pub behaviours : ((x : State) (m : ℕ) → IsReached x → m < length x.order → IsBehaviourOrRule (past_at x m).task) → AreBehaviours c.places.items
  behaviours law n lt runs_here = (
    (k.told n lt).behaviour,
    subst (λ (t : Task). is_rule t ≡ false) (k.told n lt).task behaves,
    subst (λ (t : Task). 0 < length (accesses_of t)) (k.told n lt).task (some (past_at (state_of c) n).task behaves (law (state_of c) n k.reached in_order)),
  )
    where
      in_order : n < length (state_of c).order
      in_order = subst (λ (m : ℕ). n < m) (sym (length-order c)) lt

      behaves : is_rule (past_at (state_of c) n).task ≡ false
      behaves = go (is_rule (past_at (state_of c) n).task) refl
        where
          go : (b : Bool) → is_rule (past_at (state_of c) n).task ≡ b → b ≡ false
          go false e = refl
          go true e = absurd (true≢false (sym ((sound-reached (state_of c) k.reached).allowed n in_order (ap is_running (phase-read c n lt) ∙ runs_here)) ∙ rule_never_runs (state_of c) n e))

      some : (t : Task) → is_rule t ≡ false → IsBehaviourOrRule t → 0 < length (accesses_of t)
      some (Runs script index) h is = (All-get_or IsBehaviour script index no_part is.1 is.0.each).some
      some (Applies rule) h is = absurd (true≢false h)

-- one access more is given
pub left_first : (subject : ℕ) (accesses others : List Access) (a : Access) (rest : List (ℕ × ℕ × Mode)) → accesses ≡ a ∷ others
    → items_by subject accesses ++ rest ≡ (subject, a.doc, a.mode) ∷ (items_by subject others ++ rest)
left_first subject accesses others a rest e = ap (λ l. items_by subject l ++ rest) e

module _ (h : Left) where
  -- nothing is left
  pub left_none : h.accesses.now ≡ [] → items_from h.places.now h.next (length h.places.now - h.next) ≡ [] → items_left h ≡ []
  left_none empty none = ap (λ l. items_by h.subject l ++ items_from h.places.now h.next (length h.places.now - h.next)) empty ∙ none

  -- the first access of the next place that runs is given
  pub left_next : (n : ℕ) (subject : ℕ) (accesses others : List Access) (a : Access) → h.accesses.now ≡ [] → n < length h.places.now
      → is_running (phase_of (place_in h.places.now n).stand) ≡ true
      → items_from h.places.now h.next (length h.places.now - h.next) ≡ items_from h.places.now n (length h.places.now - n)
      → subject ≡ (place_in h.places.now n).subject → accesses ≡ accesses_of (task_in h.places.now n) → accesses ≡ a ∷ others
      → items_left h ≡ (subject, a.doc, a.mode) ∷ (items_by subject others ++ items_from h.places.now (n + 1) (length h.places.now - (n + 1)))
  left_next n subject accesses others a empty lt runs skipped speaks are first =
      ap (λ l. items_by h.subject l ++ items_from h.places.now h.next (length h.places.now - h.next)) empty
      ∙ skipped
      ∙ items_here h.places.now n lt runs
      ∙ ap (λ s. items_by s (accesses_of (task_in h.places.now n)) ++ items_from h.places.now (n + 1) (length h.places.now - (n + 1))) (sym speaks)
      ∙ ap (λ l. items_by subject l ++ items_from h.places.now (n + 1) (length h.places.now - (n + 1))) (sym are ∙ first)

-- a list of no length is empty
pub none_of : (accesses : List Access) → length accesses ≡ 0 → accesses ≡ []
none_of [] e = refl
none_of (a ∷ accesses) e = absurd (omega (arith, e))

-- fewer items are left
pub fewer : (before now : List (ℕ × ℕ × Mode)) (item : ℕ × ℕ × Mode) → before ≡ item ∷ now → length now < length before
fewer before now item e = omega (arith, ap length e)
