-- What a place that may start is lent.
use Rattle.std.proofs.Common.{◌≡◌, ℕ, zero, suc, ◌<◌, Bool, true, false, ◌||◌, List, [], ◌∷◌, ◌++◌, length, get_or, take, drop, refl, ap, sym, ◌∙◌, subst, arith, true≢false}
use Rattle.std.specs.Prelude.{map, ◌==◌}
use Rattle.std.specs.List.{list_any}
use Rattle.std.specs.Vec.{with_items}
use Rattle.std.proofs.lemmas.List.{length-map, get_or_read}
use Rattle.std.proofs.lemmas.Bool.Decides.{nat_tests}
use Rattle.bl_policy.specs.declared.access.Access.{Access}
use Rattle.bl_work.specs.Script.{IsBehaviour}
use Rattle.bl_work.specs.Statements.{Part, no_part}
use Rattle.bl_grant.specs.Loaned.{Loaned}
use Rattle.bl_grant.specs.Loans.{loans, lent_of, entry_of}
use Rattle.bl_eval.specs.Loan.{Loan, AreFor}
use Rattle.bl_order.specs.Order.{Task, Runs, Applies, accesses_of, is_declared, is_rule}
use Rattle.bl_order.specs.Machine.{MayStart}
use Rattle.bl_order.specs.Now.{content_at}
use Rattle.bl_order.proofs.HeadlineProof.{holds-reached}
use Rattle.bl_core.specs.Answers.{loan_of, loan_at, script_of, index_of}
use Rattle.bl_order.specs.Past.{first_task, child_task}
use Rattle.bl_work.specs.declared.work.Work.{Work}
use Rattle.bl_work.specs.declared.work.Work.TheVariants as works
use Rattle.bl_place.specs.Places.{no_place, place_in, work_in, task_in}
use Rattle.bl_place.specs.declared.place.Place.{Place}
use Rattle.bl_place.specs.Shelves.{content_in}
use Rattle.bl_core.specs.View.{state_of}
use Rattle.bl_core.specs.Keeps.{Keeps}
use Rattle.bl_place.specs.declared.shelf.Shelf.{Shelf}
use Rattle.bl_core.specs.declared.machine.Core.TheInside.{Inside}
use Rattle.bl_core.proofs.Reading.{shelves-declared, start_there}

take_front : (ws ys : List Shelf) → take (length ws) (ws ++ ys) ≡ ws
take_front [] ys = refl
take_front (w ∷ ws) ys = ap (λ l. w ∷ l) (take_front ws ys)

-- a slice that is written back is what a Vec has then
pub written_items : (c : Inside) (h : List Shelf) → length h ≡ c.shelves.len → (with_items c.shelves h).items ≡ h
written_items c h e = ap (λ (k : ℕ). take k (h ++ drop (length h) c.shelves.items)) (sym e) ∙ take_front h (drop (length h) c.shelves.items)

-- a behaviour's task, by its parts
pub runs_of : (t : Task) → is_rule t ≡ false → t ≡ Runs (script_of t) (index_of t)
runs_of (Runs script index) h = refl
runs_of (Applies rule) h = absurd (true≢false h)

pub accesses_part : (t : Task) → (get_or (script_of t) (index_of t) no_part).accesses ≡ accesses_of t
accesses_part (Runs script index) = refl
accesses_part (Applies rule) = refl

pub map-same : (f g : Access → List ℕ) (xs : List Access) → ((i : ℕ) (d : Access) → i < length xs → f (get_or xs i d) ≡ g (get_or xs i d)) → map f xs ≡ map g xs
map-same f g [] same = refl
map-same f g (x ∷ xs) same = ap (λ l. f x ∷ l) (map-same f g xs (λ i d lt. same (suc i) d (omega arith))) ∙ ap (λ v. v ∷ map g xs) (same 0 x (omega arith))

equal_self : (a : ℕ) → (a == a) ≡ true
equal_self a = grind (arith, nat_tests)

or_right : (a b : Bool) → b ≡ true → (a || b) ≡ true
or_right true b h = refl
or_right false b h = h

pub declared-member : (xs : List Access) (i : ℕ) (d : Access) → i < length xs → is_declared xs (get_or xs i d).doc ≡ true
declared-member [] i d lt = absurd (omega arith)
declared-member (x ∷ xs) zero d lt = ap (λ b. b || list_any (λ (a : Access). a.doc == x.doc) xs) (equal_self x.doc)
declared-member (x ∷ xs) (suc i) d lt = or_right (x.doc == (get_or xs i d).doc) (is_declared xs (get_or xs i d).doc) (declared-member xs i d (omega arith))

loans-lent : (e : ℕ) (xs : List Access) (cs : List (List ℕ)) → length cs ≡ length xs → lent_of (loans e xs cs) ≡ cs
loans-lent e [] [] h = refl
loans-lent e [] (c ∷ cs) h = absurd (omega (arith, h))
loans-lent e (x ∷ xs) [] h = absurd (omega (arith, h))
loans-lent e (x ∷ xs) (c ∷ cs) h = ap (λ l. c ∷ l) (loans-lent e xs cs (omega (arith, h)))

length-loans : (e : ℕ) (xs : List Access) (cs : List (List ℕ)) → length cs ≡ length xs → length (loans e xs cs) ≡ length xs
length-loans e [] [] h = refl
length-loans e [] (c ∷ cs) h = absurd (omega (arith, h))
length-loans e (x ∷ xs) [] h = absurd (omega (arith, h))
length-loans e (x ∷ xs) (c ∷ cs) h = ap suc (length-loans e xs cs (omega (arith, h)))

entry-loans : (e : ℕ) (xs : List Access) (cs : List (List ℕ)) → 0 < length xs → length cs ≡ length xs → entry_of (loans e xs cs) ≡ e
entry-loans e [] cs some h = absurd (omega (arith, some))
entry-loans e (x ∷ xs) [] some h = absurd (omega (arith, h))
entry-loans e (x ∷ xs) (c ∷ cs) some h = refl

-- the grants of a place, as they are lent
pub grants-new : (g : List Loaned) (e : ℕ) (part : Part) (xs : List Access) (cs : List (List ℕ)) → g ≡ loans e xs cs → xs ≡ part.accesses → IsBehaviour part → length cs ≡ length xs
    → (entry_of g ≡ e) × (lent_of g ≡ cs) × AreFor (entry_of g) part.accesses g
grants-new g e part xs cs is for behaviour same =
    let entry : entry_of g ≡ e = ap entry_of is ∙ entry-loans e xs cs (subst (λ (ys : List Access). 0 < length ys) (sym for) behaviour.some) same in
    let lent : lent_of g ≡ cs = ap lent_of is ∙ loans-lent e xs cs same in (
      entry,
      lent,
      record {
        each = ap length is ∙ length-loans e xs cs same ∙ ap length for;
        lent = is ∙ ap (λ (ys : List Access). loans e ys cs) for ∙ ap (loans e part.accesses) (sym lent) ∙ ap (λ (n : ℕ). loans n part.accesses (lent_of g)) (sym entry);
      },
    )

module _ (c : Inside) (k : Keeps c) (n : ℕ) (may : MayStart (state_of c) n) where
  here : n < length c.places.items
  here = start_there c k n may

  -- the contents at home are those at its place
  at_home : (i : ℕ) (d : Access) → i < length (accesses_of (task_in c.places.items n))
      → content_in c.shelves.items (get_or (accesses_of (task_in c.places.items n)) i d).doc
      ≡ content_at (state_of c) (get_or (accesses_of (task_in c.places.items n)) i d).doc n
  at_home i d lt =
      k.shelved.contents (get_or (accesses_of (task_in c.places.items n)) i d).doc (shelves-declared c k n here i d lt)
      ∙ (holds-reached (state_of c) k.reached).content_at_ready n (get_or (accesses_of (task_in c.places.items n)) i d).doc may
      (ap (λ (t : Task). is_declared (accesses_of t) (get_or (accesses_of (task_in c.places.items n)) i d).doc) (k.told n here).task
      ∙ declared-member (accesses_of (task_in c.places.items n)) i d lt)

  pub loan-is : (script : List Part) (index : ℕ) (inputs : List (List ℕ)) → task_in c.places.items n ≡ Runs script index
      → inputs ≡ map (λ (a : Access). content_in c.shelves.items a.doc) (get_or script index no_part).accesses
      → (let l : Loan = record { entry = n; script = script; index = index; inputs = inputs } in l) ≡ loan_at (state_of c) n
  loan-is script index inputs is are =
      ap (λ (v : List (List ℕ)). let l : Loan = record { entry = n; script = script; index = index; inputs = v } in l)
      (are ∙ map-same (λ (a : Access). content_in c.shelves.items a.doc) (λ (a : Access). content_at (state_of c) a.doc n) (get_or script index no_part).accesses
      (subst (λ (t : Task). (i : ℕ) (d : Access) → i < length (accesses_of t) → content_in c.shelves.items (get_or (accesses_of t) i d).doc ≡ content_at (state_of c) (get_or (accesses_of t) i d).doc n) is at_home))
      ∙ ap (λ (t : Task). loan_of n t (λ doc. content_at (state_of c) doc n)) (sym is ∙ sym (k.told n here).task)

  -- a behaviour with its grants is what the place is lent
  pub lent-new : (script : List Part) (index : ℕ) (xs : List Access) (cs : List (List ℕ)) (g : List Loaned) → task_in c.places.items n ≡ Runs script index
      → xs ≡ (get_or script index no_part).accesses → IsBehaviour (get_or script index no_part)
      → cs ≡ map (λ (a : Access). content_in c.shelves.items a.doc) xs → g ≡ loans n xs cs
      → AreFor (entry_of g) (get_or script index no_part).accesses g × ((let l : Loan = record { entry = entry_of g; script = script; index = index; inputs = lent_of g } in l) ≡ loan_at (state_of c) n)
  lent-new script index xs cs g task for behaviour docs is =
      let new : (entry_of g ≡ n) × (lent_of g ≡ cs) × AreFor (entry_of g) (get_or script index no_part).accesses g =
      grants-new g n (get_or script index no_part) xs cs is for behaviour (ap length docs ∙ length-map xs (λ (a : Access). content_in c.shelves.items a.doc)) in (
        new.2,
        ap (λ (e : ℕ). let l : Loan = record { entry = e; script = script; index = index; inputs = lent_of g } in l) new.0
            ∙ loan-is script index (lent_of g) task (new.1 ∙ docs ∙ ap (map (λ (a : Access). content_in c.shelves.items a.doc)) for),
      )

-- what a place does, by its line's script and its number
pub task-runs : (places : List Place) (n : ℕ) (script : List Part) (s : Place) → n < length places → work_in places n ≡ works.Behaviour script → s ≡ get_or places n s
    → task_in places n ≡ Runs script s.index
task-runs places n script s lt work at =
    ap (λ (w : Work). child_task (first_task w) (place_in places n).index) work
    ∙ ap (λ (t : Place). Runs script t.index) (sym (get_or_read places n s lt at no_place))
