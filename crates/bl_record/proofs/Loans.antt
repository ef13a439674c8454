-- What the running places were lent, when the first of them ends.
use Rattle.std.proofs.Common.{◌≡◌, ◌≢◌, ℕ, zero, suc, ◌<◌, ◌≤◌, Bool, true, false, cond, List, [], ◌∷◌, ◌++◌, length, get_or, map, refl, sym, ◌∙◌, ap, subst, arith, inl, inr, ◌⊎◌, append-nil}
use Rattle.std.specs.Prelude.{◌==◌, Option, Some, None}
use Rattle.std.specs.Option.{option_to_list}
use Rattle.std.proofs.lemmas.Bool.Decides.{eqb_tells}
use Rattle.bl_core.specs.Answers.{loan_at, loan_of}
use Rattle.bl_eval.specs.Loan.{Loan}
use Rattle.bl_order.specs.Headline.{IsReached}
use Rattle.bl_order.specs.Machine.{State, Ends, Phase, Waiting, Ended, change, is_running, past_at, phase_at, runs}
use Rattle.bl_order.specs.Now.{content_at}
use Rattle.bl_order.specs.Order.{accesses_of, is_declared}
use Rattle.bl_order.specs.Past.{Past}
use Rattle.bl_order.specs.Running.{GoesOn}
use Rattle.bl_order.proofs.Conflicts.{or_left, or_right}
use Rattle.bl_order.proofs.Reached.{sound-reached}
use Rattle.bl_order.proofs.Running.{goes_on-reached}
use Rattle.bl_order.proofs.Sound.{IsSound}
use Rattle.bl_order.proofs.Steps.{Moves, equal_self}
use Rattle.bl_order.proofs.Trails.{moves-end}
use Rattle.bl_policy.specs.declared.access.Access.{Access}
use Rattle.bl_rebuild.proofs.Lending.{lent-idle, lent-runs}
use Rattle.bl_rebuild.specs.Unfinished.{lent_in, loans_below, loans_now}

-- ---- what some places have, in their order

abbrev gather : (ℕ → Option Loan) → ℕ → List Loan
gather f zero = []
gather f (suc n) = gather f n ++ option_to_list (f n)

-- one place has nothing any more
abbrev IsWithout : (ℕ → Option Loan) → ℕ → (ℕ → Option Loan) → Type 0
IsWithout f k g = (m : ℕ) → g m ≡ cond (m == k) None (f m)

record IsFirst (f : ℕ → Option Loan) (n : ℕ) (l : Loan) (rest : List Loan) : Type 0 where
  k : ℕ
  within : k < n
  is : f k ≡ Some l
  others : (g : ℕ → Option Loan) → IsWithout f k g → gather g n ≡ rest

apart : (m k : ℕ) → (m ≡ k → ⊥) → (m == k) ≡ false
apart m k ne = go (eqb_tells m k)
  where
    go : (((m == k) ≡ true) × (m ≡ k)) ⊎ (((m == k) ≡ false) × (m ≢ k)) → (m == k) ≡ false
    go (inl t) = absurd (ne t.1)
    go (inr t) = t.0

left-there : (f g : ℕ → Option Loan) (k m : ℕ) → IsWithout f k g → (m ≡ k → ⊥) → g m ≡ f m
left-there f g k m without ne = without m ∙ ap (λ b. cond b None (f m)) (apart m k ne)

taken-there : (f g : ℕ → Option Loan) (k : ℕ) → IsWithout f k g → g k ≡ None
taken-there f g k without = without k ∙ ap (λ b. cond b None (f k)) (equal_self k)

before-it : (f g : ℕ → Option Loan) (k n : ℕ) → IsWithout f k g → n ≤ k → gather g n ≡ gather f n
before-it f g k zero without le = refl
before-it f g k (suc n) without le =
    ap (λ l. l ++ option_to_list (g n)) (before-it f g k n without (omega (arith, le)))
    ∙ ap (λ o. gather f n ++ option_to_list o) (left-there f g k n without (λ same. absurd (omega (arith, same, le))))

head-is : (a b : Loan) (s t : List Loan) → a ∷ s ≡ b ∷ t → a ≡ b
head-is a b s t h = cc

tail-is : (a b : Loan) (s t : List Loan) → a ∷ s ≡ b ∷ t → s ≡ t
tail-is a b s t h = cc

first-of : (f : ℕ → Option Loan) (n : ℕ) (l : Loan) (rest : List Loan) → gather f n ≡ l ∷ rest → IsFirst f n l rest
first-of f zero l rest h = absurd (cc)
first-of f (suc n) l rest h = go (gather f n) refl (λ more is. first-of f n l more is)
  where
    last : gather f n ≡ [] → (o : Option Loan) → f n ≡ o → option_to_list o ≡ l ∷ rest → IsFirst f (suc n) l rest
    last e None is all = absurd (cc)
    last e (Some a) is all = record {
      k = n;
      within = omega arith;
      is = is ∙ ap Some (head-is a l [] rest all);
      others = λ g without.
          ap (λ o. gather g n ++ option_to_list o) (taken-there f g n without)
          ∙ append-nil (gather g n)
          ∙ before-it f g n n without (omega arith)
          ∙ e
          ∙ tail-is a l [] rest all;
    }

    go : (front : List Loan) → gather f n ≡ front → ((more : List Loan) → gather f n ≡ l ∷ more → IsFirst f n l more) → IsFirst f (suc n) l rest
    go [] e more = last e (f n) refl (sym (ap (λ t. t ++ option_to_list (f n)) e) ∙ h)
    go (a ∷ front) e more =
        let whole : a ∷ (front ++ option_to_list (f n)) ≡ l ∷ rest = sym (ap (λ t. t ++ option_to_list (f n)) e) ∙ h in
        let t : IsFirst f n l front = more front (e ∙ ap (λ b. b ∷ front) (head-is a l (front ++ option_to_list (f n)) rest whole)) in
        record {
          k = t.k;
          within = omega (arith, t.within);
          is = t.is;
          others = λ g without.
              ap (λ s. s ++ option_to_list (g n)) (t.others g without)
              ∙ ap (λ o. front ++ option_to_list o) (left-there f g t.k n without (λ same. absurd (omega (arith, same, t.within))))
              ∙ tail-is a l (front ++ option_to_list (f n)) rest whole;
        }

none-of : (f : ℕ → Option Loan) (n m : ℕ) → gather f n ≡ [] → m < n → f m ≡ None
none-of f zero m h lt = absurd (omega (arith, lt))
none-of f (suc n) m h lt = go (gather f n) refl (f n) refl (λ e lower. none-of f n m e lower)
  where
    order : (m n : ℕ) → m < suc n → (m ≡ n) ⊎ (m < n)
    order m n lt = grind arith

    go : (front : List Loan) → gather f n ≡ front → (o : Option Loan) → f n ≡ o → (gather f n ≡ [] → m < n → f m ≡ None) → f m ≡ None
    go (a ∷ front) e o is lower = absurd (full a (front ++ option_to_list (f n)) (sym (ap (λ t. t ++ option_to_list (f n)) e) ∙ h))
      where
        full : (a : Loan) (front : List Loan) → a ∷ front ≡ [] → ⊥
        full a front h = cc
    go [] e (Some a) is lower = absurd (full a (sym (ap option_to_list is) ∙ sym (ap (λ t. t ++ option_to_list (f n)) e) ∙ h))
      where
        full : (a : Loan) → a ∷ [] ≡ [] → ⊥
        full a h = cc
    go [] e None is lower = at (order m n lt)
      where
        at : (m ≡ n) ⊎ (m < n) → f m ≡ None
        at (inl same) = ap f same ∙ is
        at (inr lt) = lower e lt

after-all : (g : ℕ → Option Loan) (n m : ℕ) → n ≤ m → ((k : ℕ) → n ≤ k → g k ≡ None) → gather g m ≡ gather g n
after-all g n zero le none = let e : 0 ≡ n = omega (arith, le) in ap (gather g) e
after-all g n (suc m) le none = go (order n m le) (λ lower. after-all g n m lower none)
  where
    order : (n m : ℕ) → n ≤ suc m → (suc m ≡ n) ⊎ (n ≤ m)
    order n m le = grind arith

    go : (suc m ≡ n) ⊎ (n ≤ m) → (n ≤ m → gather g m ≡ gather g n) → gather g (suc m) ≡ gather g n
    go (inl e) before = ap (gather g) e
    go (inr lower) before = ap (λ o. gather g m ++ option_to_list o) (none m lower) ∙ append-nil (gather g m) ∙ before lower

listed : (b : Bool) (l : Loan) → option_to_list (cond b (Some l) None) ≡ cond b (l ∷ []) []
listed true l = refl
listed false l = refl

told : (x : State) (n : ℕ) → loans_below x n ≡ gather (lent_in x) n
told x zero = refl
told x (suc n) =
    ap (λ l. l ++ cond (runs x n) (loan_at x n ∷ []) []) (told x n)
    ∙ ap (λ l. gather (lent_in x) n ++ l) (sym (listed (runs x n) (loan_at x n)))

-- ---- what goes on is lent what it was lent

lent_alike : (xs : List Access) (f g : ℕ → List ℕ) → ((o : ℕ) → is_declared xs o ≡ true → f o ≡ g o) → map (λ (a : Access). f a.doc) xs ≡ map (λ (a : Access). g a.doc) xs
lent_alike [] f g same = refl
lent_alike (a ∷ xs) f g same =
    ap (λ c. c ∷ map (λ (b : Access). f b.doc) xs) (same a.doc (or_left (a.doc == a.doc) (is_declared xs a.doc) (equal_self a.doc)))
    ∙ ap (λ l. g a.doc ∷ l) (lent_alike xs f g (λ o d. same o (or_right (a.doc == o) (is_declared xs o) d)))

pub lent_still : (x y : State) (n : ℕ) → GoesOn x y n → loan_at y n ≡ loan_at x n
lent_still x y n goes =
    ap (λ (p : Past). loan_of n p.task (λ doc. content_at y doc n)) goes.past
    ∙ ap (λ l. record (loan_at x n) { inputs = l }) (lent_alike (accesses_of (past_at x n).task) (λ doc. content_at y doc n) (λ doc. content_at x doc n) goes.contents)

-- ---- one place ends

past-phases : (phases : List Phase) (k : ℕ) → length phases ≤ k → is_running (get_or phases k Waiting) ≡ false
past-phases [] k le = refl
past-phases (p ∷ phases) zero le = absurd (omega (arith, le))
past-phases (p ∷ phases) (suc k) le = past-phases phases k (omega (arith, le))

ends-one : (k m : ℕ) → Ends k ≡ Ends m → m ≡ k
ends-one k m h = cc

module _ (x : State) (reached : IsReached x) where
  sound : IsSound x
  sound = sound-reached x reached

  idle-past : (m : ℕ) → length x.order ≤ m → runs x m ≡ false
  idle-past m le = past-phases x.phases m (omega (arith, sound.as_many, le))

  -- nothing is lent where nothing runs
  lent-none : (y : State) (m : ℕ) → runs y m ≡ false → lent_in y m ≡ None
  lent-none y m idle = ap (λ b. cond b (Some (loan_at y m)) None) idle

  lent-after : (k : ℕ) → runs x k ≡ true → IsWithout (lent_in x) k (lent_in (change x (Ends k)))
  lent-after k running m = go (eqb_tells m k)
    where
      moves : Moves x (change x (Ends k)) k Ended
      moves = moves-end x sound k running

      go : (((m == k) ≡ true) × (m ≡ k)) ⊎ (((m == k) ≡ false) × (m ≢ k)) → lent_in (change x (Ends k)) m ≡ cond (m == k) None (lent_in x m)
      go (inl t) =
          lent-none (change x (Ends k)) m (ap is_running (moves.phases m ∙ ap (λ b. cond b Ended (phase_at x m)) t.0))
          ∙ sym (ap (λ b. cond b None (lent_in x m)) t.0)
      go (inr t) = at (runs x m) refl ∙ sym (ap (λ b. cond b None (lent_in x m)) t.0)
        where
          same : runs (change x (Ends k)) m ≡ runs x m
          same = ap is_running (moves.phases m ∙ ap (λ b. cond b Ended (phase_at x m)) t.0)

          at : (b : Bool) → runs x m ≡ b → lent_in (change x (Ends k)) m ≡ lent_in x m
          at true e =
              ap (λ b. cond b (Some (loan_at (change x (Ends k)) m)) None) (same ∙ e)
              ∙ ap Some (lent_still x (change x (Ends k)) m (goes_on-reached x (Ends k) m reached running e (λ h. t.1 (ends-one k m h)) (λ h. cc)))
              ∙ sym (ap (λ b. cond b (Some (loan_at x m)) None) e)
          at false e = lent-none (change x (Ends k)) m (same ∙ e) ∙ sym (lent-none x m e)

  -- where nothing was lent, nothing runs
  pub none-lent : loans_now x ≡ [] → (n : ℕ) → runs x n ≡ false
  none-lent h n = go (order n (length x.order))
    where
      order : (n m : ℕ) → (n < m) ⊎ (m ≤ n)
      order n m = grind arith

      go : (n < length x.order) ⊎ (length x.order ≤ n) → runs x n ≡ false
      go (inl lt) = lent-idle x n (none-of (lent_in x) (length x.order) n (sym (told x (length x.order)) ∙ h) lt)
      go (inr le) = idle-past n le

  -- the first that was lent is of a running place, and when that ends the others are left
  module _ (l : Loan) (rest : List Loan) (h : loans_now x ≡ l ∷ rest) where
    first : IsFirst (lent_in x) (length x.order) l rest
    first = first-of (lent_in x) (length x.order) l rest (sym (told x (length x.order)) ∙ h)

    at-first : (runs x first.k ≡ true) × (l ≡ loan_at x first.k)
    at-first = lent-runs x first.k l first.is

    entry-is : first.k ≡ l.entry
    entry-is = sym (ap (λ (m : Loan). m.entry) at-first.1)

    pub first-runs : runs x l.entry ≡ true
    first-runs = subst (λ k. runs x k ≡ true) entry-is at-first.0

    pub first-lent : l ≡ loan_at x l.entry
    first-lent = subst (λ k. l ≡ loan_at x k) entry-is at-first.1

    pub rest-lent : loans_now (change x (Ends l.entry)) ≡ rest
    rest-lent = subst (λ k. loans_now (change x (Ends k)) ≡ rest) entry-is rest-there
      where
        after : State
        after = change x (Ends first.k)

        without : IsWithout (lent_in x) first.k (lent_in (change x (Ends first.k)))
        without = lent-after first.k at-first.0

        gone : (k : ℕ) → length x.order ≤ k → lent_in (change x (Ends first.k)) k ≡ None
        gone k le =
            left-there (lent_in x) (lent_in (change x (Ends first.k))) first.k k without (λ same. absurd (omega (arith, same, le, first.within)))
            ∙ lent-none x k (idle-past k le)

        rest-there : loans_now (change x (Ends first.k)) ≡ rest
        rest-there =
            told (change x (Ends first.k)) (length (change x (Ends first.k)).order)
            ∙ after-all (lent_in (change x (Ends first.k))) (length x.order) (length (change x (Ends first.k)).order) (moves-end x sound first.k at-first.0).longer gone
            ∙ first.others (lent_in (change x (Ends first.k))) without
