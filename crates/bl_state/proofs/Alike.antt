-- An order goes on from the setup that another one makes just as it does behind that one.
use Rattle.std.proofs.Common.{◌≡◌, ℕ, zero, suc, ◌+◌, ◌-◌, ◌<◌, ◌≤◌, ◌⊎◌, inl, inr, Bool, true, false, cond, List, [], ◌∷◌, ◌++◌, length, map, get_or, refl, sym, ◌∙◌, ap, subst, arith, length-append}
use mathlib.Core.Path.{fun_ext}
use Rattle.std.specs.Prelude.{◌==◌, nat_lt, slice_index_or}
use Rattle.std.proofs.lemmas.Bool.Decides.{nat_tests}
use Rattle.std.proofs.lemmas.List.{get_or-append_right}
use Rattle.bl_setup.specs.Setup.{Setup}
use Rattle.bl_setup.specs.declared.version.Version.{Version}
use Rattle.bl_setup.specs.declared.version.Version.TheVariants.{One, Two}
use Rattle.bl_order.specs.Order.{Entry, Line, Child}
use Rattle.bl_order.specs.Past.{Past, no_past, at_place, carried_of, changed, content_of, content_before, deeds, earlier, judged, leaves, no_entry, past_of, policy_of, subject_of, task_of}
use Rattle.bl_order.proofs.Places.{earlier-grown, length-earlier, place-grown}
use Rattle.bl_order.proofs.PlaceLaws.{earlier-lost, place-lost}
use Rattle.bl_order.specs.Standing.{setup_after, tabled}
use Rattle.bl_state.specs.Orders.{GoesOnAlike, IsEmptyBeyond, both, later, lost_in}

-- ---- lists of values

pub tabled-get : {A : Type 0} (k n : ℕ) (f : ℕ → A) (i : ℕ) (d : A) → i < n → get_or (tabled k n f) i d ≡ f (k + i)
tabled-get k zero f i d lt = absurd (omega arith)
tabled-get k (suc n) f zero d lt = ap f (plus-zero k)
  where
    plus-zero : (j : ℕ) → j ≡ j + 0
    plus-zero j = omega arith
tabled-get k (suc n) f (suc i) d lt = tabled-get (suc k) n f i d (omega arith) ∙ ap f (moved k i)
  where
    moved : (j m : ℕ) → suc j + m ≡ j + suc m
    moved j m = omega arith

-- of a list that begins at 0
pub tabled-at : {A : Type 0} (n : ℕ) (f : ℕ → A) (i : ℕ) (d : A) → i < n → get_or (tabled 0 n f) i d ≡ f i
tabled-at n f i d lt = tabled-get 0 n f i d lt ∙ ap f (zero-plus i)
  where
    zero-plus : (j : ℕ) → 0 + j ≡ j
    zero-plus j = omega arith

pub tabled-beyond : {A : Type 0} (k n : ℕ) (f : ℕ → A) (i : ℕ) (d : A) → n ≤ i → get_or (tabled k n f) i d ≡ d
tabled-beyond k zero f i d le = refl
tabled-beyond k (suc n) f zero d le = absurd (omega arith)
tabled-beyond k (suc n) f (suc i) d le = tabled-beyond (suc k) n f i d (omega arith)

pub tabled-length : {A : Type 0} (k n : ℕ) (f : ℕ → A) → length (tabled k n f) ≡ n
tabled-length k zero f = refl
tabled-length k (suc n) f = ap suc (tabled-length (suc k) n f)

-- ---- records behind others

at-beyond : (h : List Past) (n : ℕ) → length h ≤ n → at_place h n ≡ no_past
at-beyond [] n le = refl
at-beyond (p ∷ h) n le = ap (λ b. cond b p (at_place h n)) (apart n (length h) (omega arith)) ∙ at-beyond h n (omega arith)
  where
    apart : (a b : ℕ) → b < a → (a == b) ≡ false
    apart a b lt = grind (arith, nat_tests)

same-test : (k a b : ℕ) → ((k + a) == (b + k)) ≡ (a == b)
same-test k a b = go (a == b) refl
  where
    yes : (a == b) ≡ true → ((k + a) == (b + k)) ≡ true
    yes e = grind (arith, nat_tests)

    no : (a == b) ≡ false → ((k + a) == (b + k)) ≡ false
    no e = grind (arith, nat_tests)

    go : (c : Bool) → (a == b) ≡ c → ((k + a) == (b + k)) ≡ (a == b)
    go true e = yes e ∙ sym e
    go false e = no e ∙ sym e

module _ (older : List Past) where
  at-later : (h : List Past) (n : ℕ) → at_place (h ++ older) (length older + n) ≡ at_place h n
  at-later [] n = at-beyond older (length older + n) (omega arith)
  at-later (p ∷ h) n =
      ap (λ b. cond b p (at_place (h ++ older) (length older + n)))
      (ap (λ k. (length older + n) == k) (length-append h older) ∙ same-test (length older) n (length h))
      ∙ ap (λ q. cond (n == length h) p q) (at-later h n)

  subject-later : (h : List Past) (e : Entry) → subject_of (h ++ older) (later (length older) e) ≡ subject_of h e
  subject-later h (Line session ordinal subject work) = refl
  subject-later h (Child parent which) = ap (λ p. p.subject) (at-later h parent)

  task-later : (h : List Past) (e : Entry) → task_of (h ++ older) (later (length older) e) ≡ task_of h e
  task-later h (Line session ordinal subject work) = refl
  task-later h (Child parent which) = ap (λ (p : Past). task_of (p ∷ []) (Child 0 which)) (at-later h parent)

  carried-later : (v : Version) (h : List Past) (e : Entry) → carried_of v (h ++ older) (later (length older) e) ≡ carried_of v h e
  carried-later One h e = refl
  carried-later Two h (Line session ordinal subject work) = refl
  carried-later Two h (Child parent which) = ap (λ (p : Past). carried_of Two (p ∷ []) (Child 0 which)) (at-later h parent)

  module _ (setup next : Setup) (policy : policy_of setup older ≡ next.policy)
      (contents : (doc : ℕ) → content_of setup older doc ≡ slice_index_or next.contents doc []) (version : setup.version ≡ next.version) where
    policy-later : (h : List Past) → policy_of setup (h ++ older) ≡ policy_of next h
    policy-later [] = policy
    policy-later (p ∷ h) = ap (changed p.answer p.task p.subject) (policy-later h)

    content-later : (h : List Past) (doc : ℕ) → content_of setup (h ++ older) doc ≡ content_of next h doc
    content-later [] doc = contents doc
    content-later (p ∷ h) doc = ap (leaves p doc) (content-later h doc)

    past-later : (lost : Bool) (h : List Past) (e : Entry) → past_of setup lost (h ++ older) (later (length older) e) ≡ past_of next lost h e
    past-later lost h e = λ i. judged lost (policy-later h i) (deeds (task-later h e i) (fun_ext (content-later h) i)) (subject-later h e i)
        (carried-both i) (task-later h e i)
      where
        carried-both : carried_of setup.version (h ++ older) (later (length older) e) ≡ carried_of next.version h e
        carried-both = carried-later setup.version h e ∙ ap (λ v. carried_of v h e) version

-- ---- the two orders

get-map : (k : ℕ) (order : List Entry) (n : ℕ) → n < length order → get_or (map (later k) order) n no_entry ≡ later k (get_or order n no_entry)
get-map k [] n lt = absurd (omega arith)
get-map k (e ∷ order) zero lt = refl
get-map k (e ∷ order) (suc n) lt = get-map k order n (omega arith)

module _ (setup : Setup) (lost : ℕ → Bool) (order : List Entry) (lost2 : ℕ → Bool) (order2 : List Entry)
    (empty : IsEmptyBeyond setup lost order) where
  abbrev a : ℕ
  a = length order

  abbrev next : Setup
  next = setup_after setup lost order

  abbrev longer : ℕ → Bool
  longer = lost_in a lost lost2

  abbrev whole : List Entry
  whole = both order order2

  abbrev older : List Past
  older = earlier setup lost order a

  below-test : (n : ℕ) → n < a → nat_lt n a ≡ true
  below-test n lt = grind (arith, nat_tests)

  above-test : (n : ℕ) → nat_lt (a + n) a ≡ false
  above-test n = grind (arith, nat_tests)

  lost-below : (n : ℕ) → n < a → longer n ≡ lost n
  lost-below n lt = ap (λ b. cond b (lost n) (lost2 (n - a))) (below-test n lt)

  lost-above : (n : ℕ) → longer (a + n) ≡ lost2 n
  lost-above n = ap (λ b. cond b (lost (a + n)) (lost2 ((a + n) - a))) (above-test n) ∙ ap lost2 (back a n)
    where
      back : (k m : ℕ) → (k + m) - k ≡ m
      back k m = omega arith

  before : (n : ℕ) → n ≤ a → earlier setup longer whole n ≡ earlier setup lost order n
  before n le =
      earlier-lost setup longer lost whole n (λ k lt. lost-below k (omega arith))
      ∙ earlier-grown setup lost order (map (later a) order2) n le

  get-above : (n : ℕ) → n < length order2 → get_or whole (a + n) no_entry ≡ later a (get_or order2 n no_entry)
  get-above n lt =
      get_or-append_right order (map (later a) order2) a (a + n) no_entry refl (omega arith)
      ∙ ap (λ k. get_or (map (later a) order2) k no_entry) (back a n)
      ∙ get-map a order2 n lt
    where
      back : (k m : ℕ) → (k + m) - k ≡ m
      back k m = omega arith

  length-older : length older ≡ a
  length-older = length-earlier setup lost order a

  -- the contents are those of the next setup
  contents-are : (doc : ℕ) → content_of setup older doc ≡ slice_index_or next.contents doc []
  contents-are doc = go (below doc (length setup.contents))
    where
      below : (x y : ℕ) → (x < y) ⊎ (y ≤ x)
      below x y = grind arith

      go : (doc < length setup.contents) ⊎ (length setup.contents ≤ doc) → content_of setup older doc ≡ slice_index_or next.contents doc []
      go (inl lt) = sym (tabled-at (length setup.contents) (λ d. content_before setup lost order d a) doc [] lt)
      go (inr le) = empty doc le ∙ sym (tabled-beyond 0 (length setup.contents) (λ d. content_before setup lost order d a) doc [] le)

  past-above : (l : Bool) (h : List Past) (e : Entry) → past_of setup l (h ++ older) (later a e) ≡ past_of next l h e
  past-above l h e =
      subst (λ k. past_of setup l (h ++ older) (later k e) ≡ past_of next l h e) length-older
      (past-later older setup next refl contents-are refl l h e)

  one-more : (n : ℕ) → a + suc n ≡ suc (a + n)
  one-more n = omega arith

  above : (n : ℕ) → n ≤ length order2 → earlier setup longer whole (a + n) ≡ earlier next lost2 order2 n ++ older
  above zero le = ap (earlier setup longer whole) (plus-zero a) ∙ before a (omega arith)
    where
      plus-zero : (k : ℕ) → k + 0 ≡ k
      plus-zero k = omega arith
  above (suc n) le =
      ap (earlier setup longer whole) (one-more n)
      ∙ (λ i. past_of setup (lost-above n i) (above n (omega arith) i) (get-above n (omega arith) i) ∷ above n (omega arith) i)
      ∙ ap (λ p. p ∷ (earlier next lost2 order2 n ++ older)) (past-above (lost2 n) (earlier next lost2 order2 n) (get_or order2 n no_entry))

  pub goes-on-alike : GoesOnAlike setup lost order lost2 order2
  goes-on-alike = record {
    before = λ n lt.
        place-lost setup longer lost whole n (λ k le. lost-below k (omega (arith, lt, le)))
        ∙ place-grown setup lost lost order (map (later a) order2) n (λ k. refl) lt;
    places = λ n lt.
        (λ i. past_of setup (lost-above n i) (above n (omega (arith, lt)) i) (get-above n lt i))
        ∙ past-above (lost2 n) (earlier next lost2 order2 n) (get_or order2 n no_entry);
    policies = λ n le. ap (policy_of setup) (above n le) ∙ policy-later older setup next refl contents-are refl (earlier next lost2 order2 n);
    contents = λ doc n le. ap (λ h. content_of setup h doc) (above n le) ∙ content-later older setup next refl contents-are refl (earlier next lost2 order2 n) doc;
  }
