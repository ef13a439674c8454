-- Any number of runs are told as one history.
use Rattle.std.proofs.Common.{◌≡◌, ℕ, zero, suc, ◌+◌, ◌<◌, ◌≤◌, Bool, List, [], ◌∷◌, length, map, get_or, refl, sym, ◌∙◌, ap, arith, length-append}
use mathlib.Core.Path.{fun_ext}
use Rattle.bl_setup.specs.Setup.{Setup}
use Rattle.bl_order.specs.Order.{Entry}
use Rattle.bl_order.specs.Past.{content_before, content_of, earlier, policy_before, policy_of}
use Rattle.bl_order.specs.Standing.{setup_after, tabled}
use Rattle.bl_state.specs.Orders.{GoesOnAlike, IsEmptyBeyond, later}
use Rattle.bl_state.specs.Told.{AreToldAsOne, StandBehindParents, StayApart, renamed, replies_of}
use Rattle.bl_state.specs.Chains.{AreAllToldAsOne, AreRuns, HaveNone, History, Run, nothing_yet, setup_behind, with_run, with_runs}
use Rattle.bl_state.proofs.Alike.{goes-on-alike, tabled-length}
use Rattle.bl_state.proofs.Telling.{length-mapped, place-renamed, told-as-one}

-- ---- tables

tabled-same : {A : Type 0} (k n : ℕ) (f g : ℕ → A) → ((i : ℕ) → f i ≡ g i) → tabled k n f ≡ tabled k n g
tabled-same k n f g same = ap (tabled k n) (fun_ext same)

-- ---- sessions have other numbers

module _ (setup : Setup) (lost : ℕ → Bool) (order : List Entry) (f : ℕ → ℕ) where
  earlier-renamed : (n : ℕ) → earlier setup lost (map (renamed f) order) n ≡ earlier setup lost order n
  earlier-renamed zero = refl
  earlier-renamed (suc n) = λ i. place-renamed setup lost order f n i ∷ earlier-renamed n i

-- ---- a history with a run behind it

module _ (first setup : Setup) (h : History) (r : Run) (is : setup_after first h.lost h.order ≡ setup)
    (empty : IsEmptyBeyond first h.lost h.order) (bounded : IsEmptyBeyond setup r.lost r.order) where
  abbrev on : History
  on = with_run h r

  abbrev next : Setup
  next = setup_after first h.lost h.order

  abbrev named : List Entry
  named = map (renamed r.number) r.order

  alike : GoesOnAlike first h.lost h.order r.lost named
  alike = goes-on-alike first h.lost h.order r.lost named empty

  length-named : length named ≡ length r.order
  length-named = length-mapped (renamed r.number) r.order

  length-on : length on.order ≡ length h.order + length named
  length-on = length-append h.order (map (later (length h.order)) named) ∙ ap (λ k. length h.order + k) (length-mapped (later (length h.order)) named)

  content-on : (doc : ℕ) → content_before first on.lost on.order doc (length on.order) ≡ content_before setup r.lost r.order doc (length r.order)
  content-on doc =
      ap (content_before first on.lost on.order doc) length-on
      ∙ alike.contents doc (length named) (omega arith)
      ∙ ap (content_before next r.lost named doc) length-named
      ∙ ap (λ past. content_of next past doc) (earlier-renamed next r.lost r.order r.number (length r.order))
      ∙ ap (λ s. content_before s r.lost r.order doc (length r.order)) is

  policy-on : policy_before first on.lost on.order (length on.order) ≡ policy_before setup r.lost r.order (length r.order)
  policy-on =
      ap (policy_before first on.lost on.order) length-on
      ∙ alike.policies (length named) (omega arith)
      ∙ ap (policy_before next r.lost named) length-named
      ∙ ap (policy_of next) (earlier-renamed next r.lost r.order r.number (length r.order))
      ∙ ap (λ s. policy_before s r.lost r.order (length r.order)) is

  as-many : length first.contents ≡ length setup.contents
  as-many = sym (tabled-length 0 (length first.contents) (λ doc. content_before first h.lost h.order doc (length h.order)))
      ∙ ap (λ (s : Setup). length s.contents) is

  -- it leaves what the run leaves
  pub setup-on : setup_after first on.lost on.order ≡ setup_behind setup r
  setup-on = λ i. record {
    names = (ap (λ (s : Setup). s.names) is) i;
    policy = policy-on i;
    contents = contents-on i;
    version = (ap (λ (s : Setup). s.version) is) i;
  }
    where
      contents-on : tabled 0 (length first.contents) (λ doc. content_before first on.lost on.order doc (length on.order))
          ≡ tabled 0 (length setup.contents) (λ doc. content_before setup r.lost r.order doc (length r.order))
      contents-on =
          ap (λ n. tabled 0 n (λ doc. content_before first on.lost on.order doc (length on.order))) as-many
          ∙ tabled-same 0 (length setup.contents) (λ doc. content_before first on.lost on.order doc (length on.order))
          (λ doc. content_before setup r.lost r.order doc (length r.order)) content-on

  pub empty-on : IsEmptyBeyond first on.lost on.order
  empty-on doc le = content-on doc ∙ bounded doc (omega (arith, le, as-many))

-- ---- and with several

told : (first setup : Setup) (h : History) (r : Run) → setup_after first h.lost h.order ≡ setup → IsEmptyBeyond first h.lost h.order
    → StandBehindParents r.order → StayApart r.number → AreToldAsOne first h.lost h.order r.lost r.order r.number
told first setup h r is empty parents apart = told-as-one first h.lost h.order r.lost r.order r.number empty parents apart

-- a line that none of them has is told as before
kept : (first setup : Setup) (h : History) (runs : List Run) → setup_after first h.lost h.order ≡ setup
    → IsEmptyBeyond first h.lost h.order → AreRuns setup runs → (session ordinal : ℕ) → HaveNone session ordinal runs
    → replies_of first (with_runs h runs).lost (with_runs h runs).order session ordinal ≡ replies_of first h.lost h.order session ordinal
kept first setup h [] is empty are session ordinal free = refl
kept first setup h (r ∷ more) is empty are session ordinal free =
    kept first (setup_behind setup r) (with_run h r) more (setup-on first setup h r is empty are.0.empty) (empty-on first setup h r is empty are.0.empty)
    are.1 session ordinal free.1
    ∙ (told first setup h r is empty are.0.parents are.0.apart).before session ordinal free.0

all-told : (first setup : Setup) (h : History) (runs : List Run) → setup_after first h.lost h.order ≡ setup
    → IsEmptyBeyond first h.lost h.order → AreRuns setup runs → AreAllToldAsOne first setup h runs
all-told first setup h [] is empty are = tt
all-told first setup h (r ∷ more) is empty are = (
  (λ session ordinal free other.
      kept first (setup_behind setup r) (with_run h r) more (setup-on first setup h r is empty are.0.empty) (empty-on first setup h r is empty are.0.empty)
      are.1 (r.number session) ordinal other
      ∙ (told first setup h r is empty are.0.parents are.0.apart).behind session ordinal free
      ∙ ap (λ s. replies_of s r.lost r.order session ordinal) is),
  all-told first (setup_behind setup r) (with_run h r) more (setup-on first setup h r is empty are.0.empty) (empty-on first setup h r is empty are.0.empty)
      are.1,
)

-- ---- from the first setup on

from-its-start : {A : Type 0} (d : A) (xs : List A) (k n : ℕ) (f : ℕ → A) → n ≡ length xs → ((i : ℕ) → i < n → f (k + i) ≡ get_or xs i d) → tabled k n f ≡ xs
from-its-start d [] k zero f size each = refl
from-its-start d [] k (suc n) f size each = absurd (omega (arith, size))
from-its-start d (x ∷ xs) k zero f size each = absurd (omega (arith, size))
from-its-start d (x ∷ xs) k (suc n) f size each = λ i. here i ∷ from-its-start d xs (suc k) n f (omega (arith, size)) there i
  where
    plus-zero : (j : ℕ) → j ≡ j + 0
    plus-zero j = omega arith

    here : f k ≡ x
    here = ap f (plus-zero k) ∙ each 0 (omega arith)

    moved : (j m : ℕ) → suc j + m ≡ j + suc m
    moved j m = omega arith

    there : (i : ℕ) → i < n → f (suc k + i) ≡ get_or xs i d
    there i lt = ap f (moved k i) ∙ each (suc i) (omega (arith, lt))

nothing-changes : (setup : Setup) → setup_after setup nothing_yet.lost nothing_yet.order ≡ setup
nothing-changes setup = ap (λ contents. record { names = setup.names; policy = setup.policy; contents = contents; version = setup.version })
    (from-its-start [] setup.contents 0 (length setup.contents) (λ doc. content_before setup nothing_yet.lost nothing_yet.order doc 0) refl (λ i lt. ap (λ j. get_or setup.contents j []) (zero-plus i)))
  where
    zero-plus : (j : ℕ) → 0 + j ≡ j
    zero-plus j = omega arith

beyond : {A : Type 0} (d : A) (xs : List A) (n : ℕ) → length xs ≤ n → get_or xs n d ≡ d
beyond d [] n le = refl
beyond d (x ∷ xs) zero le = absurd (omega (arith, le))
beyond d (x ∷ xs) (suc n) le = beyond d xs n (omega (arith, le))

pub runs-told : (setup : Setup) (runs : List Run) → AreRuns setup runs → AreAllToldAsOne setup setup nothing_yet runs
runs-told setup runs are = all-told setup setup nothing_yet runs (nothing-changes setup) (λ doc le. beyond [] setup.contents doc le) are
