-- The replies that a hall gave above an ordinal are, line by line, those of the state.
use Rattle.std.proofs.Common.{◌≡◌, ℕ, zero, suc, ◌+◌, ◌-◌, ◌<◌, ◌≤◌, Bool, true, false, cond, nat_lt, List, [], ◌∷◌, ◌++◌, length, map, refl, sym, ap, subst, ◌∙◌, append-nil, arith, eqb-true, ltb-true, slice_index_or, All}
use Rattle.std.specs.Prelude.{◌==◌, ⊤, filter}
use Rattle.std.proofs.lemmas.Bool.Decides.{nat_tests}
use Rattle.std.proofs.lemmas.List.Elements.{All-cons, All-nil, filter-append}
use Rattle.std.proofs.lemmas.List.Kept.{AllPairs-cons}
use Rattle.bl_order.specs.Machine.{State}
use Rattle.bl_order.specs.Labels.{Reply, Tag, tag, put_in, is_of, replies_to}
use Rattle.bl_hall.specs.declared.reply.Reply as owned
use Rattle.bl_hall.specs.Told.{is_above, reply_in, replies_above, reply_of}
use Rattle.bl_session.specs.Blocks.{line_of}
use Rattle.bl_session.proofs.BlockLaws.{Lines, lines-put, lines-as, both}
use Rattle.bl_serve.specs.Told.{ordinal_of, GoByLine}
use Rattle.bl_serve.specs.Told as lines

-- ---- the lines of replies

module _ (x : State) (session : ℕ) where
  -- the replies to a line are to that line
  to_line : (k n : ℕ) → Lines (λ h. h ≡ k) (replies_to x session k n)
  to_line k zero = tt
  to_line k (suc n) = go (is_of session k (tag x.order n)) refl (to_line k n)
    where
      go : (b : Bool) → is_of session k (tag x.order n) ≡ b → Lines (λ h. h ≡ k) (replies_to x session k n) → Lines (λ h. h ≡ k) (cond b (put_in (reply_in x n) (replies_to x session k n)) (replies_to x session k n))
      go true is rest =
          let t : Tag = tag x.order n in
          lines-put (λ h. h ≡ k) (reply_in x n) (replies_to x session k n) (eqb-true (slice_index_or t.label 0 0) k (both (t.session == session) (slice_index_or t.label 0 0 == k) is)) rest
      go false is rest = rest

  -- the replies above an ordinal are to lines above it
  pub above_line : (a n : ℕ) → Lines (λ h. a < h) (replies_above x session a n)
  above_line a zero = tt
  above_line a (suc n) = go (is_above session a (tag x.order n)) refl (above_line a n)
    where
      go : (b : Bool) → is_above session a (tag x.order n) ≡ b → Lines (λ h. a < h) (replies_above x session a n) → Lines (λ h. a < h) (cond b (put_in (reply_in x n) (replies_above x session a n)) (replies_above x session a n))
      go true is rest =
          let t : Tag = tag x.order n in
          lines-put (λ h. a < h) (reply_in x n) (replies_above x session a n) (ltb-true a (slice_index_or t.label 0 0) (both (t.session == session) (nat_lt a (slice_index_or t.label 0 0)) is)) rest
      go false is rest = rest

-- ---- those to a line

abbrev line_in : ℕ → List Reply → List Reply
line_in k replies = filter (λ (r : Reply). line_of r == k) replies

line_same : (k : ℕ) (told : List owned.Reply) → map reply_of (lines.line_of k told) ≡ line_in k (map reply_of told)
line_same k [] = refl
line_same k (r ∷ told) = go (ordinal_of r == k) (line_same k told)
  where
    go : (b : Bool) → map reply_of (lines.line_of k told) ≡ line_in k (map reply_of told)
        → map reply_of (cond b (r ∷ lines.line_of k told) (lines.line_of k told)) ≡ cond b (reply_of r ∷ line_in k (map reply_of told)) (line_in k (map reply_of told))
    go true rest = ap (λ l. reply_of r ∷ l) rest
    go false rest = rest

equal : (m n : ℕ) → m ≡ n → (m == n) ≡ true
equal m n is = grind (arith, nat_tests)

unequal : (m n : ℕ) → (m ≡ n → ⊥) → (m == n) ≡ false
unequal m n other = grind (arith, nat_tests)

line_all : (k : ℕ) (a : List Reply) → Lines (λ h. h ≡ k) a → line_in k a ≡ a
line_all k [] same = refl
line_all k (r ∷ a) same = ap (λ t. cond t (r ∷ line_in k a) (line_in k a)) (equal (line_of r) k same.0) ∙ ap (λ l. r ∷ l) (line_all k a same.1)

line_none : (k : ℕ) (a : List Reply) → Lines (λ h. h ≡ k → ⊥) a → line_in k a ≡ []
line_none k [] other = refl
line_none k (r ∷ a) other = ap (λ t. cond t (r ∷ line_in k a) (line_in k a)) (unequal (line_of r) k other.0) ∙ line_none k a other.1

pub all_lines : (P : ℕ → Type 0) (told : List owned.Reply) → Lines P (map reply_of told) → All (λ (r : owned.Reply). P (ordinal_of r)) told
all_lines P [] lines = All-nil (λ (r : owned.Reply). P (ordinal_of r))
all_lines P (r ∷ told) lines = All-cons (λ (q : owned.Reply). P (ordinal_of q)) r told lines.0 (all_lines P told lines.1)

-- ---- line by line

abbrev Rises : List Reply → Type 0
Rises [] = ⊤
Rises (r ∷ a) = Lines (λ h. line_of r ≤ h) a × Rises a

lines_join : (P : ℕ → Type 0) (a b : List Reply) → Lines P a → Lines P b → Lines P (a ++ b)
lines_join P [] b p q = q
lines_join P (r ∷ a) b p q = (p.0, lines_join P a b p.1 q)

lines_back : (P : ℕ → Type 0) (a b : List Reply) → Lines P (a ++ b) → Lines P b
lines_back P [] b p = p
lines_back P (r ∷ a) b p = lines_back P a b p.1

rises_join : (m : ℕ) (a b : List Reply) → Lines (λ h. h ≡ m) a → Lines (λ h. m < h) b → Rises b → Rises (a ++ b)
rises_join m [] b same above rises = rises
rises_join m (r ∷ a) b same above rises = (
  lines_join (λ h. line_of r ≤ h) a b (lines-as (λ h. h ≡ m) (λ h. line_of r ≤ h) a (λ h is. (let first = same.0 in omega (arith, is, first))) same.1)
      (lines-as (λ h. m < h) (λ h. line_of r ≤ h) b (λ h lt. (let first = same.0 in omega (arith, lt, first))) above),
  rises_join m a b same.1 above rises,
)

-- a number that no line of these replies exceeds
abbrev most : List Reply → ℕ
most [] = 0
most (r ∷ a) = line_of r + most a

all_within : (a : List Reply) → Lines (λ h. h ≤ most a) a
all_within [] = tt
all_within (r ∷ a) = (omega arith, lines-as (λ h. h ≤ most a) (λ h. h ≤ line_of r + most a) a (λ h le. omega (arith, le)) (all_within a))

-- what the law of the hall says: the replies go line by line
abbrev pub GoByLines : Type 0
GoByLines = (x : State) (session after : ℕ) → replies_above x session after (length x.order)
    ≡ replies_to x session (after + 1) (length x.order) ++ replies_above x session (after + 1) (length x.order)

module _ (by_lines : GoByLines) (x : State) (session : ℕ) where
  abbrev above : ℕ → List Reply
  above a = replies_above x session a (length x.order)

  abbrev to : ℕ → List Reply
  to k = replies_to x session k (length x.order)

  -- those to a line after an ordinal are the state's
  line_above : (d a : ℕ) → line_in (a + d + 1) (above a) ≡ to (a + d + 1)
  line_above zero a =
      let e : a + 0 + 1 ≡ a + 1 = omega arith in
      ap (λ k. line_in k (above a)) e ∙ ap (line_in (a + 1)) (by_lines x session a)
      ∙ filter-append (λ (r : Reply). line_of r == a + 1) (to (a + 1)) (above (a + 1))
      ∙ ap (λ l. l ++ line_in (a + 1) (above (a + 1))) (line_all (a + 1) (to (a + 1)) (to_line x session (a + 1) (length x.order)))
      ∙ ap (λ l. to (a + 1) ++ l) (line_none (a + 1) (above (a + 1)) (lines-as (λ h. a + 1 < h) (λ h. h ≡ a + 1 → ⊥) (above (a + 1)) (λ h lt is. omega (arith, lt, is)) (above_line x session (a + 1) (length x.order))))
      ∙ append-nil (to (a + 1)) ∙ ap (λ k. to k) (sym e)
  line_above (suc d) a =
      let e : a + suc d + 1 ≡ (a + 1) + d + 1 = omega arith in
      ap (λ k. line_in k (above a)) e ∙ ap (line_in ((a + 1) + d + 1)) (by_lines x session a)
      ∙ filter-append (λ (r : Reply). line_of r == (a + 1) + d + 1) (to (a + 1)) (above (a + 1))
      ∙ ap (λ l. l ++ line_in ((a + 1) + d + 1) (above (a + 1)))
      (line_none ((a + 1) + d + 1) (to (a + 1)) (lines-as (λ h. h ≡ a + 1) (λ h. h ≡ (a + 1) + d + 1 → ⊥) (to (a + 1)) (λ h is other. omega (arith, is, other)) (to_line x session (a + 1) (length x.order))))
      ∙ line_above d (a + 1) ∙ ap (λ k. to k) (sym e)

  pub line_is : (told : List owned.Reply) (after k : ℕ) → after < k → map reply_of told ≡ replies_above x session after (length x.order)
      → map reply_of (lines.line_of k told) ≡ replies_to x session k (length x.order)
  line_is told after k lt are =
      let e : after + (k - 1 - after) + 1 ≡ k = omega (arith, lt) in
      line_same k told ∙ ap (line_in k) are ∙ ap (λ j. line_in j (above after)) (sym e) ∙ line_above (k - 1 - after) after ∙ ap (λ j. to j) e

  -- and all go line by line
  rises_above : (d a : ℕ) → Lines (λ h. h ≤ a + d) (above a) → Rises (above a)
  rises_above zero a low = nothing (above a) (above_line x session a (length x.order)) low
    where
      nothing : (l : List Reply) → Lines (λ h. a < h) l → Lines (λ h. h ≤ a + 0) l → Rises l
      nothing [] high low = tt
      nothing (r ∷ l) high low = let lt = high.0 in let le = low.0 in absurd (omega (arith, lt, le))
  rises_above (suc d) a low =
      let both = by_lines x session a in
      let rest : Lines (λ h. h ≤ (a + 1) + d) (above (a + 1)) =
      lines-as (λ h. h ≤ a + suc d) (λ h. h ≤ (a + 1) + d) (above (a + 1)) (λ h le. omega (arith, le)) (lines_back (λ h. h ≤ a + suc d) (to (a + 1)) (above (a + 1)) (subst (Lines (λ h. h ≤ a + suc d)) both low))
      in
      subst Rises (sym both) (rises_join (a + 1) (to (a + 1)) (above (a + 1)) (to_line x session (a + 1) (length x.order)) (above_line x session (a + 1) (length x.order)) (rises_above d (a + 1) rest))

  pub go_by_line : (told : List owned.Reply) (after : ℕ) → map reply_of told ≡ replies_above x session after (length x.order) → GoByLine told
  go_by_line told after are = pairs told (subst Rises (sym are) (rises_above (most (above after)) after within))
    where
      within : Lines (λ h. h ≤ after + most (above after)) (above after)
      within = lines-as (λ h. h ≤ most (above after)) (λ h. h ≤ after + most (above after)) (above after) (λ h le. omega (arith, le)) (all_within (above after))

      pairs : (told : List owned.Reply) → Rises (map reply_of told) → GoByLine told
      pairs [] rises = λ i j d lt inside. absurd (omega (arith, inside))
      pairs (r ∷ told) rises =
          AllPairs-cons (λ (earlier later : owned.Reply). ordinal_of earlier ≤ ordinal_of later) r told
          (all_lines (λ h. ordinal_of r ≤ h) told rises.0) (pairs told rises.1)
