-- Laws of the replies of a block, which are taken line by line.
use Rattle.std.proofs.Common.{◌≡◌, ℕ, zero, suc, ◌+◌, ◌-◌, ◌<◌, ◌≤◌, Bool, true, false, cond, ◌&&◌, ◌==◌, nat_lt, nat_le, List, [], ◌∷◌, ◌++◌, length, map, refl, sym, ap, subst, ◌∙◌, arith, true≢false, eqb-true, ltb-true, slice_index_or}
use Rattle.std.specs.Prelude.{All, IsTrue, drop, Some, None, Option}
use Rattle.std.specs.List.{flat_map}
use Rattle.std.specs.Option.{is_some}
use Rattle.std.proofs.lemmas.Bool.Decides.{nat_tests}
use Rattle.std.proofs.lemmas.List.{drop_more}
use Rattle.bl_work.specs.Names.{KnownNames}
use Rattle.bl_order.specs.Machine.{State, has_ended}
use Rattle.bl_order.specs.Labels.{Reply, Tag, tag, put_in, is_before, is_of, replies_to}
use Rattle.bl_hall.specs.Told.{is_above, reply_in, replies_above}
use Rattle.bl_wire.specs.Replies.{line_or_full, reply_text}
use Rattle.bl_session.specs.declared.block.Block.{Block}
use Rattle.bl_session.specs.Blocks.{Gives, IsInFront, behind, left_in, line_of, up_to}

-- ---- the lines of replies

-- each reply's line passes
abbrev pub Lines : (ℕ → Type 0) → List Reply → Type 0
Lines P [] = Unit {0}
Lines P (r ∷ replies) = P (line_of r) × Lines P replies

pub lines-put : (P : ℕ → Type 0) (r : Reply) (replies : List Reply) → P (line_of r) → Lines P replies → Lines P (put_in r replies)
lines-put P r [] p ps = (p, tt)
lines-put P r (s ∷ replies) p ps =
    elim (is_before r.label s.label) as (λ t. Lines P (cond t (r ∷ s ∷ replies) (s ∷ put_in r replies))) [ true ↦ (p, ps) | false ↦ (ps.0, lines-put P r replies p ps.1) ]

pub lines-as : (P Q : ℕ → Type 0) (replies : List Reply) → ((n : ℕ) → P n → Q n) → Lines P replies → Lines Q replies
lines-as P Q [] f ps = tt
lines-as P Q (r ∷ replies) f ps = (f (line_of r) ps.0, lines-as P Q replies f ps.1)

pub both : (a b : Bool) → (a && b) ≡ true → b ≡ true
both true b is = is
both false b is = absurd (true≢false (sym is))

-- the replies to a line are to that line
to_line : (x : State) (i k n : ℕ) → Lines (λ h. h ≡ k) (replies_to x i k n)
to_line x i k zero = tt
to_line x i k (suc n) = go (is_of i k (tag x.order n)) refl (to_line x i k n)
  where
    go : (b : Bool) → is_of i k (tag x.order n) ≡ b → Lines (λ h. h ≡ k) (replies_to x i k n) → Lines (λ h. h ≡ k) (cond b (put_in (reply_in x n) (replies_to x i k n)) (replies_to x i k n))
    go true is rest =
        let t : Tag = tag x.order n in
        lines-put (λ h. h ≡ k) (reply_in x n) (replies_to x i k n) (eqb-true (slice_index_or t.label 0 0) k (both (t.session == i) (slice_index_or t.label 0 0 == k) is)) rest
    go false is rest = rest

-- the replies above an ordinal are to lines above it
above_line : (x : State) (i a n : ℕ) → Lines (λ h. a < h) (replies_above x i a n)
above_line x i a zero = tt
above_line x i a (suc n) = go (is_above i a (tag x.order n)) refl (above_line x i a n)
  where
    go : (b : Bool) → is_above i a (tag x.order n) ≡ b → Lines (λ h. a < h) (replies_above x i a n) → Lines (λ h. a < h) (cond b (put_in (reply_in x n) (replies_above x i a n)) (replies_above x i a n))
    go true is rest =
        let t : Tag = tag x.order n in
        lines-put (λ h. a < h) (reply_in x n) (replies_above x i a n) (ltb-true a (slice_index_or t.label 0 0) (both (t.session == i) (nat_lt a (slice_index_or t.label 0 0)) is)) rest
    go false is rest = rest

-- ---- in front and behind

yes : (m n : ℕ) → m ≤ n → nat_le m n ≡ true
yes m n le = grind (arith, nat_tests)

no : (m n : ℕ) → n < m → nat_le m n ≡ false
no m n lt = grind (arith, nat_tests)

is_low : (m n : ℕ) → nat_le m n ≡ true → m ≤ n
is_low m n is = grind (arith, nat_tests)

behind_low : (n : ℕ) (a b : List Reply) → Lines (λ h. h ≤ n) a → behind n (a ++ b) ≡ behind n b
behind_low n [] b low = refl
behind_low n (r ∷ a) b low = ap (λ t. cond t (behind n (a ++ b)) (r ∷ (a ++ b))) (yes (line_of r) n low.0) ∙ behind_low n a b low.1

behind_high : (n : ℕ) (b : List Reply) → Lines (λ h. n < h) b → behind n b ≡ b
behind_high n [] high = refl
behind_high n (r ∷ b) high = ap (λ t. cond t (behind n b) (r ∷ b)) (no (line_of r) n high.0)

up_to_high : (n : ℕ) (b : List Reply) → Lines (λ h. n < h) b → up_to n b ≡ []
up_to_high n [] high = refl
up_to_high n (r ∷ b) high = ap (λ t. cond t (r ∷ up_to n b) []) (no (line_of r) n high.0)

up_to_split : (n : ℕ) (a b : List Reply) → Lines (λ h. h ≤ n) a → Lines (λ h. n < h) b → up_to n (a ++ b) ≡ a
up_to_split n [] b low high = up_to_high n b high
up_to_split n (r ∷ a) b low high = ap (λ t. cond t (r ∷ up_to n (a ++ b)) []) (yes (line_of r) n low.0) ∙ ap (λ l. r ∷ l) (up_to_split n a b low.1 high)

behind_twice : (m n : ℕ) (l : List Reply) → m ≤ n → behind n (behind m l) ≡ behind n l
behind_twice m n [] le = refl
behind_twice m n (r ∷ l) le = go (nat_le (line_of r) m) refl (behind_twice m n l le)
  where
    go : (b : Bool) → nat_le (line_of r) m ≡ b → behind n (behind m l) ≡ behind n l → behind n (cond b (behind m l) (r ∷ l)) ≡ behind n (r ∷ l)
    go true is rest = rest ∙ sym (ap (λ t. cond t (behind n l) (r ∷ l)) (yes (line_of r) n (let low = is_low (line_of r) m is in omega (arith, low, le))))
    go false is rest = refl

-- where none is in front all are behind
pub none_behind : (n : ℕ) (l : List Reply) → up_to n l ≡ [] → behind n l ≡ l
none_behind n [] none = refl
none_behind n (r ∷ l) none = go (nat_le (line_of r) n) refl
  where
    go : (b : Bool) → nat_le (line_of r) n ≡ b → cond b (behind n l) (r ∷ l) ≡ r ∷ l
    go true is = let e : r ∷ up_to n l ≡ [] = sym (ap (λ t. cond t (r ∷ up_to n l) []) is) ∙ none in absurd (omega (arith, ap length e))
    go false is = refl

-- what the law of the hall says: the replies go line by line
abbrev pub GoByLines : Type 0
GoByLines = (x : State) (session after : ℕ) → replies_above x session after (length x.order)
    ≡ replies_to x session (after + 1) (length x.order) ++ replies_above x session (after + 1) (length x.order)

module _ (by_lines : GoByLines) (x : State) (i : ℕ) where
  -- passing the lines up to a later one
  above_pass : (d a : ℕ) → behind (a + d) (replies_above x i a (length x.order)) ≡ replies_above x i (a + d) (length x.order)
  above_pass zero a =
      let e : a + 0 ≡ a = omega arith in
      ap (λ k. behind k (replies_above x i a (length x.order))) e ∙ behind_high a (replies_above x i a (length x.order)) (above_line x i a (length x.order)) ∙ ap (λ k. replies_above x i k (length x.order)) (sym e)
  above_pass (suc d) a =
      let e : a + suc d ≡ (a + 1) + d = omega arith in
      ap (λ k. behind k (replies_above x i a (length x.order))) e
      ∙ ap (behind ((a + 1) + d)) (by_lines x i a)
      ∙ behind_low ((a + 1) + d) (replies_to x i (a + 1) (length x.order)) (replies_above x i (a + 1) (length x.order))
      (lines-as (λ h. h ≡ a + 1) (λ h. h ≤ (a + 1) + d) (replies_to x i (a + 1) (length x.order)) (λ h is. omega (arith, is)) (to_line x i (a + 1) (length x.order)))
      ∙ above_pass d (a + 1)
      ∙ ap (λ k. replies_above x i k (length x.order)) (sym e)

  -- of what a block gives, the replies up to the line before one are passed; those to the line come next
  module _ (block passed : Block) (n k : ℕ) (lt : n < k) (g : Gives x i block n) (left : left_in x passed ≡ behind (k - 1) (left_in x block)) where
    left_is : left_in x passed ≡ replies_to x i k (length x.order) ++ replies_above x i k (length x.order)
    left_is =
        let e : n + (k - 1 - n) ≡ k - 1 = omega (arith, lt) in
        let f : (k - 1) + 1 ≡ k = omega (arith, lt) in
        left
        ∙ sym (behind_twice n (k - 1) (left_in x block) (omega (arith, lt)))
        ∙ ap (behind (k - 1)) g.replies
        ∙ ap (λ j. behind j (replies_above x i n (length x.order))) (sym e)
        ∙ above_pass (k - 1 - n) n
        ∙ ap (λ j. replies_above x i j (length x.order)) e
        ∙ by_lines x i (k - 1)
        ∙ ap (λ j. replies_to x i j (length x.order) ++ replies_above x i j (length x.order)) f

    pub line_is : up_to k (left_in x passed) ≡ replies_to x i k (length x.order)
    line_is =
        ap (up_to k) left_is
        ∙ up_to_split k (replies_to x i k (length x.order)) (replies_above x i k (length x.order))
        (lines-as (λ h. h ≡ k) (λ h. h ≤ k) (replies_to x i k (length x.order)) (λ h is. omega (arith, is)) (to_line x i k (length x.order))) (above_line x i k (length x.order))

    pub rest_is : behind k (left_in x passed) ≡ replies_above x i k (length x.order)
    rest_is =
        ap (behind k) left_is
        ∙ behind_low k (replies_to x i k (length x.order)) (replies_above x i k (length x.order))
        (lines-as (λ h. h ≡ k) (λ h. h ≤ k) (replies_to x i k (length x.order)) (λ h is. omega (arith, is)) (to_line x i k (length x.order)))
        ∙ behind_high k (replies_above x i k (length x.order)) (above_line x i k (length x.order))

-- what a new block gives
pub gives_new : (x : State) (i after : ℕ) (places : List ℕ) (block : Block) → block.places.items ≡ places → block.next ≡ 0 → All (λ p. IsTrue (has_ended x p)) places
    → map (reply_in x) places ≡ replies_above x i after (length x.order) → Gives x i block after
gives_new x i after places block is next ended are =
    let left : left_in x block ≡ replies_above x i after (length x.order) = ap (λ k. map (reply_in x) (drop k block.places.items)) next ∙ ap (map (reply_in x)) is ∙ are in
    record {
      ended = subst (All (λ p. IsTrue (has_ended x p))) (sym is) ended;
      within = omega (arith, next);
      replies = ap (behind after) left ∙ behind_high after (replies_above x i after (length x.order)) (above_line x i after (length x.order));
    }

-- ---- one place after the other

-- the next place, and what is left behind it
pub left_more : (x : State) (block later : Block) (d : ℕ) → block.next < length block.places.items → later.places.items ≡ block.places.items → later.next ≡ block.next + 1
    → left_in x block ≡ reply_in x (slice_index_or block.places.items block.next d) ∷ left_in x later
left_more x block later d lt same next =
    ap (map (reply_in x)) (drop_more block.places.items block.next d lt)
    ∙ ap (λ l. reply_in x (slice_index_or block.places.items block.next d) ∷ map (reply_in x) l) (ap (λ l. drop (block.next + 1) l) (sym same) ∙ ap (λ k. drop k later.places.items) (sym next))

module _ (x : State) (block later : Block) (n p : ℕ) (f : IsInFront x block n (Some p)) (same : later.places.items ≡ block.places.items) (next : later.next ≡ block.next + 1) where
  left_step : left_in x block ≡ reply_in x p ∷ left_in x later
  left_step = left_more x block later 0 f.0 same next ∙ ap (λ q. reply_in x q ∷ left_in x later) (f.1 0)

  -- it is the first of those in front, and behind it are as many
  pub front_first : up_to n (left_in x block) ≡ reply_in x p ∷ up_to n (left_in x later)
  front_first = ap (up_to n) left_step ∙ ap (λ t. cond t (reply_in x p ∷ up_to n (left_in x later)) []) (yes (line_of (reply_in x p)) n f.2)

  pub front_behind : behind n (left_in x block) ≡ behind n (left_in x later)
  front_behind = ap (behind n) left_step ∙ ap (λ t. cond t (behind n (left_in x later)) (reply_in x p ∷ left_in x later)) (yes (line_of (reply_in x p)) n f.2)

-- whether one is in front
pub none_in_front : (x : State) (block : Block) (n : ℕ) (front : Option ℕ) → IsInFront x block n front → is_some front ≡ false → up_to n (left_in x block) ≡ []
none_in_front x block n None f none = f
none_in_front x block n (Some p) f none = absurd (true≢false none)

pub some_in_front : (x : State) (block : Block) (n : ℕ) (front : Option ℕ) → IsInFront x block n front → is_some front ≡ true → up_to n (left_in x block) ≡ [] → ⊥
some_in_front x block n None f some none = true≢false (sym some)
some_in_front x block n (Some p) f some none =
    let later : Block = record { places = block.places; next = block.next + 1 } in
    let e : reply_in x p ∷ up_to n (left_in x later) ≡ [] = sym (front_first x block later n p f refl refl) ∙ none in
    omega (arith, ap length e)

-- the text of the replies to a line that has some
pub some_text : (names : KnownNames) (k : ℕ) (replies : List Reply) → (replies ≡ [] → ⊥) → line_or_full names k replies ≡ flat_map (reply_text names) replies
some_text names k [] some = absurd (some refl)
some_text names k (reply ∷ replies) some = refl
