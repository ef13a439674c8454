-- Laws of the replies to a block of which one after the other is taken out.
use Rattle.std.proofs.Common.{◌≡◌, ℕ, suc, ◌+◌, ◌-◌, ◌<◌, ◌≤◌, ◌==◌, Bool, true, false, not, if◌then◌else◌, List, [], ◌∷◌, ◌++◌, length, map, take, drop, set, length-append, length-drop, length-set, refl, sym, ap, subst, ◌∙◌, append-nil, add-one, arith, nat_lt, get_or, All, codes}
use Rattle.std.specs.List.{flat_map}
use Rattle.std.proofs.lemmas.List.{drop-drop, drop-set-lt, get_or-drop, set_split, take-append-drop, take_more_set}
use Rattle.std.proofs.Math.Seq.{drop-cons, take-add}
use Rattle.std.proofs.lemmas.List.Elements.{All-append, All-push, All-tail, All-weaker}
use Rattle.std.proofs.lemmas.Bool.Decides.{nat_tests}
use Rattle.bl_work.specs.Names.{KnownNames}
use Rattle.bl_hall.specs.declared.reply.Reply as owned
use Rattle.bl_hall.specs.Told.{reply_of}
use Rattle.bl_wire.specs.Replies.{label_text, answer_text, reply_text, line_or_full}
use Rattle.bl_wire.specs.Texts.{refusal}
use Rattle.bl_wire.specs.Watch.{EndState, Puts}
use Rattle.bl_engine.specs.Parts.{MayTake, PutsPart, SameAbove, next_behind, rest_of}
use Rattle.bl_serve.specs.Telling.{Stands}
use Rattle.bl_serve.specs.Told.{ordinal_of, line_of, told_text, begins_with, told_already, AreNamed, BeginsAbove, GoByLine, IsPage}
use Rattle.bl_serve.specs.declared.talk.Told.{Told}
use Rattle.bl_serve.proofs.ToldLaws.{begins_above, line-append, line_back, none_to, text_some}

same : (n k : ℕ) → (n == k) ≡ true → n ≡ k
same n k is = grind (arith, nat_tests)

is_same : (n k : ℕ) → n ≡ k → (n == k) ≡ true
is_same n k is = grind (arith, nat_tests)

not_same : (n k : ℕ) → (n == k) ≡ false → n ≡ k → ⊥
not_same n k other is = grind (arith, nat_tests)

is_other : (n k : ℕ) → (n ≡ k → ⊥) → (n == k) ≡ false
is_other n k other = grind (arith, nat_tests)

is_less : (n : ℕ) → 0 < n → nat_lt 0 n ≡ true
is_less n lt = grind (arith, nat_tests)

-- ---- a place further on

-- from a place on they go line by line too
pub order_drop : (n : ℕ) (told : List owned.Reply) → GoByLine told → GoByLine (drop n told)
order_drop n told order i j d lt within =
    subst (λ (r : owned.Reply). ordinal_of r ≤ ordinal_of (get_or (drop n told) j d)) (sym (get_or-drop n told i d))
    (subst (λ (r : owned.Reply). ordinal_of (get_or told (n + i) d) ≤ ordinal_of r) (sym (get_or-drop n told j d))
    (order (n + i) (n + j) d (omega (arith, lt)) (omega (arith, within, length-drop n told))))

-- those that were passed over are to lines up to another ordinal
pub page_on : (told : List owned.Reply) (next n m c : ℕ) → IsPage told next n → n ≤ m → c ≤ length (drop next told) → All (λ r. ordinal_of r ≤ m) (take c (drop next told))
    → IsPage told (next + c) m
page_on told next n m c page le within low = record {
  order = subst GoByLine (drop-drop c next told) (order_drop c (drop next told) page.order);
  within = (let most = page.within in omega (arith, within, length-drop next told, most));
  low = subst (All (λ (r : owned.Reply). ordinal_of r ≤ m)) (sym (take-add next c told))
      (All-append (λ (r : owned.Reply). ordinal_of r ≤ m) (take next told) (take c (drop next told))
      (All-weaker (λ (r : owned.Reply). ordinal_of r ≤ n) (λ (r : owned.Reply). ordinal_of r ≤ m) (λ r is. omega (arith, is, le)) (take next told) page.low) low);
}

pub page_weaker : (told : List owned.Reply) (at n m : ℕ) → IsPage told at n → n ≤ m → IsPage told at m
page_weaker told at n m page le = record {
  order = page.order;
  within = page.within;
  low = All-weaker (λ (r : owned.Reply). ordinal_of r ≤ n) (λ (r : owned.Reply). ordinal_of r ≤ m) (λ r is. omega (arith, is, le)) (take at told) page.low;
}

-- ---- the replies to a line

-- a reply to another line is passed over
skip : (k : ℕ) (r : owned.Reply) (l : List owned.Reply) → (ordinal_of r ≡ k → ⊥) → line_of k (r ∷ l) ≡ line_of k l
skip k r l other = ap (λ (b : Bool). if b then r ∷ line_of k l else line_of k l) (is_other (ordinal_of r) k other)

keep : (k : ℕ) (r : owned.Reply) (l : List owned.Reply) → ordinal_of r ≡ k → line_of k (r ∷ l) ≡ r ∷ line_of k l
keep k r l is = ap (λ (b : Bool). if b then r ∷ line_of k l else line_of k l) (is_same (ordinal_of r) k is)

-- of those that go line by line none is to the line, where the first one is to a later one
no_line : (k : ℕ) (l : List owned.Reply) → 0 < k → GoByLine l → BeginsAbove (k - 1) l → begins_with k l ≡ false → line_of k l ≡ []
no_line k [] some order above none = refl
no_line k (r ∷ l) some order above none =
    let other = not_same (ordinal_of r) k none in
    let later : k < ordinal_of r = behind (ordinal_of r) above other in
    none_to k (r ∷ l) (All-weaker (λ (q : owned.Reply). k < ordinal_of q) (λ (q : owned.Reply). ordinal_of q ≡ k → ⊥) (λ q lt is. omega (arith, lt, is)) (r ∷ l)
    (begins_above (r ∷ l) 0 k order later))
  where
    behind : (n : ℕ) → k - 1 < n → (n ≡ k → ⊥) → k < n
    behind n lt other = grind (arith, nat_tests)

-- where the first one is to the line, there is one
some_line : (k : ℕ) (l : List owned.Reply) → begins_with k l ≡ true → nat_lt 0 (length (line_of k l)) ≡ true
some_line k [] is = cc
some_line k (r ∷ l) is = ap (λ (q : List owned.Reply). nat_lt 0 (length q)) (keep k r l (same (ordinal_of r) k is)) ∙ is_less (length (r ∷ line_of k l)) (omega arith)

pub some_there : (k : ℕ) (l : List owned.Reply) → begins_with k l ≡ true → 0 < length l
some_there k [] is = cc
some_there k (r ∷ l) is = omega arith

pub one_there : (k at : ℕ) (told : List owned.Reply) → begins_with k (drop at told) ≡ true → at < length told
one_there k at told is = (let some = some_there k (drop at told) is in omega (arith, some, length-drop at told))

-- those before a place are to earlier lines
line_from : (k n at : ℕ) (told : List owned.Reply) → n < k → All (λ r. ordinal_of r ≤ n) (take at told) → line_of k told ≡ line_of k (drop at told)
line_from k n at told lt low =
    ap (line_of k) (sym (take-append-drop at told))
    ∙ line_back k (take at told) (drop at told) (All-weaker (λ (r : owned.Reply). ordinal_of r ≤ n) (λ (r : owned.Reply). ordinal_of r ≡ k → ⊥) (λ r le is. omega (arith, le, lt, is)) (take at told) low)

-- ---- a line that has no reply

pub none_part : (names : KnownNames) (told : List owned.Reply) (at k n : ℕ) (x y : EndState) → IsPage told at n → n < k → BeginsAbove (k - 1) (drop at told) → begins_with k (drop at told) ≡ false
    → Puts (refusal k (codes "full")) x y → PutsPart (told_text names told k) [] true x y
none_part names told at k n x y page lt above none puts = record {
  part = refusal k (codes "full");
  split =
      ap (λ l. line_or_full names k (map reply_of l)) (line_from k n at told lt page.low ∙ no_line k (drop at told) (omega (arith, lt)) page.order above none)
      ∙ sym (append-nil (refusal k (codes "full")));
  puts = puts;
  some = λ e. cc;
  none = λ _. refl;
}

-- ---- a reply that is taken out

module _ (told new : List owned.Reply) (r : owned.Reply) (at k n : ℕ) (there : at < length told) (is : r ≡ get_or told at r) (left : new ≡ set told at told_already)
    (page : IsPage told at n) (below : n < k) (here : begins_with k (drop at told) ≡ true) where
  abbrev back : List owned.Reply
  back = drop (suc at) told

  from_here : drop at told ≡ r ∷ back
  from_here = drop-cons told at r there ∙ ap (λ q. q ∷ back) (sym is)

  pub to_line : ordinal_of r ≡ k
  to_line = same (ordinal_of r) k (subst (λ l. begins_with k l ≡ true) from_here here)

  split : told ≡ take at told ++ r ∷ back
  split = sym (take-append-drop at told) ∙ ap (λ l. take at told ++ l) from_here

  now : new ≡ take at told ++ told_already ∷ back
  now = left ∙ set_split told at told_already there

  front_other : All (λ (q : owned.Reply). ordinal_of q ≡ k → ⊥) (take at told)
  front_other = All-weaker (λ (q : owned.Reply). ordinal_of q ≤ n) (λ (q : owned.Reply). ordinal_of q ≡ k → ⊥) (λ q le e. omega (arith, le, below, e)) (take at told) page.low

  line_was : line_of k told ≡ r ∷ line_of k back
  line_was = ap (line_of k) split ∙ line_back k (take at told) (r ∷ back) front_other ∙ keep k r back to_line

  line_now : line_of k new ≡ line_of k back
  line_now = ap (line_of k) now ∙ line_back k (take at told) (told_already ∷ back) front_other ∙ skip k told_already back (λ e. omega (arith, below, e))

  -- later lines have what they had
  pub others : (names : KnownNames) → SameAbove k (told_text names told) (told_text names new)
  others names j lt =
      ap (λ l. line_or_full names j (map reply_of l))
      (ap (line_of j) now ∙ line-append j (take at told) (told_already ∷ back)
      ∙ ap (λ l. line_of j (take at told) ++ l) (skip j told_already back (λ e. omega (arith, lt, e)) ∙ sym (skip j r back (λ e. omega (arith, lt, e, to_line))))
      ∙ sym (line-append j (take at told) (r ∷ back)) ∙ ap (line_of j) (sym split))

  back_is : drop (at + 1) new ≡ back
  back_is = ap (λ i. drop i new) (add-one at) ∙ ap (drop (suc at)) left ∙ drop-set-lt (suc at) told at told_already (omega arith)

  here_order : GoByLine (r ∷ back)
  here_order = subst GoByLine from_here page.order

  back_order : GoByLine back
  back_order = order_drop 1 (r ∷ back) here_order

  pub page_now : IsPage new (at + 1) n
  page_now = record {
    order = subst GoByLine (sym back_is) back_order;
    within = (let long = ap length left ∙ length-set told at told_already in omega (arith, there, long));
    low = subst (All (λ (q : owned.Reply). ordinal_of q ≤ n)) (sym (ap (take (at + 1)) left ∙ take_more_set told at told_already there))
        (All-push (λ (q : owned.Reply). ordinal_of q ≤ n) (take at told) told_already page.low (omega arith));
  }

  -- the replies that are left begin at the line, or at a later one
  back_above : (l : List owned.Reply) → GoByLine (r ∷ l) → BeginsAbove (k - 1) l
  back_above [] order = tt
  back_above (q ∷ l) order = (let le = order 0 1 r (omega arith) (omega arith) in omega (arith, le, to_line, below))

  long : (names : KnownNames) → 0 < length (reply_text names (reply_of r))
  long names =
      let all = length-append (label_text (reply_of r).label) (answer_text names (reply_of r).answer ++ codes "\n") in
      let rest = length-append (answer_text names (reply_of r).answer) (codes "\n") in
      omega (arith, all, rest)

  text_was : (names : KnownNames) → told_text names told k ≡ reply_text names (reply_of r) ++ flat_map (reply_text names) (map reply_of (line_of k back))
  text_was names = ap (λ l. line_or_full names k (map reply_of l)) line_was

  pub one_part : (names : KnownNames) (last : Bool) (x y : EndState) → last ≡ not (begins_with k (drop (at + 1) new)) → Puts (reply_text names (reply_of r)) x y
      → PutsPart (told_text names told k) (rest_of last (told_text names new k)) last x y
  one_part names last x y last_is puts =
      subst (λ b. PutsPart (told_text names told k) (rest_of b (told_text names new k)) b x y) (sym (last_is ∙ ap (λ l. not (begins_with k l)) back_is)) (go (begins_with k back) refl)
    where
      go : (b : Bool) → begins_with k back ≡ b → PutsPart (told_text names told k) (rest_of (not (begins_with k back)) (told_text names new k)) (not (begins_with k back)) x y
      go false none = subst (λ b. PutsPart (told_text names told k) (rest_of (not b) (told_text names new k)) (not b) x y) (sym none) (record {
        part = reply_text names (reply_of r);
        split = text_was names ∙ ap (λ l. reply_text names (reply_of r) ++ flat_map (reply_text names) (map reply_of l)) (no_line k back (omega (arith, below)) back_order (back_above back here_order) none);
        puts = puts;
        some = λ e. cc;
        none = λ _. refl;
      })
      go true some = subst (λ b. PutsPart (told_text names told k) (rest_of (not b) (told_text names new k)) (not b) x y) (sym some) (record {
        part = reply_text names (reply_of r);
        split =
            text_was names
            ∙ ap (λ l. reply_text names (reply_of r) ++ l) (text_some names k (line_of k back) (some_line k back some) ∙ ap (λ l. line_or_full names k (map reply_of l)) (sym line_now));
        puts = puts;
        some = λ _. long names;
        none = λ e. cc;
      })

  pub stands_now : (last : Bool) → MayTake (IsPage new (at + 1)) (next_behind last k)
  stands_now true = (k, omega arith, page_weaker new (at + 1) n k page_now (omega (arith, below)))
  stands_now false = (n, below, page_now)

-- ---- what stands of a block

pub stands_so : (new : Told) (m : ℕ) → new.upto < m → MayTake (IsPage new.replies.items new.next) m → AreNamed new.names.now new.replies.items → MayTake (Stands new) m
stands_so new m lt page named = (
  m - 1,
  omega (arith, lt),
  record {
    upto = omega (arith, lt);
    page = page_weaker new.replies.items new.next page.0 (m - 1) page.2 (let below = page.1 in omega (arith, below));
    named = named;
  },
)
