-- Laws of the replies that a session was told: which of them are to a line, and that what comes later doesn't change them.
use Rattle.std.proofs.Common.{◌≡◌, ℕ, ◌+◌, ◌⊎◌, inl, inr, ◌<◌, ◌≤◌, ◌==◌, Bool, true, false, if◌then◌else◌, List, [], ◌∷◌, ◌++◌, length, map, take, drop, length-drop, refl, sym, ap, subst, ◌∙◌, append-nil, arith, nat_lt, get_or, All, codes}
use Rattle.std.specs.List.{flat_map}
use Rattle.std.proofs.lemmas.List.{get_or-drop, get_or-take, take_more, length-take, take-append-drop}
use Rattle.std.proofs.Math.Seq.{drop-cons}
use Rattle.std.proofs.lemmas.List.Elements.{All-append, All-cons, All-head, All-nil, All-tail, All-weaker, filter-append}
use Rattle.std.proofs.lemmas.Bool.Decides.{eqb_tells, nat_tests}
use Rattle.bl_work.specs.Few.{items_of}
use Rattle.bl_work.specs.Names.{KnownNames}
use Rattle.bl_hall.specs.declared.reply.Reply as owned
use Rattle.bl_hall.specs.Told.{reply_of}
use Rattle.bl_wire.specs.Named.{NamesAnswer}
use Rattle.bl_wire.specs.Replies.{label_text, answer_text, reply_text, line_or_full}
use Rattle.bl_serve.specs.Told.{ordinal_of, line_of, told_text, BeginsAbove, GoByLine, IsPage, IsTold}

not_same : (n k : ℕ) → (n ≡ k → ⊥) → (n == k) ≡ false
not_same n k other = grind (arith, nat_tests)

-- ---- the replies to a line

-- none of them is to the line
pub none_to : (k : ℕ) (told : List owned.Reply) → All (λ r. ordinal_of r ≡ k → ⊥) told → line_of k told ≡ []
none_to k [] other = refl
none_to k (r ∷ told) other =
    ap (λ (b : Bool). if b then r ∷ line_of k told else line_of k told) (not_same (ordinal_of r) k (All-head (λ (q : owned.Reply). ordinal_of q ≡ k → ⊥) r told other))
    ∙ none_to k told (All-tail (λ (q : owned.Reply). ordinal_of q ≡ k → ⊥) r told other)

pub line-append : (k : ℕ) (told more : List owned.Reply) → line_of k (told ++ more) ≡ line_of k told ++ line_of k more
line-append k told more = filter-append (λ (r : owned.Reply). ordinal_of r == k) told more

-- those after are to other lines
pub line_front : (k : ℕ) (told more : List owned.Reply) → All (λ r. ordinal_of r ≡ k → ⊥) more → line_of k (told ++ more) ≡ line_of k told
line_front k told more other = line-append k told more ∙ ap (λ l. line_of k told ++ l) (none_to k more other) ∙ append-nil (line_of k told)

-- those in front are
pub line_back : (k : ℕ) (told more : List owned.Reply) → All (λ r. ordinal_of r ≡ k → ⊥) told → line_of k (told ++ more) ≡ line_of k more
line_back k told more other = line-append k told more ∙ ap (λ l. l ++ line_of k more) (none_to k told other)

-- of the replies that were looked at, with one more
pub line_more : (k i : ℕ) (told : List owned.Reply) (d : owned.Reply) → i < length told
    → line_of k (take (i + 1) told) ≡ line_of k (take i told) ++ line_of k (get_or told i d ∷ [])
line_more k i told d lt = ap (line_of k) (take_more told i d lt) ∙ line-append k (take i told) (get_or told i d ∷ [])

one_is : (k : ℕ) (r : owned.Reply) → ordinal_of r ≡ k → line_of k (r ∷ []) ≡ r ∷ []
one_is k r is = go (eqb_tells (ordinal_of r) k)
  where
    go : (((ordinal_of r == k) ≡ true) × (ordinal_of r ≡ k)) ⊎ (((ordinal_of r == k) ≡ false) × (ordinal_of r ≡ k → ⊥)) → line_of k (r ∷ []) ≡ r ∷ []
    go (inl t) = ap (λ (b : Bool). if b then r ∷ [] else []) t.0
    go (inr t) = absurd (t.1 is)

one_other : (k : ℕ) (r : owned.Reply) → (ordinal_of r ≡ k → ⊥) → line_of k (r ∷ []) ≡ []
one_other k r other = none_to k (r ∷ []) (All-cons (λ (q : owned.Reply). ordinal_of q ≡ k → ⊥) r [] other (All-nil (λ (q : owned.Reply). ordinal_of q ≡ k → ⊥)))

-- one more to the line, or to another
pub line_with : (k i : ℕ) (told : List owned.Reply) (d : owned.Reply) → i < length told → ordinal_of (get_or told i d) ≡ k
    → line_of k (take (i + 1) told) ≡ line_of k (take i told) ++ get_or told i d ∷ []
line_with k i told d lt is = line_more k i told d lt ∙ ap (λ l. line_of k (take i told) ++ l) (one_is k (get_or told i d) is)

pub line_without : (k i : ℕ) (told : List owned.Reply) (d : owned.Reply) → i < length told → (ordinal_of (get_or told i d) ≡ k → ⊥)
    → line_of k (take (i + 1) told) ≡ line_of k (take i told)
line_without k i told d lt other = line_more k i told d lt ∙ ap (λ l. line_of k (take i told) ++ l) (one_other k (get_or told i d) other) ∙ append-nil (line_of k (take i told))

-- ---- line by line

-- from a place on all are to lines above an ordinal, where the one there is
pub all_above : (told : List owned.Reply) (at n : ℕ) → GoByLine told → ((d : owned.Reply) → at < length told → n < ordinal_of (get_or told at d)) → All (λ r. n < ordinal_of r) (drop at told)
all_above told at n order above i d lt =
    subst (λ (r : owned.Reply). n < ordinal_of r) (sym (get_or-drop at told i d)) (go (either i))
  where
    inside : at + i < length told
    inside = omega (arith, lt, length-drop at told)

    either : (i : ℕ) → (i ≡ 0) ⊎ (0 < i)
    either i = grind arith

    go : (i ≡ 0) ⊎ (0 < i) → n < ordinal_of (get_or told (at + i) d)
    go (inl none) = let here : at ≡ at + i = omega arith in subst (λ (j : ℕ). n < ordinal_of (get_or told j d)) here (above d (omega (arith, inside)))
    go (inr some) = let first = above d (omega (arith, inside)) in let le = order at (at + i) d (omega arith) inside in omega (arith, first, le)

pub begins_above : (told : List owned.Reply) (at n : ℕ) → GoByLine told → BeginsAbove n (drop at told) → All (λ r. n < ordinal_of r) (drop at told)
begins_above told at n order above = all_above told at n order (λ d lt. subst (BeginsAbove n) (drop-cons told at d lt) above)

pub order_take : (told : List owned.Reply) (n : ℕ) → GoByLine told → GoByLine (take n told)
order_take told n order i j d lt within =
    let few = length-take n told in
    let le = order i j d lt (omega (arith, within, few)) in
    subst (λ (r : owned.Reply). ordinal_of r ≤ ordinal_of (get_or (take n told) j d)) (sym (get_or-take n told i d (omega (arith, lt, within, few))))
    (subst (λ (r : owned.Reply). ordinal_of (get_or told i d) ≤ ordinal_of r) (sym (get_or-take n told j d (omega (arith, within, few)))) le)

-- ---- a page

pub page_first : (told : List owned.Reply) (n : ℕ) → GoByLine told → IsPage told 0 n
page_first told n order = record { order = order; within = omega arith; low = All-nil (λ (r : owned.Reply). ordinal_of r ≤ n) }

-- up to a place all replies to a line were passed over, where those from there on are to later lines
pub line_until : (k at : ℕ) (told : List owned.Reply) → All (λ r. k < ordinal_of r) (drop at told) → line_of k told ≡ line_of k (take at told)
line_until k at told above =
    ap (line_of k) (sym (take-append-drop at told))
    ∙ line_front k (take at told) (drop at told) (All-weaker (λ (r : owned.Reply). k < ordinal_of r) (λ (r : owned.Reply). ordinal_of r ≡ k → ⊥) (λ r lt is. omega (arith, lt, is)) (drop at told) above)

-- ---- texts

-- a line with replies, and one without
pub text_some : (names : KnownNames) (k : ℕ) (replies : List owned.Reply) → nat_lt 0 (length replies) ≡ true
    → flat_map (reply_text names) (map reply_of replies) ≡ line_or_full names k (map reply_of replies)
text_some names k [] some = cc
text_some names k (r ∷ replies) some = refl

-- a label that begins so
pub labelled : (reply : owned.Reply) (n : ℕ) (path : List ℕ) (names : KnownNames) → items_of reply.label ≡ n ∷ path
    → reply_text names (reply_of reply) ≡ label_text (n ∷ path) ++ (answer_text names reply.answer ++ codes "\n")
labelled reply n path names is = ap (λ l. label_text l ++ (answer_text names reply.answer ++ codes "\n")) is

-- ---- what was told, and a block more

-- what is told of an earlier line stays so
pub text_stays : (names : KnownNames) (after upto : ℕ) (told more : List owned.Reply) → All (IsTold names after upto) more → (k : ℕ) → k ≤ after → told_text names (told ++ more) k ≡ told_text names told k
text_stays names after upto told more are k le =
    ap (λ l. line_or_full names k (map reply_of l))
    (line_front k told more (All-weaker (IsTold names after upto) (λ (r : owned.Reply). ordinal_of r ≡ k → ⊥) (λ r is e. (let low = is.low in omega (arith, low, le, e))) more are))

-- and of a later one it is what the block has
pub text_new : (names : KnownNames) (after : ℕ) (told more : List owned.Reply) → All (IsTold names 0 after) told → (k : ℕ) → after < k → told_text names (told ++ more) k ≡ told_text names more k
text_new names after told more was k lt =
    ap (λ l. line_or_full names k (map reply_of l))
    (line_back k told more (All-weaker (IsTold names 0 after) (λ (r : owned.Reply). ordinal_of r ≡ k → ⊥) (λ r is e. (let high = is.high in omega (arith, high, lt, e))) told was))

-- all that was told is told up to the last line
pub told_on : (names : KnownNames) (after upto : ℕ) (told more : List owned.Reply) → after ≤ upto → All (IsTold names 0 after) told → All (IsTold names after upto) more
    → All (IsTold names 0 upto) (told ++ more)
told_on names after upto told more within was are =
    All-append (IsTold names 0 upto) told more
    (All-weaker (IsTold names 0 after) (IsTold names 0 upto) (λ r is. record { low = is.low; high = omega (arith, is.high, within); named = is.named }) told was)
    (All-weaker (IsTold names after upto) (IsTold names 0 upto) (λ r is. record { low = omega (arith, is.low); high = is.high; named = is.named }) more are)

pub all_named : (names : KnownNames) (after upto : ℕ) (told : List owned.Reply) → All (IsTold names after upto) told → All (λ r. NamesAnswer names r.answer) told
all_named names after upto told are = All-weaker (IsTold names after upto) (λ r. NamesAnswer names r.answer) (λ r is. is.named) told are
