-- Laws of an admission order that grows at its end.
use Rattle.std.proofs.Common.{◌≡◌, ◌≢◌, ℕ, zero, suc, ◌+◌, ◌-◌, ◌<◌, ◌≤◌, Bool, true, false, cond, ◌&&◌, ◌==◌, List, [], ◌∷◌, ◌++◌, length, get_or, refl, sym, ap, subst, ◌∙◌, arith, ne_eqb, append-nil, length-append, inl, inr, ◌⊎◌, slice_index_or}
use Rattle.std.proofs.Math.ListN.{get_or-append}
use Rattle.std.proofs.lemmas.Bool.Decides.{eqb_tells}
use Rattle.bl_work.specs.declared.work.Work.{Work}
use Rattle.bl_order.specs.Order.{Entry, Line, Child}
use Rattle.bl_order.specs.Past.{Past, place, no_entry}
use Rattle.bl_order.specs.Machine.{State, is_lost, past_at, child_entries}
use Rattle.bl_order.proofs.Places.{place-grown}
use Rattle.bl_order.proofs.PlaceLaws.{place-lost}
use Rattle.bl_engine.specs.Requests.{SameUpTo}
use Rattle.bl_wire.specs.Replies.{Tag, Reply, tag, tag_of, tag_at, tags_to, is_of, put_in, replies_to, line_or_full, line_text}
use Rattle.bl_session.specs.Pages.{ordinal_of, AreLater}

-- ---- lists

pub get-last : (A : List Entry) (e : Entry) → slice_index_or (A ++ e ∷ []) (length A) no_entry ≡ e
get-last [] e = refl
get-last (x ∷ A) e = get-last A e

pub join : (A B C : List Entry) → (A ++ B) ++ C ≡ A ++ (B ++ C)
join [] B C = refl
join (x ∷ A) B C = ap (λ l. x ∷ l) (join A B C)

pub longer : (A : List Entry) (e : Entry) → length (A ++ e ∷ []) ≡ suc (length A)
longer [] e = refl
longer (x ∷ A) e = ap suc (longer A e)

-- ---- tags

length-tags : (A : List Entry) (n : ℕ) → length (tags_to A n) ≡ n
length-tags A zero = refl
length-tags A (suc n) = ap suc (length-tags A n)

pub tags-grown : (A more : List Entry) (n : ℕ) → n ≤ length A → tags_to (A ++ more) n ≡ tags_to A n
tags-grown A more zero le = refl
tags-grown A more (suc n) le =
    ap (λ e. tag_of (tags_to (A ++ more) n) e ∷ tags_to (A ++ more) n) (get_or-append A more no_entry n le)
    ∙ ap (λ h. tag_of h (get_or A n no_entry) ∷ h) (tags-grown A more n (omega arith))

pub tag-grown : (A more : List Entry) (n : ℕ) → n < length A → tag (A ++ more) n ≡ tag A n
tag-grown A more n lt =
    ap (λ e. tag_of (tags_to (A ++ more) n) e) (get_or-append A more no_entry n lt)
    ∙ ap (λ h. tag_of h (get_or A n no_entry)) (tags-grown A more n (omega arith))

-- the tag of the last place
pub tag-last : (A : List Entry) (e : Entry) → tag (A ++ e ∷ []) (length A) ≡ tag_of (tags_to A (length A)) e
tag-last A e =
    ap (λ x. tag_of (tags_to (A ++ e ∷ []) (length A)) x) (get-last A e)
    ∙ ap (λ h. tag_of h e) (tags-grown A (e ∷ []) (length A) (omega arith))

-- the tag of a place among those before a later one
pub tag-before : (A : List Entry) (n k : ℕ) → k < n → tag_at (tags_to A n) k ≡ tag A k
tag-before A zero k lt = absurd (omega arith)
tag-before A (suc n) k lt = go (eqb_tells k (length (tags_to A n))) (tag-before A n k)
  where
    h : List Tag
    h = tags_to A n

    go : (((k == length h) ≡ true) × (k ≡ length h)) ⊎ (((k == length h) ≡ false) × (k ≡ length h → ⊥)) → (k < n → tag_at h k ≡ tag A k) → cond (k == length h) (tag A n) (tag_at h k) ≡ tag A k
    go (inl t) deeper = ap (λ b. cond b (tag A n) (tag_at h k)) t.0 ∙ ap (tag A) (sym (t.1 ∙ length-tags A n))
    go (inr t) deeper = ap (λ b. cond b (tag A n) (tag_at h k)) t.0 ∙ deeper (omega (arith, length-tags A n))

pub tag-line : (A : List Entry) (i ordinal subject : ℕ) (w : Work) → tag (A ++ Line i ordinal subject w ∷ []) (length A) ≡ record { session = i; label = ordinal ∷ [] }
tag-line A i ordinal subject w = tag-last A (Line i ordinal subject w)

pub tag-child : (A : List Entry) (p w : ℕ) → p < length A → tag (A ++ Child p w ∷ []) (length A) ≡ record { session = (tag A p).session; label = (tag A p).label ++ w ∷ [] }
tag-child A p w lt =
    tag-last A (Child p w) ∙ ap (λ (t : Tag). record { session = t.session; label = t.label ++ w ∷ [] }) (tag-before A (length A) p lt)

-- ---- replies

and_false : (b : Bool) → (b && false) ≡ false
and_false true = refl
and_false false = refl

not_of : (i k : ℕ) (t : Tag) → ordinal_of t ≢ k → is_of i k t ≡ false
not_of i k t other = ap (λ b. (t.session == i) && b) (ne_eqb (ordinal_of t) k other) ∙ and_false (t.session == i)

abbrev put_at : State → ℕ → ℕ → ℕ → List Reply → List Reply
put_at x i k n rest = cond (is_of i k (tag x.order n)) (put_in (record { label = (tag x.order n).label; answer = (past_at x n).answer }) rest) rest

-- places of other lines add nothing to the replies to a line
replies-other : (x : State) (i k from n : ℕ) → ((p : ℕ) → from ≤ p → p < from + n → ordinal_of (tag x.order p) ≢ k) → replies_to x i k (from + n) ≡ replies_to x i k from
replies-other x i k from zero other = ap (replies_to x i k) (omega arith)
replies-other x i k from (suc n) other =
    let e : from + suc n ≡ suc (from + n) = omega arith in
    let r : Reply = record { label = (tag x.order (from + n)).label; answer = (past_at x (from + n)).answer } in
    ap (replies_to x i k) e
    ∙ ap (λ b. cond b (put_in r (replies_to x i k (from + n))) (replies_to x i k (from + n))) (not_of i k (tag x.order (from + n)) (other (from + n) (omega arith) (omega arith)))
    ∙ replies-other x i k from n (λ p low high. other p low (omega (arith, high)))

-- places with the same tags and records have the same replies
replies-alike : (x y : State) (i k n : ℕ) → ((p : ℕ) → p < n → tag y.order p ≡ tag x.order p) → ((p : ℕ) → p < n → past_at y p ≡ past_at x p) → replies_to y i k n ≡ replies_to x i k n
replies-alike x y i k zero tags pasts = refl
replies-alike x y i k (suc n) tags pasts =
    ap (λ (t : Tag). cond (is_of i k t) (put_in (record { label = t.label; answer = (past_at y n).answer }) (replies_to y i k n)) (replies_to y i k n)) (tags n (omega arith))
    ∙ ap (λ (p : Past). cond (is_of i k (tag x.order n)) (put_in (record { label = (tag x.order n).label; answer = p.answer }) (replies_to y i k n)) (replies_to y i k n)) (pasts n (omega arith))
    ∙ ap (put_at x i k n) (replies-alike x y i k n (λ p lt. tags p (omega arith)) (λ p lt. pasts p (omega arith)))

-- where an order grows, and the first places stand as they stood, and all others are of later lines, the replies up to that line stand
pub text-stands : (x y : State) (i : ℕ) (more : List Entry) (ended n : ℕ) → y.setup ≡ x.setup → y.order ≡ x.order ++ more → ((p : ℕ) → p < ended → is_lost y p ≡ is_lost x p) → ended ≤ length x.order
    → AreLater ended y.order n → SameUpTo n (line_text x i) (line_text y i)
text-stands x y i more ended n setup order lost within later k le =
    ap (λ s. line_or_full s.names k (replies_to y i k (length y.order))) setup
    ∙ ap (line_or_full x.setup.names k)
    (ap (replies_to y i k) long_y ∙ replies-other y i k ended (length y.order - ended) (λ p low high e. let far = later p low (omega (arith, high, long_y)) in omega (arith, far, e, le))
    ∙ replies-alike x y i k ended tags pasts
    ∙ sym (ap (replies_to x i k) long_x ∙ replies-other x i k ended (length x.order - ended) (λ p low high e. let far = later_x p low (omega (arith, high, long_x)) in omega (arith, far, e, le))))
  where
    grown : length y.order ≡ length x.order + length more
    grown = ap length order ∙ length-append x.order more

    long_y : length y.order ≡ ended + (length y.order - ended)
    long_y = omega (arith, grown, within)

    long_x : length x.order ≡ ended + (length x.order - ended)
    long_x = omega (arith, within)

    same_tag : (p : ℕ) → p < length x.order → tag y.order p ≡ tag x.order p
    same_tag p lt = ap (λ o. tag o p) order ∙ tag-grown x.order more p lt

    later_x : AreLater ended x.order n
    later_x p low high = subst (λ (t : Tag). n < ordinal_of t) (same_tag p high) (later p low (omega (arith, high, grown)))

    tags : (p : ℕ) → p < ended → tag y.order p ≡ tag x.order p
    tags p lt = same_tag p (omega (arith, lt, within))

    pasts : (p : ℕ) → p < ended → past_at y p ≡ past_at x p
    pasts p lt =
        ap (λ s. place s (is_lost y) y.order p) setup
        ∙ ap (λ o. place x.setup (is_lost y) o p) order
        ∙ place-grown x.setup (is_lost y) (is_lost y) x.order more p (λ k. refl) (omega (arith, lt, within))
        ∙ place-lost x.setup (is_lost y) (is_lost x) x.order p (λ k low. lost k (omega (arith, low, lt)))

-- one line more
pub later-line : (A : List Entry) (from i ordinal subject n : ℕ) (w : Work) → AreLater from A n → n < ordinal → AreLater from (A ++ Line i ordinal subject w ∷ []) n
later-line A from i ordinal subject n w later above p low high = go (eqb_tells p (length A))
  where
    new : List Entry
    new = Line i ordinal subject w ∷ []

    go : (((p == length A) ≡ true) × (p ≡ length A)) ⊎ (((p == length A) ≡ false) × (p ≡ length A → ⊥)) → n < ordinal_of (tag (A ++ new) p)
    go (inl t) = subst (λ q. n < ordinal_of (tag (A ++ new) q)) (sym t.1) (subst (λ (t : Tag). n < ordinal_of t) (sym (tag-line A i ordinal subject w)) above)
    go (inr t) =
        let lt : p < length A = omega (arith, high, longer A (Line i ordinal subject w), t.1) in
        subst (λ (t : Tag). n < ordinal_of t) (sym (tag-grown A new p lt)) (later p low lt)

-- a label that has a number keeps its first one where another is added
pub first_kept : (n w : ℕ) (label : List ℕ) → n < slice_index_or label 0 0 → n < slice_index_or (label ++ w ∷ []) 0 0
first_kept n w [] lt = absurd (omega arith)
first_kept n w (h ∷ label) lt = lt

pub later-child : (A : List Entry) (from parent w n : ℕ) → AreLater from A n → from ≤ parent → parent < length A → AreLater from (A ++ Child parent w ∷ []) n
later-child A from parent w n later le lt p low high = go (eqb_tells p (length A))
  where
    new : List Entry
    new = Child parent w ∷ []

    go : (((p == length A) ≡ true) × (p ≡ length A)) ⊎ (((p == length A) ≡ false) × (p ≡ length A → ⊥)) → n < ordinal_of (tag (A ++ new) p)
    go (inl t) =
        subst (λ q. n < ordinal_of (tag (A ++ new) q)) (sym t.1)
        (subst (λ (t : Tag). n < ordinal_of t) (sym (tag-child A parent w lt)) (first_kept n w (tag A parent).label (later parent le lt)))
    go (inr t) =
        let here : p < length A = omega (arith, high, longer A (Child parent w), t.1) in
        subst (λ (t : Tag). n < ordinal_of t) (sym (tag-grown A new p here)) (later p low here)

pub later-children : (behaviours : List ℕ) (A : List Entry) (from parent w n : ℕ) → AreLater from A n → from ≤ parent → parent < length A → AreLater from (A ++ child_entries parent w behaviours) n
later-children [] A from parent w n later le lt = subst (λ l. AreLater from l n) (sym (append-nil A)) later
later-children (b ∷ behaviours) A from parent w n later le lt =
    subst (λ l. AreLater from l n) (join A (Child parent w ∷ []) (child_entries parent (w + 1) behaviours))
    (later-children behaviours (A ++ Child parent w ∷ []) from parent (w + 1) n (later-child A from parent w n later le lt) le
    (omega (arith, longer A (Child parent w))))
