-- Places in order of their labels.
use Rattle.std.proofs.Common.{◌≡◌, ◌≢◌, ℕ, zero, suc, ◌+◌, ◌<◌, ◌≤◌, Bool, true, false, cond, List, [], ◌∷◌, ◌++◌, length, map, refl, sym, ap, subst, ◌∙◌, arith, true≢false, inl, inr, ◌⊎◌}
use Rattle.std.specs.Prelude.{All}
use Rattle.std.proofs.lemmas.List.Elements.{All-nil, All-cons}
use Rattle.bl_order.specs.Labels.{Tag, Reply, tag, is_before, is_of, put_in, replies_to}
use Rattle.bl_order.specs.Machine.{State}
use Rattle.bl_order.specs.Order.{Entry}
use Rattle.bl_hall.specs.Linked.{put_place, places_with}
use Rattle.bl_hall.specs.Told.{is_above, replies_above, reply_in}
use Rattle.bl_hall.proofs.Labels.{before-once, before-far}
use Rattle.bl_hall.proofs.Tags.{tag-grown}

-- each element has a property
abbrev pub Each : {A : Type 0} → (A → Type 0) → List A → Type 0
Each P [] = Unit {0}
Each P (m ∷ ms) = P m × Each P ms

pub each-all : {A : Type 0} (P : A → Type 0) (ms : List A) → Each P ms → All P ms
each-all P [] h = All-nil P
each-all P (m ∷ ms) h = All-cons P m ms h.0 (each-all P ms h.1)

pub each-as : {A : Type 0} (P Q : A → Type 0) (ms : List A) → ((m : A) → P m → Q m) → Each P ms → Each Q ms
each-as P Q [] f h = tt
each-as P Q (m ∷ ms) f h = (f m h.0, each-as P Q ms f h.1)

pub each-both : {A : Type 0} (P Q R : A → Type 0) (ms : List A) → ((m : A) → P m → Q m → R m) → Each P ms → Each Q ms → Each R ms
each-both P Q R [] f h k = tt
each-both P Q R (m ∷ ms) f h k = (f m h.0 k.0, each-both P Q R ms f h.1 k.1)

pub each-join : {A : Type 0} (P : A → Type 0) (xs ys : List A) → Each P xs → Each P ys → Each P (xs ++ ys)
each-join P [] ys h k = k
each-join P (x ∷ xs) ys h k = (h.0, each-join P xs ys h.1 k)

pub each-front : {A : Type 0} (P : A → Type 0) (xs ys : List A) → Each P (xs ++ ys) → Each P xs
each-front P [] ys h = tt
each-front P (x ∷ xs) ys h = (h.0, each-front P xs ys h.1)

pub each-back : {A : Type 0} (P : A → Type 0) (xs ys : List A) → Each P (xs ++ ys) → Each P ys
each-back P [] ys h = h
each-back P (x ∷ xs) ys h = each-back P xs ys h.1

module _ (order : List Entry) where
  abbrev label : ℕ → List ℕ
  label n = (tag order n).label

  -- the places stand in order of their labels
  abbrev pub InOrder : List ℕ → Type 0
  InOrder [] = Unit {0}
  InOrder (m ∷ ms) = Each (λ q. is_before (label q) (label m) ≡ false) ms × InOrder ms

  pub put-each : (P : ℕ → Type 0) (n : ℕ) (ms : List ℕ) → P n → Each P ms → Each P (put_place order n ms)
  put-each P n [] p h = (p, tt)
  put-each P n (m ∷ ms) p h =
      elim (is_before (label n) (label m)) as (λ t. Each P (cond t (n ∷ m ∷ ms) (m ∷ put_place order n ms))) [ true ↦ (p, h) | false ↦ (h.0, put-each P n ms p h.1) ]

  put-ordered : (n : ℕ) (ms : List ℕ) → InOrder ms → InOrder (put_place order n ms)
  put-ordered n [] h = (tt, tt)
  put-ordered n (m ∷ ms) h = go (is_before (label n) (label m)) refl (put-ordered n ms h.1)
    where
      go : (b : Bool) → is_before (label n) (label m) ≡ b → InOrder (put_place order n ms) → InOrder (cond b (n ∷ m ∷ ms) (m ∷ put_place order n ms))
      go true is deeper = (
        (before-once (label n) (label m) is, each-as (λ q. is_before (label q) (label m) ≡ false) (λ q. is_before (label q) (label n) ≡ false) ms (λ q e. before-far (label n) (label m) (label q) is e) h.0),
        h,
      )
      go false is deeper = (put-each (λ q. is_before (label q) (label m) ≡ false) n ms is h.0, deeper)

  pub are-ordered : (mine : Tag → Bool) (n : ℕ) → InOrder (places_with order mine n)
  are-ordered mine zero = tt
  are-ordered mine (suc n) =
      elim (mine (tag order n)) as (λ t. InOrder (cond t (put_place order n (places_with order mine n)) (places_with order mine n)))
      [ true ↦ put-ordered n (places_with order mine n) (are-ordered mine n) | false ↦ are-ordered mine n ]

  -- a place before n that passes the test
  abbrev pub IsMember : (Tag → Bool) → ℕ → ℕ → Type 0
  IsMember mine n m = (m < n) × (mine (tag order m) ≡ true)

  pub are-members : (mine : Tag → Bool) (n : ℕ) → Each (IsMember mine n) (places_with order mine n)
  are-members mine zero = tt
  are-members mine (suc n) =
      go (mine (tag order n)) refl
      (each-as (IsMember mine n) (IsMember mine (suc n)) (places_with order mine n) (λ m h. (omega (arith, h.0), h.1)) (are-members mine n))
    where
      go : (b : Bool) → mine (tag order n) ≡ b → Each (IsMember mine (suc n)) (places_with order mine n)
          → Each (IsMember mine (suc n)) (cond b (put_place order n (places_with order mine n)) (places_with order mine n))
      go true is older = put-each (IsMember mine (suc n)) n (places_with order mine n) (omega arith, is) older
      go false is older = older

  -- no place stands twice
  abbrev pub StandOnce : List ℕ → Type 0
  StandOnce [] = Unit {0}
  StandOnce (m ∷ ms) = Each (λ q. q ≢ m) ms × StandOnce ms

  put-once : (n : ℕ) (ms : List ℕ) → Each (λ q. q ≢ n) ms → StandOnce ms → StandOnce (put_place order n ms)
  put-once n [] h apart = (tt, tt)
  put-once n (m ∷ ms) h apart =
      elim (is_before (label n) (label m)) as (λ t. StandOnce (cond t (n ∷ m ∷ ms) (m ∷ put_place order n ms)))
      [ true ↦ (h, apart) | false ↦ (put-each (λ q. q ≢ m) n ms (λ e. h.0 (sym e)) apart.0, put-once n ms h.1 apart.1) ]

  pub stand-once : (mine : Tag → Bool) (n : ℕ) → StandOnce (places_with order mine n)
  stand-once mine zero = tt
  stand-once mine (suc n) =
      elim (mine (tag order n)) as (λ t. StandOnce (cond t (put_place order n (places_with order mine n)) (places_with order mine n))) [
        | true ↦ put-once n (places_with order mine n)
            (each-as (IsMember mine n) (λ q. q ≢ n) (places_with order mine n) (λ q h e. omega (arith, h.0, e)) (are-members mine n)) (stand-once mine n)
        | false ↦ stand-once mine n
      ]

  -- no place from one on passes the test
  pub skips : (mine : Tag → Bool) (from k : ℕ) → ((i : ℕ) → i < k → mine (tag order (from + i)) ≡ false) → places_with order mine (from + k) ≡ places_with order mine from
  skips mine from zero none = ap (places_with order mine) (omega arith)
  skips mine from (suc k) none =
      let e : from + suc k ≡ suc (from + k) = omega arith in
      ap (places_with order mine) e
      ∙ ap (λ b. cond b (put_place order (from + k) (places_with order mine (from + k))) (places_with order mine (from + k))) (none k (omega arith))
      ∙ skips mine from k (λ i lt. none i (omega (arith, lt)))

  -- where a place stands among those in order: once
  pub record IsFound (n : ℕ) (ms : List ℕ) : Type 0 where
    pub before : List ℕ
    pub behind : List ℕ
    pub is : ms ≡ before ++ n ∷ behind
    pub none_before : Each (λ m. m ≢ n) before
    pub none_behind : Each (λ m. m ≢ n) behind

  put-found : (n : ℕ) (ms : List ℕ) → Each (λ m. m ≢ n) ms → IsFound n (put_place order n ms)
  put-found n [] h = record { before = []; behind = []; is = refl; none_before = tt; none_behind = tt }
  put-found n (m ∷ ms) h = go (is_before (label n) (label m)) (put-found n ms h.1)
    where
      go : (b : Bool) → IsFound n (put_place order n ms) → IsFound n (cond b (n ∷ m ∷ ms) (m ∷ put_place order n ms))
      go true deeper = record { before = []; behind = m ∷ ms; is = refl; none_before = tt; none_behind = h }
      go false deeper = record {
        before = m ∷ deeper.before;
        behind = deeper.behind;
        is = ap (λ l. m ∷ l) deeper.is;
        none_before = (h.0, deeper.none_before);
        none_behind = deeper.none_behind;
      }

  still-found : (n k : ℕ) → k ≢ n → (before behind : List ℕ) → Each (λ m. m ≢ n) before → Each (λ m. m ≢ n) behind → IsFound n (put_place order k (before ++ n ∷ behind))
  still-found n k other [] behind h l = go (is_before (label k) (label n))
    where
      go : (b : Bool) → IsFound n (cond b (k ∷ n ∷ behind) (n ∷ put_place order k behind))
      go true = record { before = k ∷ []; behind = behind; is = refl; none_before = (other, tt); none_behind = l }
      go false = record { before = []; behind = put_place order k behind; is = refl; none_before = tt; none_behind = put-each (λ m. m ≢ n) k behind other l }
  still-found n k other (m ∷ before) behind h l = go (is_before (label k) (label m)) (still-found n k other before behind h.1 l)
    where
      go : (b : Bool) → IsFound n (put_place order k (before ++ n ∷ behind)) → IsFound n (cond b (k ∷ m ∷ (before ++ n ∷ behind)) (m ∷ put_place order k (before ++ n ∷ behind)))
      go true deeper = record { before = k ∷ m ∷ before; behind = behind; is = refl; none_before = (other, h); none_behind = l }
      go false deeper = record {
        before = m ∷ deeper.before;
        behind = deeper.behind;
        is = ap (λ l. m ∷ l) deeper.is;
        none_before = (h.0, deeper.none_before);
        none_behind = deeper.none_behind;
      }

  pub found : (mine : Tag → Bool) (n b : ℕ) → n < b → mine (tag order n) ≡ true → IsFound n (places_with order mine b)
  found mine n zero lt is = absurd (omega arith)
  found mine n (suc b) lt is = go (mine (tag order b)) refl (last n b lt) (λ less. found mine n b less is)
    where
      last : (n b : ℕ) → n < suc b → (n ≡ b) ⊎ (n < b)
      last n b lt = grind arith

      put-into : (ms : List ℕ) → b ≢ n → IsFound n ms → IsFound n (put_place order b ms)
      put-into ms other f =
          subst (λ l. IsFound n (put_place order b l)) (sym f.is) (still-found n b other f.before f.behind f.none_before f.none_behind)

      go : (t : Bool) → mine (tag order b) ≡ t → (n ≡ b) ⊎ (n < b) → (n < b → IsFound n (places_with order mine b))
          → IsFound n (cond t (put_place order b (places_with order mine b)) (places_with order mine b))
      go true e (inl same) deeper =
          subst (λ k. IsFound n (put_place order k (places_with order mine b))) same
          (put-found n (places_with order mine b) (each-as (IsMember mine b) (λ m. m ≢ n) (places_with order mine b) (λ m h e. omega (arith, h.0, e, same)) (are-members mine b)))
      go true e (inr less) deeper = put-into (places_with order mine b) (λ e. omega (arith, e, less)) (deeper less)
      go false e (inl same) deeper = absurd (true≢false (sym is ∙ ap (λ k. mine (tag order k)) same ∙ e))
      go false e (inr less) deeper = deeper less

  -- what stands in order on both sides of a place
  pub order-front : (n : ℕ) (before behind : List ℕ) → InOrder (before ++ n ∷ behind) → Each (λ a. is_before (label n) (label a) ≡ false) before
  order-front n [] behind h = tt
  order-front n (m ∷ before) behind h = ((each-back (λ q. is_before (label q) (label m) ≡ false) before (n ∷ behind) h.0).0, order-front n before behind h.1)

  pub order-back : (n : ℕ) (before behind : List ℕ) → InOrder (before ++ n ∷ behind) → Each (λ q. is_before (label q) (label n) ≡ false) behind
  order-back n [] behind h = h.0
  order-back n (m ∷ before) behind h = order-back n before behind h.1

  -- where a place is put
  pub put-past : (c : ℕ) (a b : List ℕ) → Each (λ q. is_before (label c) (label q) ≡ false) a → put_place order c (a ++ b) ≡ a ++ put_place order c b
  put-past c [] b h = refl
  put-past c (m ∷ a) b h = ap (λ t. cond t (c ∷ m ∷ (a ++ b)) (m ∷ put_place order c (a ++ b))) h.0 ∙ ap (λ l. m ∷ l) (put-past c a b h.1)

  pub put-here : (c : ℕ) (b : List ℕ) → Each (λ q. is_before (label c) (label q) ≡ true) b → put_place order c b ≡ c ∷ b
  put-here c [] h = refl
  put-here c (m ∷ b) h = ap (λ t. cond t (c ∷ m ∷ b) (m ∷ put_place order c b)) h.0

-- ---- an order that grows at its end

put-grown : (A more : List Entry) (n : ℕ) (ms : List ℕ) → n < length A → Each (λ m. m < length A) ms → put_place (A ++ more) n ms ≡ put_place A n ms
put-grown A more n [] lt h = refl
put-grown A more n (m ∷ ms) lt h =
    ap (λ (t : Tag). cond (is_before t.label (tag (A ++ more) m).label) (n ∷ m ∷ ms) (m ∷ put_place (A ++ more) n ms)) (tag-grown A more n lt)
    ∙ ap (λ (t : Tag). cond (is_before (tag A n).label t.label) (n ∷ m ∷ ms) (m ∷ put_place (A ++ more) n ms)) (tag-grown A more m h.0)
    ∙ ap (λ l. cond (is_before (tag A n).label (tag A m).label) (n ∷ m ∷ ms) (m ∷ l)) (put-grown A more n ms lt h.1)

pub places-grown : (A more : List Entry) (mine : Tag → Bool) (n : ℕ) → n ≤ length A → places_with (A ++ more) mine n ≡ places_with A mine n
places-grown A more mine zero le = refl
places-grown A more mine (suc n) le =
    ap (λ (t : Tag). cond (mine t) (put_place (A ++ more) n (places_with (A ++ more) mine n)) (places_with (A ++ more) mine n)) (tag-grown A more n le)
    ∙ ap (λ l. cond (mine (tag A n)) (put_place (A ++ more) n l) l) (places-grown A more mine n (omega arith))
    ∙ ap (λ l. cond (mine (tag A n)) l (places_with A mine n))
    (put-grown A more n (places_with A mine n) le (each-as (IsMember A mine n) (λ m. m < length A) (places_with A mine n) (λ m h. omega (arith, h.0, le)) (are-members A mine n)))

-- ---- the replies of places

put-reply : (x : State) (n : ℕ) (ms : List ℕ) → put_in (reply_in x n) (map (reply_in x) ms) ≡ map (reply_in x) (put_place x.order n ms)
put-reply x n [] = refl
put-reply x n (m ∷ ms) = go (is_before (tag x.order n).label (tag x.order m).label) (put-reply x n ms)
  where
    go : (b : Bool) → put_in (reply_in x n) (map (reply_in x) ms) ≡ map (reply_in x) (put_place x.order n ms)
        → cond b (reply_in x n ∷ reply_in x m ∷ map (reply_in x) ms) (reply_in x m ∷ put_in (reply_in x n) (map (reply_in x) ms)) ≡ map (reply_in x) (cond b (n ∷ m ∷ ms) (m ∷ put_place x.order n ms))
    go true deeper = refl
    go false deeper = ap (λ l. reply_in x m ∷ l) deeper

reply-step : (x : State) (n : ℕ) (b : Bool) (replies : List Reply) (ms : List ℕ) → replies ≡ map (reply_in x) ms
    → cond b (put_in (reply_in x n) replies) replies ≡ map (reply_in x) (cond b (put_place x.order n ms) ms)
reply-step x n true replies ms e = ap (put_in (reply_in x n)) e ∙ put-reply x n ms
reply-step x n false replies ms e = e

pub replies-of : (x : State) (session ordinal n : ℕ) → replies_to x session ordinal n ≡ map (reply_in x) (places_with x.order (is_of session ordinal) n)
replies-of x session ordinal zero = refl
replies-of x session ordinal (suc n) =
    reply-step x n (is_of session ordinal (tag x.order n)) (replies_to x session ordinal n) (places_with x.order (is_of session ordinal) n) (replies-of x session ordinal n)

pub replies-over : (x : State) (session after n : ℕ) → replies_above x session after n ≡ map (reply_in x) (places_with x.order (is_above session after) n)
replies-over x session after zero = refl
replies-over x session after (suc n) =
    reply-step x n (is_above session after (tag x.order n)) (replies_above x session after n) (places_with x.order (is_above session after) n) (replies-over x session after n)
