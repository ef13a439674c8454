-- Where the places that are kept stand among themselves.
use Rattle.std.proofs.Common.{◌≡◌, ℕ, zero, suc, ◌<◌, ◌≤◌, Bool, true, false, cond, [], ◌∷◌, ◌++◌, length, refl, sym, ◌∙◌, ap, inl, inr, arith, ◌⊎◌, get_or}
use Rattle.std.specs.Prelude.{Some, slice_get}
use Rattle.std.proofs.Math.ListN.{get_or-append}
use Rattle.std.proofs.lemmas.Option.{get_or_from_slice_get, slice_get-get_or}
use Rattle.bl_level.specs.Level.{SecurityLevel}
use Rattle.bl_order.specs.Order.{Entry}
use Rattle.bl_order.specs.Past.{no_entry}
use Rattle.bl_flow.specs.Low.{History}
use Rattle.bl_flow.specs.Purge.{is_kept, kept_before, of_kept, renumbered, kept_entries}
use Rattle.bl_flow.proofs.Lists.{get_or-end, length-end, got-within, less_or_equal, compared}

module _ (level : SecurityLevel) (h : History) where
  abbrev kept : ℕ → Bool
  kept = is_kept level h

  abbrev rank : ℕ → ℕ
  rank = kept_before level h

  -- an entry under its new number
  abbrev entry : ℕ → Entry
  entry n = renumbered level h (get_or h.order n no_entry)

  -- the count goes up by one at a place that is kept, and not at another
  pub rank-kept : (n : ℕ) → kept n ≡ true → rank (suc n) ≡ suc (rank n)
  rank-kept n k = ap (λ b. cond b (suc (rank n)) (rank n)) k

  pub rank-purged : (n : ℕ) → kept n ≡ false → rank (suc n) ≡ rank n
  rank-purged n k = ap (λ b. cond b (suc (rank n)) (rank n)) k

  -- a place more does not lower the count
  rank-grows : (n : ℕ) → rank n ≤ rank (suc n)
  rank-grows n = go (kept n) refl
    where
      go : (b : Bool) → kept n ≡ b → rank n ≤ rank (suc n)
      go true k = omega (arith, rank-kept n k)
      go false k = omega (arith, rank-purged n k)

  -- a place that is kept stands before what comes later
  pub rank-below : (m n : ℕ) → m < n → kept m ≡ true → rank m < rank n
  rank-below m zero lt k = absurd (omega arith)
  rank-below m (suc n) lt k = go (less_or_equal m n lt) (λ below. rank-below m n below k)
    where
      go : (m < n) ⊎ (m ≡ n) → (m < n → rank m < rank n) → rank m < rank (suc n)
      go (inl below) deeper = omega (arith, deeper below, rank-grows n)
      go (inr same) deeper = omega (arith, ap rank same, rank-kept n (ap kept (sym same) ∙ k))

  -- as many are kept as are counted
  pub length-of_kept : {X : Type 0} (f : ℕ → X) (n : ℕ) → length (of_kept level h f n) ≡ rank n
  length-of_kept f zero = refl
  length-of_kept f (suc n) = go (kept n) refl (length-of_kept f n)
    where
      go : (b : Bool) → kept n ≡ b → length (of_kept level h f n) ≡ rank n
          → length (cond b (of_kept level h f n ++ f n ∷ []) (of_kept level h f n)) ≡ cond b (suc (rank n)) (rank n)
      go true k deeper = length-end (of_kept level h f n) (f n) ∙ ap suc deeper
      go false k deeper = deeper

  -- what is kept of a place stands where the place stands among those that are kept
  pub of_kept-at : {X : Type 0} (f : ℕ → X) (d : X) (n m : ℕ) → n < m → kept n ≡ true → get_or (of_kept level h f m) (rank n) d ≡ f n
  of_kept-at f d n zero lt k = absurd (omega arith)
  of_kept-at f d n (suc m) lt k = go (less_or_equal n m lt) (kept m) refl (λ below. of_kept-at f d n m below k)
    where
      go : (n < m) ⊎ (n ≡ m) → (b : Bool) → kept m ≡ b → (n < m → get_or (of_kept level h f m) (rank n) d ≡ f n)
          → get_or (cond b (of_kept level h f m ++ f m ∷ []) (of_kept level h f m)) (rank n) d ≡ f n
      go (inl below) true here deeper =
          get_or-append (of_kept level h f m) (f m ∷ []) d (rank n) (omega (arith, length-of_kept f m, rank-below n m below k))
          ∙ deeper below
      go (inl below) false here deeper = deeper below
      go (inr same) true here deeper =
          ap (λ i. get_or (of_kept level h f m ++ f m ∷ []) i d) (ap rank same ∙ sym (length-of_kept f m))
          ∙ get_or-end (of_kept level h f m) (f m) d
          ∙ ap f (sym same)
      go (inr same) false here deeper = absurd (cc)

  -- places that are kept are in the order in which they stood
  pub rank-order : (m n : ℕ) → kept m ≡ true → kept n ≡ true → rank m < rank n → m < n
  rank-order m n k i lt = go (compared m n)
    where
      go : (m < n) ⊎ ((m ≡ n) ⊎ (n < m)) → m < n
      go (inl below) = below
      go (inr (inl same)) = absurd (omega (arith, lt, ap rank same))
      go (inr (inr above)) = absurd (omega (arith, lt, rank-below n m above i))

  -- and no two stand at one place
  pub rank-one : (m n : ℕ) → kept m ≡ true → kept n ≡ true → rank m ≡ rank n → m ≡ n
  rank-one m n k i same = go (compared m n)
    where
      go : (m < n) ⊎ ((m ≡ n) ⊎ (n < m)) → m ≡ n
      go (inl below) = absurd (omega (arith, same, rank-below m n below k))
      go (inr (inl e)) = e
      go (inr (inr above)) = absurd (omega (arith, same, rank-below n m above i))

  -- each number below the count is that of a place that is kept
  pub counted : (n i : ℕ) → i < rank n → (m : ℕ) × (m < n) × (kept m ≡ true) × (rank m ≡ i)
  counted zero i lt = absurd (omega arith)
  counted (suc n) i lt = go (kept n) refl (counted n i)
    where
      go : (b : Bool) → kept n ≡ b → (i < rank n → (m : ℕ) × (m < n) × (kept m ≡ true) × (rank m ≡ i)) → (m : ℕ) × (m < suc n) × (kept m ≡ true) × (rank m ≡ i)
      go true k deeper = ends (less_or_equal i (rank n) (omega (arith, lt, rank-kept n k)))
        where
          ends : (i < rank n) ⊎ (i ≡ rank n) → (m : ℕ) × (m < suc n) × (kept m ≡ true) × (rank m ≡ i)
          ends (inl below) = let d : (m : ℕ) × (m < n) × (kept m ≡ true) × (rank m ≡ i) = deeper below in (d.0, omega (arith, d.1), d.2, d.3)
          ends (inr same) = (n, omega arith, k, sym same)
      go false k deeper = let d : (m : ℕ) × (m < n) × (kept m ≡ true) × (rank m ≡ i) = deeper (omega (arith, lt, rank-purged n k)) in (d.0, omega (arith, d.1), d.2, d.3)

  -- an entry that is kept is found, under its new number
  pub entry-kept : (n : ℕ) (e : Entry) → slice_get h.order n ≡ Some e → kept n ≡ true → slice_get (kept_entries level h) (rank n) ≡ Some (renumbered level h e)
  entry-kept n e is k =
      slice_get-get_or (kept_entries level h) (rank n) no_entry (omega (arith, rank-below n (length h.order) within k, length-of_kept entry (length h.order)))
      ∙ ap Some (of_kept-at entry no_entry n (length h.order) within k ∙ ap (renumbered level h) (get_or_from_slice_get h.order n e no_entry is))
    where
      within : n < length h.order
      within = got-within h.order n e is
