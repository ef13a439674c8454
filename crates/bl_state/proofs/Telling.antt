-- Histories one after another are told as one.
use Rattle.std.proofs.Common.{◌≡◌, ℕ, zero, suc, ◌+◌, ◌-◌, ◌<◌, ◌≤◌, Bool, true, false, cond, ◌&&◌, List, [], ◌∷◌, ◌++◌, length, map, get_or, refl, sym, ◌∙◌, ap, subst, arith, length-append, true≢false}
use Rattle.std.specs.Prelude.{◌==◌, slice_index_or}
use Rattle.std.proofs.lemmas.Bool.Decides.{nat_tests}
use Rattle.std.proofs.Math.ListN.{get_or-append}
use Rattle.std.proofs.lemmas.List.{get_or-append_right}
use Rattle.bl_setup.specs.Setup.{Setup}
use Rattle.bl_order.specs.Labels.{Reply, Tag, is_of, put_in, tag, tag_at, tag_of, tags_to}
use Rattle.bl_order.specs.Order.{Entry, Line, Child, unnamed}
use Rattle.bl_order.specs.Past.{Past, no_entry, place}
use Rattle.bl_order.proofs.PlaceLaws.{place-unnamed}
use Rattle.bl_order.specs.Standing.{setup_after}
use Rattle.bl_state.specs.Orders.{GoesOnAlike, IsEmptyBeyond, both, later, lost_in}
use Rattle.bl_state.specs.Told.{AreToldAsOne, HasNone, StandBehindParents, StayApart, named_as, renamed, replies_in}
use Rattle.bl_state.proofs.Alike.{goes-on-alike}

-- ---- entries of two orders

get-mapped : (g : Entry → Entry) (order : List Entry) (n : ℕ) → n < length order → get_or (map g order) n no_entry ≡ g (get_or order n no_entry)
get-mapped g [] n lt = absurd (omega arith)
get-mapped g (e ∷ order) zero lt = refl
get-mapped g (e ∷ order) (suc n) lt = get-mapped g order n (omega arith)

pub length-mapped : (g : Entry → Entry) (order : List Entry) → length (map g order) ≡ length order
length-mapped g [] = refl
length-mapped g (e ∷ order) = ap suc (length-mapped g order)

unnamed-renamed : (f : ℕ → ℕ) (order : List Entry) → map unnamed (map (renamed f) order) ≡ map unnamed order
unnamed-renamed f [] = refl
unnamed-renamed f (Line session ordinal subject work ∷ order) = ap (λ es. Line 0 0 subject work ∷ es) (unnamed-renamed f order)
unnamed-renamed f (Child parent which ∷ order) = ap (λ es. Child parent which ∷ es) (unnamed-renamed f order)

pub place-renamed : (setup : Setup) (lost : ℕ → Bool) (order : List Entry) (f : ℕ → ℕ) (n : ℕ)
    → place setup lost (map (renamed f) order) n ≡ place setup lost order n
place-renamed setup lost order f n =
    sym (place-unnamed setup lost (map (renamed f) order) n)
    ∙ ap (λ es. place setup lost es n) (unnamed-renamed f order)
    ∙ place-unnamed setup lost order n

-- ---- whose a place is

are-same : (a b : ℕ) → a ≡ b → (a == b) ≡ true
are-same a b e = grind (arith, nat_tests)

told-same : (a b : ℕ) → (a == b) ≡ true → a ≡ b
told-same a b e = grind (arith, nat_tests)

same-test : (a b c d : ℕ) → (a ≡ b → c ≡ d) → (c ≡ d → a ≡ b) → (a == b) ≡ (c == d)
same-test a b c d to from = go (a == b) refl (c == d) refl
  where
    go : (x : Bool) → (a == b) ≡ x → (y : Bool) → (c == d) ≡ y → (a == b) ≡ (c == d)
    go true e true k = e ∙ sym k
    go false e false k = e ∙ sym k
    go true e false k = absurd (true≢false (sym (are-same c d (to (told-same a b e))) ∙ k))
    go false e true k = absurd (true≢false (sym (are-same a b (from (told-same c d k))) ∙ e))

tags-grown : (order more : List Entry) (n : ℕ) → n ≤ length order → tags_to (order ++ more) n ≡ tags_to order n
tags-grown order more zero le = refl
tags-grown order more (suc n) le =
    ap (λ e. tag_of (tags_to (order ++ more) n) e ∷ tags_to (order ++ more) n) (get_or-append order more no_entry n le)
    ∙ ap (λ h. tag_of h (get_or order n no_entry) ∷ h) (tags-grown order more n (omega arith))

tag-grown : (order more : List Entry) (n : ℕ) → n < length order → tag (order ++ more) n ≡ tag order n
tag-grown order more n lt =
    ap (λ e. tag_of (tags_to (order ++ more) n) e) (get_or-append order more no_entry n lt)
    ∙ ap (λ h. tag_of h (get_or order n no_entry)) (tags-grown order more n (omega arith))

length-tags : (order : List Entry) (n : ℕ) → length (tags_to order n) ≡ n
length-tags order zero = refl
length-tags order (suc n) = ap suc (length-tags order n)

length-named : (f : ℕ → ℕ) (h : List Tag) → length (map (named_as f) h) ≡ length h
length-named f [] = refl
length-named f (t ∷ h) = ap suc (length-named f h)

module _ (f : ℕ → ℕ) (older : List Tag) where
  tag_at-behind : (h : List Tag) (n : ℕ) → n < length h → tag_at (map (named_as f) h ++ older) (length older + n) ≡ named_as f (tag_at h n)
  tag_at-behind [] n lt = absurd (omega arith)
  tag_at-behind (t ∷ h) n lt = go (n == length h) refl (tag_at-behind h n)
    where
      there : length (map (named_as f) h ++ older) ≡ length older + length h
      there = grind (arith, length-append (map (named_as f) h) older, length-named f h)

      test : ((length older + n) == length (map (named_as f) h ++ older)) ≡ (n == length h)
      test = same-test (length older + n) (length (map (named_as f) h ++ older)) n (length h)
          (λ e. omega (arith, e, there)) (λ e. omega (arith, e, there))

      deeper : (n == length h) ≡ false → n < length h
      deeper e = grind (arith, nat_tests, e, lt)

      go : (b : Bool) → (n == length h) ≡ b
          → (n < length h → tag_at (map (named_as f) h ++ older) (length older + n) ≡ named_as f (tag_at h n))
          → cond ((length older + n) == length (map (named_as f) h ++ older)) (named_as f t) (tag_at (map (named_as f) h ++ older) (length older + n))
          ≡ named_as f (cond (n == length h) t (tag_at h n))
      go true e deep =
          ap (λ b. cond b (named_as f t) (tag_at (map (named_as f) h ++ older) (length older + n))) (test ∙ e)
          ∙ sym (ap (λ b. named_as f (cond b t (tag_at h n))) e)
      go false e deep =
          ap (λ b. cond b (named_as f t) (tag_at (map (named_as f) h ++ older) (length older + n))) (test ∙ e)
          ∙ deep (deeper e)
          ∙ sym (ap (λ b. named_as f (cond b t (tag_at h n))) e)

  tag_of-behind : (h : List Tag) (e : Entry) → ((parent which : ℕ) → e ≡ Child parent which → parent < length h)
      → tag_of (map (named_as f) h ++ older) (later (length older) (renamed f e)) ≡ named_as f (tag_of h e)
  tag_of-behind h (Line session ordinal subject work) parents = refl
  tag_of-behind h (Child parent which) parents =
      ap (λ (t : Tag). record { session = t.session; label = t.label ++ which ∷ [] }) (tag_at-behind h parent (parents parent which refl))

own-test : (f : ℕ → ℕ) → StayApart f → (session ordinal : ℕ) (t : Tag) → is_of (f session) ordinal (named_as f t) ≡ is_of session ordinal t
own-test f apart session ordinal t =
    ap (λ b. b && (slice_index_or t.label 0 0 == ordinal)) (same-test (f t.session) (f session) t.session session (apart t.session session) (ap f))

-- ---- the two histories

module _ (setup : Setup) (lost : ℕ → Bool) (order : List Entry) (lost2 : ℕ → Bool) (order2 : List Entry) (f : ℕ → ℕ)
    (empty : IsEmptyBeyond setup lost order) (behind-parents : StandBehindParents order2) (apart : StayApart f) where
  abbrev a : ℕ
  a = length order

  abbrev next : Setup
  next = setup_after setup lost order

  abbrev longer : ℕ → Bool
  longer = lost_in a lost lost2

  abbrev named : List Entry
  named = map (renamed f) order2

  abbrev whole : List Entry
  whole = both order named

  alike : GoesOnAlike setup lost order lost2 named
  alike = goes-on-alike setup lost order lost2 named empty

  length-whole : length whole ≡ a + length order2
  length-whole = length-append order (map (later a) named) ∙ ap (λ k. a + k) (length-mapped (later a) named ∙ length-mapped (renamed f) order2)

  get-behind : (n : ℕ) → n < length order2 → get_or whole (a + n) no_entry ≡ later a (renamed f (get_or order2 n no_entry))
  get-behind n lt =
      get_or-append_right order (map (later a) named) a (a + n) no_entry refl (omega arith)
      ∙ ap (λ k. get_or (map (later a) named) k no_entry) (back a n)
      ∙ get-mapped (later a) named n (omega (arith, lt, length-mapped (renamed f) order2))
      ∙ ap (later a) (get-mapped (renamed f) order2 n lt)
    where
      back : (k m : ℕ) → (k + m) - k ≡ m
      back k m = omega arith

  plus-zero : (k : ℕ) → k + 0 ≡ k
  plus-zero k = omega arith

  one-more : (n : ℕ) → a + suc n ≡ suc (a + n)
  one-more n = omega arith

  tag_of-there : (n : ℕ) → n < length order2
      → tag_of (map (named_as f) (tags_to order2 n) ++ tags_to order a) (later a (renamed f (get_or order2 n no_entry))) ≡ named_as f (tag order2 n)
  tag_of-there n lt =
      subst (λ k. tag_of (map (named_as f) (tags_to order2 n) ++ tags_to order a) (later k (renamed f (get_or order2 n no_entry)))
      ≡ named_as f (tag order2 n)) (length-tags order a)
      (tag_of-behind f (tags_to order a) (tags_to order2 n) (get_or order2 n no_entry)
      (λ parent which e. omega (arith, behind-parents n parent which lt e, length-tags order2 n)))

  tags-behind : (n : ℕ) → n ≤ length order2 → tags_to whole (a + n) ≡ map (named_as f) (tags_to order2 n) ++ tags_to order a
  tags-behind zero le = ap (tags_to whole) (plus-zero a) ∙ tags-grown order (map (later a) named) a (omega arith)
  tags-behind (suc n) le =
      ap (tags_to whole) (one-more n)
      ∙ (λ i. tag_of (tags-behind n (omega arith) i) (get-behind n (omega arith) i) ∷ tags-behind n (omega arith) i)
      ∙ ap (λ t. t ∷ (map (named_as f) (tags_to order2 n) ++ tags_to order a)) (tag_of-there n (omega arith))

  tag-behind : (n : ℕ) → n < length order2 → tag whole (a + n) ≡ named_as f (tag order2 n)
  tag-behind n lt = (λ i. tag_of (tags-behind n (omega (arith, lt)) i) (get-behind n lt i)) ∙ tag_of-there n lt

  place-before : (n : ℕ) → n < a → place setup longer whole n ≡ place setup lost order n
  place-before n lt = alike.before n lt

  place-behind : (n : ℕ) → n < length order2 → place setup longer whole (a + n) ≡ place next lost2 order2 n
  place-behind n lt =
      alike.places n (omega (arith, lt, length-mapped (renamed f) order2))
      ∙ place-renamed next lost2 order2 f n

  module _ (session ordinal : ℕ) where
    abbrev step : Bool → Tag → Past → List Reply → List Reply
    step b t p replies = cond b (put_in (record { label = t.label; answer = p.answer }) replies) replies

    -- the places of the first one
    before : (n : ℕ) → n ≤ a → replies_in setup longer whole session ordinal n ≡ replies_in setup lost order session ordinal n
    before zero le = refl
    before (suc n) le = λ i. step (is_of session ordinal (tag-grown order (map (later a) named) n (omega arith) i))
        (tag-grown order (map (later a) named) n (omega arith) i) (place-before n (omega arith) i) (before n (omega arith) i)

    none : (n : ℕ) → n ≤ a → HasNone (λ s. s) session ordinal order → replies_in setup lost order session ordinal n ≡ []
    none zero le free = refl
    none (suc n) le free =
        ap (λ b. step b (tag order n) (place setup lost order n) (replies_in setup lost order session ordinal n)) (free n (omega arith))
        ∙ none n (omega arith) free

    -- those of the second one, where none is of the line
    skipped : (n : ℕ) → n ≤ length order2 → HasNone f session ordinal order2
        → replies_in setup longer whole session ordinal (a + n) ≡ replies_in setup lost order session ordinal a
    skipped zero le free = ap (replies_in setup longer whole session ordinal) (plus-zero a) ∙ before a (omega arith)
    skipped (suc n) le free =
        ap (replies_in setup longer whole session ordinal) (one-more n)
        ∙ ap (λ b. step b (tag whole (a + n)) (place setup longer whole (a + n)) (replies_in setup longer whole session ordinal (a + n)))
        (ap (is_of session ordinal) (tag-behind n (omega arith)) ∙ free n (omega arith))
        ∙ skipped n (omega arith) free

  module _ (session ordinal : ℕ) (free : HasNone (λ s. s) (f session) ordinal order) where
    behind : (n : ℕ) → n ≤ length order2
        → replies_in setup longer whole (f session) ordinal (a + n) ≡ replies_in next lost2 order2 session ordinal n
    behind zero le =
        ap (replies_in setup longer whole (f session) ordinal) (plus-zero a)
        ∙ before (f session) ordinal a (omega arith) ∙ none (f session) ordinal a (omega arith) free
    behind (suc n) le =
        ap (replies_in setup longer whole (f session) ordinal) (one-more n)
        ∙ (λ i. step (f session) ordinal (is_of (f session) ordinal (tag-behind n (omega arith) i)) (tag-behind n (omega arith) i)
        (place-behind n (omega arith) i) (behind n (omega arith) i))
        ∙ ap (λ b. step (f session) ordinal b (tag order2 n) (place next lost2 order2 n) (replies_in next lost2 order2 session ordinal n))
        (own-test f apart session ordinal (tag order2 n))

  pub told-as-one : AreToldAsOne setup lost order lost2 order2 f
  told-as-one = record {
    before = λ session ordinal free.
        ap (replies_in setup longer whole session ordinal) length-whole ∙ skipped session ordinal (length order2) (omega arith) free;
    behind = λ session ordinal free.
        ap (replies_in setup longer whole (f session) ordinal) length-whole ∙ behind session ordinal free (length order2) (omega arith);
  }
