-- How many `when` stand in a body, and how many accesses each has.
use Rattle.std.proofs.Common.{◌≡◌, ℕ, ◌+◌, ◌-◌, ◌<◌, ◌≤◌, List, [], ◌∷◌, ◌++◌, length, get_or, map, take, drop, Option, Some, None, MatchOption, ap, sym, subst, ◌∙◌, arith}
use Rattle.std.specs.Prelude.{All}
use Rattle.std.proofs.lemmas.List.{take-append-drop, length-map}
use Rattle.std.proofs.lemmas.List.Elements.{All-cons, All-nil, All-tail, All-append}
use Rattle.bl_work.specs.Spelled.{SpelledAccess, SpelledBody, empty, spawn, if_else}
use Rattle.bl_syntax.specs.RawBodies.{raw_access, raw_body}
use Rattle.bl_work.specs.Meaning.{whens}
use Rattle.bl_work.specs.WhenFaults.{depth_in, lists_in, AreFew}
use Rattle.bl_work.specs.FirstWhenFault.{HasFewAccesses, AreFewIn}
use Rattle.bl_work.specs.declared.script.Condition.{Condition}
use Rattle.bl_syntax.specs.declared.raw.RawAccess.{RawAccess}
use Rattle.bl_syntax.specs.declared.raw.RawStatement.{RawStatement}
use Rattle.bl_check.proofs.Joined.{joined, raw_body-append, whens-joined, lists_in-joined, depth_in-joined}
use Rattle.bl_check.proofs.Passes.{one_more}
use Rattle.bl_work.proofs.WhenFaults.{all_left, all_right}

-- how many may stand behind a body where so many may from its begin on
abbrev pub Leaves : ℕ → SpelledBody → Option ℕ → Type 0
Leaves most body r = MatchOption r (AreFewIn most body → ⊥) (λ left. AreFewIn most body × (whens body + left ≡ most))

few_joined : (a b : SpelledBody) (most left : ℕ) → AreFewIn most a → whens a + left ≡ most → AreFewIn left b → AreFewIn most (joined a b)
few_joined a b most left p is q = record {
  count = omega (arith, whens-joined a b, q.count, is);
  accesses = subst (All HasFewAccesses) (sym (lists_in-joined a b)) (All-append HasFewAccesses (lists_in a) (lists_in b) p.accesses q.accesses);
}

few_front : (a b : SpelledBody) (most : ℕ) → AreFewIn most (joined a b) → AreFewIn most a
few_front a b most p = record {
  count = omega (arith, whens-joined a b, p.count);
  accesses = all_left HasFewAccesses (lists_in a) (lists_in b) (subst (All HasFewAccesses) (lists_in-joined a b) p.accesses);
}

few_behind : (a b : SpelledBody) (most left : ℕ) → whens a + left ≡ most → AreFewIn most (joined a b) → AreFewIn left b
few_behind a b most left is p = record {
  count = omega (arith, whens-joined a b, p.count, is);
  accesses = all_right HasFewAccesses (lists_in a) (lists_in b) (subst (All HasFewAccesses) (lists_in-joined a b) p.accesses);
}

next_body : (xs : List RawStatement) (i : ℕ) (x : RawStatement) → i < length xs → x ≡ get_or xs i x → raw_body (take (i + 1) xs) ≡ joined (raw_body (take i xs)) (raw_body (x ∷ []))
next_body xs i x lt at = ap raw_body (one_more xs i x lt at) ∙ raw_body-append (take i xs) (x ∷ [])

-- one statement more
pub few_goes_on : (xs : List RawStatement) (i : ℕ) (x : RawStatement) (most left next : ℕ) → i < length xs → x ≡ get_or xs i x
    → AreFewIn most (raw_body (take i xs)) → whens (raw_body (take i xs)) + left ≡ most → AreFewIn left (raw_body (x ∷ [])) → whens (raw_body (x ∷ [])) + next ≡ left
    → AreFewIn most (raw_body (take (i + 1) xs)) × (whens (raw_body (take (i + 1) xs)) + next ≡ most)
few_goes_on xs i x most left next lt at p is q then_is =
    let before = raw_body (take i xs) in
    let here = raw_body (x ∷ []) in
    let same = next_body xs i x lt at in (
      subst (AreFewIn most) (sym same) (few_joined before here most left p is q),
      ap (λ b. whens b + next) same ∙ omega (arith, whens-joined before here, is, then_is),
    )

-- one statement that has too many
pub few_stops : (xs : List RawStatement) (body : SpelledBody) → raw_body xs ≡ body → (i : ℕ) (x : RawStatement) (most left : ℕ) → i < length xs → x ≡ get_or xs i x
    → whens (raw_body (take i xs)) + left ≡ most → (AreFewIn left (raw_body (x ∷ [])) → ⊥) → AreFewIn most body → ⊥
few_stops xs body whole i x most left lt at is many few =
    let before = raw_body (take i xs) in
    let here = raw_body (x ∷ []) in
    let after = raw_body (drop (i + 1) xs) in
    let same : body ≡ joined (joined before here) after =
    sym whole ∙ ap raw_body (sym (take-append-drop (i + 1) xs)) ∙ raw_body-append (take (i + 1) xs) (drop (i + 1) xs)
    ∙ ap (λ b. joined b after) (next_body xs i x lt at) in
    many (few_behind before here most left is (few_front (joined before here) after most (subst (AreFewIn most) same few)))

-- one statement more is no deeper than this
pub depth_goes_on : (xs : List RawStatement) (i : ℕ) (x : RawStatement) (most : ℕ) → i < length xs → x ≡ get_or xs i x → depth_in (raw_body (take i xs)) ≤ most
    → depth_in (raw_body (x ∷ [])) ≤ most → depth_in (raw_body (take (i + 1) xs)) ≤ most
depth_goes_on xs i x most lt at so_far one =
    omega (arith, so_far, one, ap depth_in (next_body xs i x lt at), depth_in-joined (raw_body (take i xs)) (raw_body (x ∷ [])))

-- ---- in one statement

pub few_else : (document : List ℕ) (asks : Condition) (words : List ℕ) (a b : SpelledBody) (most left : ℕ) (r : Option ℕ) → AreFewIn most a → whens a + left ≡ most → Leaves left b r
    → Leaves most (if_else document asks words a b empty) r
few_else document asks words a b most left (Some next) p is (q, then_is) = (
  record {
    count = omega (arith, q.count, is);
    accesses = All-append HasFewAccesses (lists_in a) (lists_in b ++ []) p.accesses (All-append HasFewAccesses (lists_in b) [] q.accesses (All-nil HasFewAccesses));
  },
  omega (arith, is, then_is),
)
few_else document asks words a b most left None p is many = λ few. many record {
  count = omega (arith, few.count, is);
  accesses = all_left HasFewAccesses (lists_in b) [] (all_right HasFewAccesses (lists_in a) (lists_in b ++ []) few.accesses);
}

pub few_spawn : (first : SpelledAccess) (more : List RawAccess) (body : SpelledBody) (most : ℕ) (r : Option ℕ) → 0 < most → length more < 8 → Leaves (most - 1) body r
    → Leaves most (spawn first (map raw_access more) body empty) r
few_spawn first more body most (Some left) some short (q, is) =
    let long = length-map more raw_access in (
      record {
        count = omega (arith, q.count, some);
        accesses = All-cons HasFewAccesses (first ∷ map raw_access more) (lists_in body ++ []) (omega (arith, long, short))
            (All-append HasFewAccesses (lists_in body) [] q.accesses (All-nil HasFewAccesses));
      },
      omega (arith, is, some),
    )
few_spawn first more body most None some short many = λ few. many record {
  count = omega (arith, few.count, some);
  accesses = all_left HasFewAccesses (lists_in body) [] (All-tail HasFewAccesses (first ∷ map raw_access more) (lists_in body ++ []) few.accesses);
}

-- ---- in a whole `when`

-- the number of `when` in the body, where there are few
abbrev pub Counts : SpelledAccess → List SpelledAccess → SpelledBody → Option ℕ → Type 0
Counts first more body r = MatchOption r (AreFew first more body → ⊥) (λ count. AreFew first more body × (count ≡ whens body))

pub few_in_when : (first : SpelledAccess) (more : List SpelledAccess) (body : SpelledBody) → AreFew first more body → AreFewIn 31 body
few_in_when first more body p = record {
  count = omega (arith, p.whens);
  accesses = All-tail HasFewAccesses (first ∷ more) (lists_in body) p.accesses;
}
