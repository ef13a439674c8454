-- How a file is cut behind some of its lines.
use Rattle.std.proofs.Common.{◌≡◌, ◌≢◌, ◌<◌, ◌≤◌, ◌+◌, ◌-◌, ◌⊎◌, inl, inr, ℕ, zero, suc, Bool, true, false, not, if◌then◌else◌, eqb, List, [], ◌∷◌, ◌++◌, length, get_or, take, drop, map, refl, sym, ap, subst, ◌∙◌, arith, append_assoc, length-append}
use Rattle.std.proofs.Math.Seq.{take-append_seam}
use Rattle.std.proofs.lemmas.Bool.Decides.{nat_tests}
use Rattle.std.specs.Prelude.{◌==◌}
use Rattle.std.proofs.lemmas.List.{append-nil, map-append, length-map}
use Rattle.bl_setup.specs.Lines.{onto, lines_of, file_lines, lines_read, kept, is_skipped, without_cr}
use Rattle.bl_spot.specs.Parts.{AreClosed, BeginsWithLine, IsFirstLine}

not_lf : (b : ℕ) → b ≢ 10 → eqb b 10 ≡ false
not_lf b ne = grind (arith, nat_tests)

is_lf : (b : ℕ) → b ≡ 10 → eqb b 10 ≡ true
is_lf b e = grind (arith, nat_tests)

pub closed_none : AreClosed []
closed_none more = refl

pub closed_both : (a b : List ℕ) → AreClosed a → AreClosed b → AreClosed (a ++ b)
closed_both a b one other more =
    ap lines_of (append_assoc a b more) ∙ one (b ++ more) ∙ ap (λ ls. lines_of a ++ ls) (other more)
    ∙ sym (append_assoc (lines_of a) (lines_of b) (lines_of more)) ∙ ap (λ ls. ls ++ lines_of more) (sym (one b))

lf_closed : (b : ℕ) → b ≡ 10 → AreClosed (b ∷ [])
lf_closed b lf more = rw (is_lf b lf) refl

lf_one : (b : ℕ) → b ≡ 10 → lines_of (b ∷ []) ≡ [] ∷ []
lf_one b lf = rw (is_lf b lf) refl

onto_front : (b : ℕ) (ls more : List (List ℕ)) (line : List ℕ) → ls ≡ line ∷ [] → onto b (ls ++ more) ≡ onto b ls ++ more
onto_front b ls more line e = rw e refl

-- the first LF stands at i: the bytes up to it are one line, whatever comes
pub first_one : (bytes : List ℕ) (i : ℕ) → i < length bytes → get_or bytes i 0 ≡ 10 → ((k : ℕ) → k < i → get_or bytes k 0 ≢ 10) → lines_of (take (suc i) bytes) ≡ take i bytes ∷ []
first_one [] i within lf none = absurd (omega (arith, within))
first_one (b ∷ bytes) zero within lf none = lf_one b lf
first_one (b ∷ bytes) (suc i) within lf none =
    let rest = first_one bytes i (omega (arith, within)) lf (λ k h. none (suc k) (omega (arith, h))) in
    let ne : b ≢ 10 = none 0 (omega arith) in
    rw (not_lf b ne) (ap (onto b) rest)

pub first_closed : (bytes : List ℕ) (i : ℕ) → i < length bytes → get_or bytes i 0 ≡ 10 → ((k : ℕ) → k < i → get_or bytes k 0 ≢ 10) → AreClosed (take (suc i) bytes)
first_closed [] i within lf none more = absurd (omega (arith, within))
first_closed (b ∷ bytes) zero within lf none more = lf_closed b lf more
first_closed (b ∷ bytes) (suc i) within lf none more =
    let later : (k : ℕ) → k < i → get_or bytes k 0 ≢ 10 = λ k h. none (suc k) (omega (arith, h)) in
    let rest = first_closed bytes i (omega (arith, within)) lf later more in
    let ne : b ≢ 10 = none 0 (omega arith) in
    rw (not_lf b ne) (ap (onto b) rest ∙ onto_front b (lines_of (take (suc i) bytes)) (lines_of more) (take i bytes) (first_one bytes i (omega (arith, within)) lf later))

-- some lines of the file stand in front of the rest, up to a number, and so many of them are read
pub record Passed (bytes rest : List ℕ) (next read number : ℕ) : Type 0 where
  pub front : List ℕ
  pub whole : bytes ≡ front ++ rest
  pub ends : AreClosed front ⊎ (rest ≡ [])
  pub next_is : next ≡ suc (length (file_lines front))
  pub read_is : read ≡ length (lines_read front)
  pub fewer : read < next
  pub upto : next ≤ number

pub passed_none : (bytes : List ℕ) (number : ℕ) → 0 < number → Passed bytes bytes 1 0 number
passed_none bytes number some = record { front = []; whole = refl; ends = inl closed_none; next_is = refl; read_is = refl; fewer = omega arith; upto = omega (arith, some) }

-- one line more that is read, or not
abbrev pub one_read : Bool → ℕ → ℕ
one_read skipped read = if skipped then read else read + 1

kept_push : (lines : List (List ℕ)) (line : List ℕ) → length (kept (lines ++ line ∷ [])) ≡ one_read (is_skipped line) (length (kept lines))
kept_push [] line = go (is_skipped line)
  where
    go : (b : Bool) → length (if not b then line ∷ [] else []) ≡ one_read b 0
    go true = refl
    go false = refl
kept_push (first ∷ lines) line = go (is_skipped first) (kept_push lines line)
  where
    more : (b : Bool) (n m : ℕ) → n ≡ one_read b m → suc n ≡ one_read b (suc m)
    more true n m e = ap suc e
    more false n m e = omega (arith, e)

    go : (b : Bool) → length (kept (lines ++ line ∷ [])) ≡ one_read (is_skipped line) (length (kept lines))
        → length (if not b then first ∷ kept (lines ++ line ∷ []) else kept (lines ++ line ∷ [])) ≡ one_read (is_skipped line) (length (if not b then first ∷ kept lines else kept lines))
    go true e = e
    go false e = more (is_skipped line) _ _ e

one_below : (b : Bool) (read next : ℕ) → read < next → one_read b read < next + 1
one_below true read next h = omega (arith, h)
one_below false read next h = omega (arith, h)

module _ (bytes rest line behind : List ℕ) (next read number : ℕ) (p : Passed bytes rest next read number) (some : 0 < length rest) (first : IsFirstLine rest line behind) where
  front_closed : AreClosed p.front
  front_closed = go p.ends
    where
      go : AreClosed p.front ⊎ (rest ≡ []) → AreClosed p.front
      go (inl c) = c
      go (inr e) = absurd (omega (arith, some, ap length e))

  front_lines : file_lines (p.front ++ first.taken) ≡ file_lines p.front ++ without_cr line ∷ []
  front_lines =
      ap (map without_cr) (front_closed first.taken ∙ ap (λ ls. lines_of p.front ++ ls) first.one)
      ∙ map-append without_cr (lines_of p.front) (line ∷ [])

  ends_more : AreClosed first.taken ⊎ (behind ≡ []) → AreClosed (p.front ++ first.taken) ⊎ (behind ≡ [])
  ends_more (inl c) = inl (closed_both p.front first.taken front_closed c)
  ends_more (inr e) = inr e

  pub passed_more : next < number → Passed bytes behind (next + 1) (one_read (is_skipped (without_cr line)) read) number
  passed_more below = record {
    front = p.front ++ first.taken;
    whole = p.whole ∙ ap (λ x. p.front ++ x) first.split ∙ sym (append_assoc p.front first.taken behind);
    ends = ends_more first.ends;
    next_is = omega (arith, p.next_is, ap length front_lines, length-append (file_lines p.front) (without_cr line ∷ []));
    read_is =
        ap (one_read (is_skipped (without_cr line))) p.read_is ∙ sym (kept_push (file_lines p.front) (without_cr line)) ∙ ap (λ ls. length (kept ls)) (sym front_lines);
    fewer = one_below (is_skipped (without_cr line)) read next p.fewer;
    upto = omega (arith, below);
  }

pub front_is : (bytes front rest : List ℕ) → bytes ≡ front ++ rest → take (length bytes - length rest) bytes ≡ front
front_is bytes front rest e =
    let n : length bytes - length rest ≡ length front = omega (arith, ap length e, length-append front rest) in
    ap (λ k. take k bytes) n ∙ ap (take (length front)) e ∙ take-append_seam front rest

pub lines_both : (front rest : List ℕ) → AreClosed front ⊎ (rest ≡ []) → file_lines (front ++ rest) ≡ file_lines front ++ file_lines rest
lines_both front rest (inl c) = ap (map without_cr) (c rest) ∙ map-append without_cr (lines_of front) (lines_of rest)
lines_both front rest (inr e) =
    ap (λ x. file_lines (front ++ x)) e ∙ ap file_lines (append-nil front) ∙ sym (append-nil (file_lines front)) ∙ ap (λ x. file_lines front ++ file_lines x) (sym e)

-- the line is the first of the file's
pub begins_first : (bytes line rest : List ℕ) → IsFirstLine bytes line rest → (lines : List (List ℕ)) × (lines_of bytes ≡ line ∷ lines)
begins_first bytes line rest first = go first.ends
  where
    go : AreClosed first.taken ⊎ (rest ≡ []) → (lines : List (List ℕ)) × (lines_of bytes ≡ line ∷ lines)
    go (inl c) = (lines_of rest, ap lines_of first.split ∙ c rest ∙ ap (λ ls. ls ++ lines_of rest) first.one)
    go (inr e) = ([], ap lines_of (first.split ∙ ap (λ x. first.taken ++ x) e ∙ append-nil first.taken) ∙ first.one)

pub read_one : (s b : Bool) (read now : ℕ) → s ≡ b → b ≡ false → now ≡ read + 1 → one_read s read ≡ now
read_one true b read now e n is = let f : true ≡ false = e ∙ n in absurd (cc)
read_one false b read now e n is = sym is

pub read_same : (s b : Bool) (read now : ℕ) → s ≡ b → b ≡ true → now ≡ read → one_read s read ≡ now
read_same true b read now e n is = sym is
read_same false b read now e n is = let f : false ≡ true = e ∙ n in absurd (cc)

pub some_left : (n : ℕ) (b : Bool) → b ≡ (n == 0) → b ≡ false → 0 < n
some_left zero b e t = let f : true ≡ false = sym e ∙ t in absurd (cc)
some_left (suc n) b e t = omega arith

is_zero : (n : ℕ) → eqb n 0 ≡ true → n ≡ 0
is_zero n e = grind (arith, nat_tests)

pub empty_is : (xs : List ℕ) (b : Bool) → b ≡ (length xs == 0) → b ≡ true → xs ≡ []
empty_is [] b e t = refl
empty_is (x ∷ xs) b e t = absurd (omega (arith, is_zero (length (x ∷ xs)) (sym e ∙ t)))

pub not_empty : (xs : List ℕ) (b : Bool) → b ≡ (length xs == 0) → b ≡ false → xs ≡ [] → ⊥
not_empty xs b e t is = let f : true ≡ false = sym (e ∙ ap (λ l. length l == 0) is) ∙ t in cc

-- ---- lengths

cr_short : (line : List ℕ) → length (without_cr line) ≤ length line
cr_short [] = omega arith
cr_short (b ∷ []) = go (b == 13)
  where
    go : (t : Bool) → length (if t then [] else b ∷ []) ≤ 1
    go true = omega arith
    go false = omega arith
cr_short (b ∷ c ∷ line) = omega (arith, cr_short (c ∷ line))

first_short : (bytes raw : List ℕ) (lines : List (List ℕ)) → lines_of bytes ≡ raw ∷ lines → length raw ≤ length bytes
first_short [] raw lines e = absurd (cc)
first_short (b ∷ bytes) raw lines e = go (b == 10) (first_short bytes) e
  where
    behind : (ls : List (List ℕ)) → ((raw : List ℕ) (lines : List (List ℕ)) → ls ≡ raw ∷ lines → length raw ≤ length bytes) → onto b ls ≡ raw ∷ lines → length raw ≤ suc (length bytes)
    behind [] short o = let r : b ∷ [] ≡ raw = cc in omega (arith, ap length r)
    behind (l ∷ ls) short o = let r : b ∷ l ≡ raw = cc in omega (arith, ap length r, short l ls refl)

    go : (t : Bool) → ((raw : List ℕ) (lines : List (List ℕ)) → lines_of bytes ≡ raw ∷ lines → length raw ≤ length bytes)
        → (if t then [] ∷ lines_of bytes else onto b (lines_of bytes)) ≡ raw ∷ lines → length raw ≤ suc (length bytes)
    go true short o = let r : [] ≡ raw = cc in omega (arith, ap length r)
    go false short o = behind (lines_of bytes) short o

-- a line is no longer than the bytes that begin with it
pub line_short : (bytes line : List ℕ) → BeginsWithLine bytes line → length line ≤ length bytes
line_short bytes line (lines, begins) = go (lines_of bytes) refl begins
  where
    go : (ls : List (List ℕ)) → lines_of bytes ≡ ls → map without_cr ls ≡ line ∷ lines → length line ≤ length bytes
    go [] is e = absurd (cc)
    go (raw ∷ ls) is e = let r : without_cr raw ≡ line = cc in omega (arith, ap length r, cr_short raw, first_short bytes raw ls is)
