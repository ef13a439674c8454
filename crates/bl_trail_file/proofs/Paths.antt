-- Where a path's last component begins, and what room it leaves once it is cut.
use Rattle.std.proofs.Common.{◌≡◌, ◌≢◌, ◌≤◌, ◌<◌, ◌+◌, ◌-◌, ◌++◌, ◌∷◌, ◌∙◌, [], ℕ, zero, suc, List, T, codes, decimal, length, get_or, take, drop, not, ◌&&◌, eqb, refl, sym, ap, subst, inl, inr, ⊎_elim, arith, ne_eqb, length-append, length-take-le}
use Rattle.std.specs.Path.{HasNoSlash, has_no_slash, slash}
use Rattle.std.specs.Char.{len_utf8}
use Rattle.std.specs.Str.{IsCharBoundary, IsUtf8, NoCharPasses, encode_utf8_all}
use Rattle.std.specs.Str.Pattern.{HasCharAt}
use Rattle.std.proofs.Math.Seq.{take-add, take-length}
use Rattle.std.proofs.lemmas.Fmt.{length-decimal-le}
use Rattle.std.proofs.lemmas.Bool.{cases_lt}
use Rattle.std.proofs.lemmas.List.{get_or-drop, length-drop, take-append-drop, take_more}
use Rattle.std.proofs.lemmas.Str.{IsCharBoundary-end, IsCharBoundary-past_char, IsUtf8-drop, len_utf8_ascii, len_utf8_bounds}
use Rattle.std.proofs.lemmas.Str.Pattern.{NoCharPasses-char}
use Rattle.bl_trail_file.specs.Parts.{HasRoom, IsPath, part_suffix}

lacks : (bs : List ℕ) → ((i : ℕ) → i < length bs → get_or bs i 0 ≢ slash) → HasNoSlash bs
lacks [] h = tt
lacks (b ∷ bs) h = subst (λ t. T (not t && has_no_slash bs)) (sym (ne_eqb b slash (h 0 (omega arith)))) (lacks bs (λ i l. h (suc i) (omega arith)))

no_slash : (bs : List ℕ) → NoCharPasses (λ d. eqb d slash) bs → HasNoSlash bs
no_slash bs none' = lacks bs (λ i l. NoCharPasses-char slash bs i none' (omega arith) l)

-- a path with no slash is its last component
pub without_slash : (path : List ℕ) → NoCharPasses (λ d. eqb d slash) path → IsPath path [] path
without_slash path none' = record { is = refl; until_slash = inl refl; no_slash = no_slash path none' }

-- the last component is what stands after the last slash
pub after_slash : (path : List ℕ) (at end : ℕ) → HasCharAt slash path at end → NoCharPasses (λ d. eqb d slash) (drop end path) → IsPath path (take (at + 1) path) (drop (at + 1) path)
after_slash path at end found none' =
    let one = len_utf8_ascii slash (omega arith) in
    let ends : end ≡ at + 1 = found.ends ∙ ap (λ n. at + n) one in
    let within : at < length path = omega (arith, one, found.after.0) in
    record {
      is = sym (take-append-drop (at + 1) path);
      until_slash = inr (take at path, take_more path at 0 within ∙ ap (λ b. take at path ++ b ∷ []) (found.byte (omega arith)));
      no_slash = subst (λ n. HasNoSlash (drop n path)) ends (no_slash (drop end path) none');
    }

-- a character of a text begins at most 4 bytes after one that begins before the text's end
next_char : (bs : List ℕ) (m : ℕ) → IsUtf8 bs → IsCharBoundary bs m → m < length bs → (w : ℕ) × (1 ≤ w) × (w ≤ 4) × IsCharBoundary bs (m + w)
next_char bs m text begins less = from_chars (IsUtf8-drop bs m text begins)
  where
    from_chars : IsUtf8 (drop m bs) → (w : ℕ) × (1 ≤ w) × (w ≤ 4) × IsCharBoundary bs (m + w)
    from_chars ([], (ok, is)) = absurd (omega (arith, less, length-drop m bs, ap length is))
    from_chars (c ∷ cs, (ok, is)) =
        (len_utf8 c, (len_utf8_bounds c).0, (len_utf8_bounds c).1, IsCharBoundary-past_char bs (encode_utf8_all cs) m c (omega (arith, less)) (c ∷ cs, (ok, is)) (sym is))

-- Where a text is cut at the last character that begins at i or before it, i is 3 bytes later at most.
near : (bs : List ℕ) (m i : ℕ) → IsUtf8 bs → IsCharBoundary bs m → m < length bs → ((k : ℕ) → m < k → k ≤ i → IsCharBoundary bs k → ⊥) → i ≤ m + 3
near bs m i text begins less nearest =
    let next = next_char bs m text begins less in
    ⊎_elim (λ past. omega (arith, past, next.2)) (λ within. absurd (nearest (m + next.0) (omega (arith, next.1)) within next.3)) (cases_lt i (m + next.0))

-- where all of the last component has room nothing is cut
pub uncut : (name : List ℕ) (start room : ℕ) → IsPath name (take start name) (drop start name) → (length name - start) + room ≤ 255 → HasRoom name room name
uncut name start room path fits =
    let last = drop start name in
    let size : length last ≡ length name - start = length-drop start name in
    record {
      folder = take start name;
      last = last;
      of = path;
      front = last;
      kept = record {
        is = sym (take-length last);
        boundary = IsCharBoundary-end last;
        fits = omega (arith, size, fits);
        all = λ _. refl;
        least = λ over. absurd (omega (arith, size, fits, over));
      };
      is = path.is;
    }

-- else the name is cut at the last character that leaves room
pub cut_short : (name : List ℕ) (start room m : ℕ) → IsUtf8 name → IsPath name (take start name) (drop start name) → IsCharBoundary name start
    → room ≤ 255 → 255 < (length name - start) + room → IsCharBoundary name m → m ≤ start + (255 - room)
    → ((k : ℕ) → m < k → k ≤ start + (255 - room) → IsCharBoundary name k → ⊥) → HasRoom name room (take m name)
cut_short name start room m text path begins small over at below nearest =
    let last = drop start name in
    let much = m - start in
    let size : length last ≡ length name - start = length-drop start name in
    let from : start ≤ m = ⊎_elim (λ less. absurd (nearest start less (omega arith) begins)) (λ le. le) (cases_lt m start) in
    let split : start + much ≡ m = omega (arith, from) in
    let long : length (take much last) ≡ much = length-take-le much last (omega (arith, size, from, below, over, small)) in
    let close : start + (255 - room) ≤ m + 3 = near name m (start + (255 - room)) text at (omega (arith, size, below, over, small)) nearest in
    record {
      folder = take start name;
      last = last;
      of = path;
      front = take much last;
      kept = record {
        is = ap (λ n. take n last) (sym long);
        boundary = subst (λ n. IsCharBoundary last n) (sym long) (
          omega (arith, size, split, at.0),
          λ less. subst (λ b. 128 ≤ b → 192 ≤ b) (sym (get_or-drop start name much 0 ∙ ap (λ n. get_or name n 0) split)) (at.1 (omega (arith, size, split, less))),
        );
        fits = omega (arith, long, below, small, from);
        all = λ fits. absurd (omega (arith, size, fits, over));
        least = λ _. omega (arith, long, close, split);
      };
      is = ap (λ n. take n name) (sym split) ∙ take-add start much name;
    }

-- a suffix has 8 bytes at most
pub suffix_size : (number : ℕ) → number ≤ 99 → length (part_suffix number) ≤ 8
suffix_size zero small = omega arith
suffix_size (suc zero) small = omega arith
suffix_size (suc (suc n)) small =
    omega (arith, length-append (codes ".part.") (decimal (suc (suc n))), length-decimal-le 2 (suc (suc n)) (omega arith) (omega (arith, small)) (omega (arith, small)))
