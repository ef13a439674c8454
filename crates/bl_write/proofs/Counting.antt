-- What is counted token by token is the length of the canonical text, up to one more than a line has.
use Rattle.std.proofs.Common.{◌≡◌, ℕ, ◌+◌, ◌≤◌, min, Bool, true, false, cond, List, [], ◌∷◌, ◌++◌, length, refl, sym, ap, ◌∙◌, arith, length-append}
use Rattle.std.specs.Prelude.{◌↔◌, ◌&&◌, IsTrue}
use Rattle.std.specs.List.{fold}
use Rattle.bl_level.specs.Token.{Tok}
use Rattle.bl_level.specs.Canonical.{spelled, is_word, canonical}
use Rattle.bl_write.specs.Counting.{Counted, nothing_counted, bytes_behind, counted}
use Rattle.bl_work.specs.LineGrammar.{most_line_bytes}
use Rattle.bl_write.specs.Writing.{Written, nothing_written, with_token}
use Rattle.bl_write.proofs.Writing.{written_is_canonical}

gap_long : (b : Bool) (space : List ℕ) → length space ≡ 1 → length (cond b space []) ≡ cond b 1 0
gap_long true space one = one
gap_long false space one = refl

-- what is counted is the length of what is written, up to the most that is counted
counts : (ts : List Tok) (c : Counted) (w : Written) → c.bytes ≡ min (length w.bytes) (most_line_bytes + 1) → c.word ≡ w.word
    → (fold counted c ts).bytes ≡ min (length (fold with_token w ts).bytes) (most_line_bytes + 1)
counts [] c w long word = long
counts (t ∷ ts) c w long word = counts ts (counted c t) (with_token w t) (one_more (bytes_behind c.word t) behind) refl
  where
    behind : length (cond (w.word && is_word t) (32 ∷ []) [] ++ spelled t) ≡ bytes_behind c.word t
    behind =
        length-append (cond (w.word && is_word t) (32 ∷ []) []) (spelled t)
        ∙ ap (λ n. n + length (spelled t)) (gap_long (w.word && is_word t) (32 ∷ []) refl ∙ ap (λ x. cond (x && is_word t) 1 0) (sym word))

    one_more : (n : ℕ) → length (cond (w.word && is_word t) (32 ∷ []) [] ++ spelled t) ≡ n
        → min (c.bytes + n) (most_line_bytes + 1) ≡ min (length (w.bytes ++ (cond (w.word && is_word t) (32 ∷ []) [] ++ spelled t))) (most_line_bytes + 1)
    one_more n e = omega (arith, e, long, length-append w.bytes (cond (w.word && is_word t) (32 ∷ []) [] ++ spelled t))

pub counted_is : (ts : List Tok) → (fold counted nothing_counted ts).bytes ≡ min (length (canonical ts)) (most_line_bytes + 1)
counted_is ts = counts ts nothing_counted nothing_written refl refl ∙ ap (λ l. min (length l) (most_line_bytes + 1)) (written_is_canonical ts)

-- whether the canonical text is no longer than a line, by what is counted
pub short_where : (ts : List Tok) (start end : Counted) (short : Bool) → start ≡ nothing_counted → end ≡ fold counted start ts → IsTrue short ↔ (end.bytes ≤ most_line_bytes)
    → IsTrue short ↔ (length (canonical ts) ≤ most_line_bytes)
short_where ts start end short first last decides =
    let same : end.bytes ≡ min (length (canonical ts)) (most_line_bytes + 1) =
    ap (λ (c : Counted). c.bytes) (last ∙ ap (λ c. fold counted c ts) first) ∙ counted_is ts in
    (λ h. let within : end.bytes ≤ most_line_bytes = decides.0 h in omega (arith, within, same), λ h. decides.1 (omega (arith, h, same)))
