-- What is counted token by token is the length of the line, up to as many bytes as a text has.
use Rattle.std.proofs.Common.{◌≡◌, ℕ, ◌+◌, min, Bool, true, false, cond, List, [], ◌∷◌, ◌++◌, length, refl, sym, ap, ◌∙◌, arith, length-append}
use Rattle.std.specs.Prelude.{◌&&◌}
use Rattle.std.specs.List.{fold}
use Rattle.bl_level.specs.Token.{Tok}
use Rattle.bl_level.specs.Canonical.{spelled, is_word, canonical}
use Rattle.bl_write.specs.Writing.{Written, nothing_written, with_token}
use Rattle.bl_write.proofs.Writing.{written_is_canonical}
use Rattle.bl_state.specs.Counts.{Counted, nothing_counted, bytes_behind, counted}
use Rattle.bl_state.specs.Texts.{most_text_bytes}

gap-long : (b : Bool) (space : List ℕ) → length space ≡ 1 → length (cond b space []) ≡ cond b 1 0
gap-long true space one = one
gap-long false space one = refl

-- what is counted is the length of what is written
counts : (ts : List Tok) (c : Counted) (w : Written) → c.bytes ≡ min (length w.bytes) most_text_bytes → c.word ≡ w.word
    → (fold counted c ts).bytes ≡ min (length (fold with_token w ts).bytes) most_text_bytes
counts [] c w long word = long
counts (t ∷ ts) c w long word = counts ts (counted c t) (with_token w t) (one-more (bytes_behind c.word t) behind) refl
  where
    behind : length (cond (w.word && is_word t) (32 ∷ []) [] ++ spelled t) ≡ bytes_behind c.word t
    behind =
        length-append (cond (w.word && is_word t) (32 ∷ []) []) (spelled t)
        ∙ ap (λ n. n + length (spelled t)) (gap-long (w.word && is_word t) (32 ∷ []) refl ∙ ap (λ x. cond (x && is_word t) 1 0) (sym word))

    one-more : (n : ℕ) → length (cond (w.word && is_word t) (32 ∷ []) [] ++ spelled t) ≡ n
        → min (c.bytes + n) most_text_bytes ≡ min (length (w.bytes ++ (cond (w.word && is_word t) (32 ∷ []) [] ++ spelled t))) most_text_bytes
    one-more n e = omega (arith, e, long, length-append w.bytes (cond (w.word && is_word t) (32 ∷ []) [] ++ spelled t))

pub counted-is : (ts : List Tok) → (fold counted nothing_counted ts).bytes ≡ min (length (canonical ts)) most_text_bytes
counted-is ts = counts ts nothing_counted nothing_written refl refl ∙ ap (λ l. min (length l) most_text_bytes) (written_is_canonical ts)
