-- No text that reads as some tokens is shorter than their canonical text.
use Rattle.std.proofs.Common.{◌≡◌, ℕ, ◌+◌, ◌≤◌, Bool, true, false, cond, List, [], ◌∷◌, ◌++◌, length, drop, refl, sym, ap, ◌∙◌, arith, length-drop, length-append}
use Rattle.std.proofs.lemmas.Bool.{false≢true}
use Rattle.bl_name.specs.declared.lexer.Class.TheVariants as class
use Rattle.bl_name.specs.Token.{Tok}
use Rattle.bl_name.specs.Lexing.{is_in, run_len, past, Begins}
use Rattle.bl_name.specs.Canonical.{spelled, is_word, gap, canonical}
use Rattle.bl_name.proofs.Runs.{StopsAt, LetterAt, past_le}
use Rattle.bl_name.proofs.Fronts.{front_splits}

-- a word that follows a word has a blank before it
blank_between : (more : List ℕ) → StopsAt class.Word more → LetterAt (past class.Blank more) → 1 + length (past class.Blank more) ≤ length more
blank_between [] stops letter = absurd letter
blank_between (x ∷ xs) stops letter = go (is_in class.Blank x) refl letter
  where
    go : (y : Bool) → is_in class.Blank x ≡ y → LetterAt (drop (cond y (1 + run_len class.Blank xs) 0) (x ∷ xs)) → 1 + length (drop (cond (is_in class.Blank x) (1 + run_len class.Blank xs) 0) (x ∷ xs)) ≤ length (x ∷ xs)
    go true e l = rw e (omega (arith, length-drop (1 + run_len class.Blank xs) (x ∷ xs)))
    go false e l = let w : is_in class.Word x ≡ true = rw l refl in absurd (false≢true (sym stops ∙ w))

-- behind the blanks at the front the bytes are no fewer than the canonical text has
shortest_past : (ts : List Tok) (bytes rest : List ℕ) → Begins bytes ts rest → length (canonical ts) ≤ length (past class.Blank bytes)
shortest_past [] bytes rest b = omega arith
shortest_past (t ∷ []) bytes rest (more, f, b) =
    let s = front_splits (past class.Blank bytes) t more f in
    omega (arith, ap length s.whole, length-append (spelled t) more, length-append (spelled t) ([] ++ []))
shortest_past (t ∷ u ∷ us) bytes rest (more, f, b) =
    let s = front_splits (past class.Blank bytes) t more f in
    let s' = front_splits (past class.Blank more) u b.0 b.1 in
    let h = shortest_past (u ∷ us) more rest b in
    let g = go (is_word t) (is_word u) refl refl s.stops s'.letter in
    omega (arith, g, h, ap length s.whole, length-append (spelled t) more, length-append (spelled t) (gap t (u ∷ us) ++ canonical (u ∷ us)), length-append (gap t (u ∷ us)) (canonical (u ∷ us)))
  where
    go : (x y : Bool) → is_word t ≡ x → is_word u ≡ y → (is_word t ≡ true → StopsAt class.Word more) → (is_word u ≡ true → LetterAt (past class.Blank more))
        → length (gap t (u ∷ us)) + length (past class.Blank more) ≤ length more
    go true true i j stops letter = rw (i, j) (blank_between more (stops i) (letter j))
    go true false i j stops letter = rw (i, j) (omega (arith, past_le class.Blank more))
    go false y i j stops letter = rw i (omega (arith, past_le class.Blank more))

pub shortest : (ts : List Tok) (bytes rest : List ℕ) → Begins bytes ts rest → length (canonical ts) ≤ length bytes
shortest ts bytes rest b = omega (arith, shortest_past ts bytes rest b, past_le class.Blank bytes)
