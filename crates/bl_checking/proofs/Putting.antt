-- What is put behind a text.
use Rattle.std.proofs.Common.{◌≡◌, ◌<◌, ◌≤◌, ℕ, ◌+◌, Bool, true, false, eqb, refl, sym, ◌∙◌, ap, List, [], ◌∷◌, ◌++◌, length, get_or, drop, replicate, append_assoc, codes, arith}
use Rattle.std.specs.Prelude.{◌==◌}
use Rattle.std.proofs.lemmas.Bool.Decides.{nat_tests}
use Rattle.std.proofs.lemmas.List.{append-nil, replicate_more}
use Rattle.bl_due.specs.declared.due.Due.{Due}
use Rattle.bl_checking.specs.Telling.{marks, put_due, put_dues, put_quoted, put_word, separator}
use Rattle.bl_checking.specs.Visible.{byte, bytes, is_inside_after, is_inside_behind, quote}

-- a byte once more
pub one_more : (old text : List ℕ) (n b : ℕ) → text ≡ old ++ replicate n b → text ++ b ∷ [] ≡ old ++ replicate (n + 1) b
one_more old text n b e = ap (λ l. l ++ b ∷ []) e ∙ append_assoc old (replicate n b) (b ∷ []) ∙ ap (λ l. old ++ l) (replicate_more n b)

pub none_yet : (old : List ℕ) (b : ℕ) → old ≡ old ++ replicate 0 b
none_yet old b = sym (append-nil old)

-- nothing is visible of a byte inside of a text
not_quote : (b : ℕ) → (b ≡ 34 → ⊥) → eqb b 34 ≡ false
not_quote b ne = grind (arith, nat_tests)

byte_inside : (inside : Bool) (b : ℕ) → (b ≡ 34 → ⊥) → inside ≡ true → byte inside b ≡ []
byte_inside inside b ne e = rw (not_quote b ne) (rw e refl)

pub nothing_put : (old : List ℕ) (inside : Bool) (b : ℕ) → (b ≡ 34 → ⊥) → inside ≡ true → old ≡ old ++ byte inside b
nothing_put old inside b ne e = sym (append-nil old) ∙ ap (λ l. old ++ l) (sym (byte_inside inside b ne e))

-- one byte is put, and then the rest
pub put_more : (inside next : Bool) (rest text new : List ℕ) → 1 ≤ length rest → new ≡ text ++ byte inside (get_or rest 0 0) → next ≡ is_inside_after inside (get_or rest 0 0)
    → new ++ bytes next (drop 1 rest) ≡ text ++ bytes inside rest
put_more inside next [] text new some e n = absurd (omega (arith, some))
put_more inside next (b ∷ more) text new some e n =
    ap (λ l. l ++ bytes next more) e ∙ append_assoc text (byte inside b) (bytes next more) ∙ ap (λ i. text ++ (byte inside b ++ bytes i more)) n

pub put_all : (inside : Bool) (rest text whole : List ℕ) → length rest < 1 → text ++ bytes inside rest ≡ whole → text ≡ whole
put_all inside [] text whole none e = sym (append-nil text) ∙ e
put_all inside (b ∷ rest) text whole none e = absurd (omega (arith, none))

-- whether the rest is inside of a text
pub behind_more : (inside next : Bool) (rest : List ℕ) → 1 ≤ length rest → next ≡ is_inside_after inside (get_or rest 0 0)
    → is_inside_behind next (drop 1 rest) ≡ is_inside_behind inside rest
behind_more inside next [] some n = absurd (omega (arith, some))
behind_more inside next (b ∷ more) some n = ap (λ i. is_inside_behind i more) n

pub behind_all : (inside whole : Bool) (rest : List ℕ) → length rest < 1 → is_inside_behind inside rest ≡ whole → inside ≡ whole
behind_all inside whole [] none e = e
behind_all inside whole (b ∷ rest) none e = absurd (omega (arith, none))

-- ---- words

is_zero : (n : ℕ) → eqb n 0 ≡ true → n ≡ 0
is_zero n e = grind (arith, nat_tests)

pub word_none : (text word : List ℕ) (b : Bool) → b ≡ (length word == 0) → b ≡ true → text ++ codes "end of line" ≡ put_word text word
word_none text [] b e t = refl
word_none text (x ∷ word) b e t = absurd (omega (arith, is_zero (length (x ∷ word)) (sym e ∙ t)))

pub word_some : (text word : List ℕ) (b : Bool) → b ≡ (length word == 0) → b ≡ false → put_quoted text word ≡ put_word text word
word_some text [] b e t = let f : true ≡ false = sym e ∙ t in absurd (cc)
word_some text (x ∷ word) b e t = refl

pub marks_none : (text word : List ℕ) (b : Bool) → b ≡ (length word == 0) → b ≡ true → text ++ codes "^" ≡ text ++ marks word
marks_none text [] b e t = refl
marks_none text (x ∷ word) b e t = absurd (omega (arith, is_zero (length (x ∷ word)) (sym e ∙ t)))

pub marks_some : (text word : List ℕ) (b : Bool) → b ≡ (length word == 0) → b ≡ false → text ++ replicate (length word) 94 ≡ text ++ marks word
marks_some text [] b e t = let f : true ≡ false = sym e ∙ t in absurd (cc)
marks_some text (x ∷ word) b e t = refl

-- ---- what was due

pub dues_more : (rest : List Due) (d : Due) (text due new words : List ℕ) (others : ℕ) → 1 ≤ length rest → due ≡ put_due text (get_or rest 0 d) → others ≡ length (drop 1 rest)
    → words ≡ separator others → new ≡ due ++ words → put_dues new (drop 1 rest) ≡ put_dues text rest
dues_more [] d text due new words others some e n s f = absurd (omega (arith, some))
dues_more (x ∷ more) d text due new words others some e n s f =
    ap (λ t. put_dues t more) (f ∙ ap (λ t. t ++ words) e ∙ ap (λ w. put_due text x ++ w) (s ∙ ap separator n))

pub dues_all : (rest : List Due) (text whole : List ℕ) → length rest < 1 → put_dues text rest ≡ whole → text ≡ whole
dues_all [] text whole none e = e
dues_all (x ∷ rest) text whole none e = absurd (omega (arith, none))
