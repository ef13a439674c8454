-- What a text has after tokens is what it has after their canonical text.
use Rattle.std.proofs.Common.{◌≡◌, ◌≢◌, ℕ, ◌+◌, Bool, true, false, cond, List, [], ◌∷◌, ◌++◌, length, take, drop, refl, sym, ◌∙◌, ap, append-nil}
use Rattle.std.specs.Prelude.{◌↔◌, IsTrue, MatchOption, Option, Some, None, nat_eq, option_and_then, option_copied, ◌&&◌}
use Rattle.std.specs.Borrow.{Bor}
use Rattle.std.specs.Cmp.Lexicographic.{pointwise}
use Rattle.std.specs.List.{fold}
use Rattle.std.proofs.lemmas.Bool.Decides.{Decides-eqb}
use Rattle.std.proofs.lemmas.Slice.Eq.{strip_prefix_is}
use Rattle.bl_level.specs.Token.{Tok}
use Rattle.bl_level.specs.Canonical.{spelled, is_word, canonical}
use Rattle.bl_write.specs.Matching.{Matched, behind, left_of, matched, nothing_matched}
use Rattle.bl_write.specs.Writing.{Written, nothing_written, with_token}
use Rattle.bl_write.proofs.Writing.{written_is_canonical}

eq-self : (b : ℕ) → nat_eq b b ≡ true
eq-self b = (Decides-eqb b b).1 refl

behind-all : (a rest : List ℕ) → behind a (a ++ rest) ≡ Some rest
behind-all [] rest = refl
behind-all (b ∷ a) rest = ap (λ x. cond x (behind a (a ++ rest)) None) (eq-self b) ∙ behind-all a rest

same-byte : (b c : ℕ) → nat_eq b c ≡ true → b ≡ c
same-byte b c h = (Decides-eqb b c).0 h

behind-is : (a text rest : List ℕ) → behind a text ≡ Some rest → text ≡ a ++ rest
behind-is [] text rest h = cc
behind-is (b ∷ a) [] rest h = absurd (cc)
behind-is (b ∷ a) (c ∷ text) rest h = go (nat_eq b c) refl h (behind-is a text rest)
  where
    go : (same : Bool) → nat_eq b c ≡ same → cond same (behind a text) None ≡ Some rest → (behind a text ≡ Some rest → text ≡ a ++ rest)
        → c ∷ text ≡ b ∷ (a ++ rest)
    go true is h next = ap (λ x. x ∷ text) (sym (same-byte b c is)) ∙ ap (λ l. b ∷ l) (next h)
    go false is h next = absurd (cc)

behind-append : (a b text : List ℕ) → behind (a ++ b) text ≡ option_and_then (behind b) (behind a text)
behind-append [] b text = refl
behind-append (x ∷ a) b [] = refl
behind-append (x ∷ a) b (c ∷ text) = go (nat_eq x c) (behind-append a b text)
  where
    go : (same : Bool) → behind (a ++ b) text ≡ option_and_then (behind b) (behind a text)
        → cond same (behind (a ++ b) text) None ≡ option_and_then (behind b) (cond same (behind a text) None)
    go true next = next
    go false next = refl

-- two pieces as one
pub left-append : (a b : List ℕ) (t : Option (List ℕ)) → left_of (a ++ b) t ≡ left_of b (left_of a t)
left-append a b None = refl
left-append a b (Some t) = behind-append a b t

-- a text between quotation marks
pub left-quoted : (words : List ℕ) (x y z u : Option (List ℕ)) → y ≡ left_of (34 ∷ []) x → z ≡ left_of words y → u ≡ left_of (34 ∷ []) z
    → u ≡ left_of (34 ∷ (words ++ 34 ∷ [])) x
left-quoted words x y z u first second third =
    third ∙ ap (left_of (34 ∷ [])) (second ∙ ap (left_of words) first) ∙ sym (left-append words (34 ∷ []) (left_of (34 ∷ []) x))
    ∙ sym (left-append (34 ∷ []) (words ++ 34 ∷ []) x)

-- what is cut off a text that begins so
pub stripped : (s p : List ℕ) (r : Option (Bor (List ℕ)))
    → MatchOption r (pointwise nat_eq (take (length p) s) p ≡ false) (λ x. (pointwise nat_eq (take (length p) s) p ≡ true) × (x.now ≡ drop (length p) s) × (length x.now + length p ≡ length s))
    → option_copied r ≡ behind p s
stripped s p r m = go r (strip_prefix_is Decides-eqb s p r m)
  where
    none : (o : Option (List ℕ)) → behind p s ≡ o → ((rest : List ℕ) → s ≢ p ++ rest) → None ≡ o
    none None is h = refl
    none (Some rest) is h = absurd (h rest (behind-is p s rest is))

    go : (r : Option (Bor (List ℕ))) → MatchOption r ((rest : List ℕ) → s ≢ p ++ rest) (λ x. s ≡ p ++ x.now) → option_copied r ≡ behind p s
    go None h = none (behind p s) refl h
    go (Some x) h = sym (ap (behind p) h ∙ behind-all p x.now)

-- the bytes of a token behind what is a word or none
abbrev piece : Tok → Bool → List ℕ
piece t word = cond (word && is_word t) (32 ∷ []) [] ++ spelled t

-- what is left after tokens is what is left after what is written of them
matches : (text : List ℕ) (ts : List Tok) (m : Matched) (w : Written) → m.rest ≡ behind w.bytes text → m.word ≡ w.word
    → (fold matched m ts).rest ≡ behind (fold with_token w ts).bytes text
matches text [] m w rest word = rest
matches text (t ∷ ts) m w rest word = matches text ts (matched m t) (with_token w t) one_more refl
  where
    one_more : left_of (piece t m.word) m.rest ≡ behind (w.bytes ++ piece t w.word) text
    one_more = ap (λ b. left_of (piece t b) m.rest) word ∙ ap (left_of (piece t w.word)) rest ∙ sym (behind-append w.bytes (piece t w.word) text)

-- whether the tokens are the whole text, by what is left
pub whole_where : (ts : List Tok) (text : List ℕ) (start end : Matched) (over : Bool) → start ≡ nothing_matched text → end ≡ fold matched start ts
    → IsTrue over ↔ (end.rest ≡ Some []) → IsTrue over ↔ (text ≡ canonical ts)
whole_where ts text start end over first last decides =
    let same : end.rest ≡ behind (canonical ts) text =
    ap (λ (m : Matched). m.rest) (last ∙ ap (λ m. fold matched m ts) first) ∙ matches text ts (nothing_matched text) nothing_written refl refl
    ∙ ap (λ l. behind l text) (written_is_canonical ts) in (
      λ h. behind-is (canonical ts) text [] (sym same ∙ decides.0 h) ∙ append-nil (canonical ts),
      λ is. decides.1 (same ∙ ap (behind (canonical ts)) (is ∙ sym (append-nil (canonical ts))) ∙ behind-all (canonical ts) []),
    )
