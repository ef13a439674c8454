-- A body without an `else` before an empty body, which is no longer than with it.
use Rattle.std.proofs.Common.{ℕ, ◌≤◌, List, [], ◌∷◌, ◌++◌, length, sym, subst, append_assoc, arith, length-append}
use Rattle.bl_name.specs.declared.token.Keyword.TheVariants.{When, Do, End, Then, Else, Spawn}
use Rattle.bl_name.specs.declared.token.Keyword.TheVariants as word
use Rattle.bl_name.specs.declared.token.Sign.TheVariants.{Comma, Semicolon}
use Rattle.bl_level.specs.Token.{Tok, reserved, name, text, sign}
use Rattle.bl_level.specs.Canonical.{spelled, gap, canonical}
use Rattle.bl_work.specs.declared.script.Condition.{Condition}
use Rattle.bl_work.specs.Names.{KnownNames}
use Rattle.bl_work.specs.Spelled.{SpelledAccess, SpelledBody, empty, show, say, add, set, copy, pour, if_then, if_else, spawn, asks_word, mode_word, spell_access, spell_more, spell_body, spell_when}
use Rattle.bl_write.specs.Unread.{unread_if}
use Rattle.bl_work.proofs.Theory.{more_append}

-- ---- lists of tokens, by the length of their text

-- these tokens take no more bytes than those, and no more behind any token
pub record IsNoLonger (these those : List Tok) : Type 0 where
  pub alone : length (canonical these) ≤ length (canonical those)
  pub behind : (t : Tok) → length (gap t these ++ canonical these) ≤ length (gap t those ++ canonical those)

no_longer_same : (ts : List Tok) → IsNoLonger ts ts
no_longer_same ts = record { alone = omega arith; behind = λ t. omega arith }

no_longer_trans : (xs ys zs : List Tok) → IsNoLonger xs ys → IsNoLonger ys zs → IsNoLonger xs zs
no_longer_trans xs ys zs p q = record {
  alone = omega (arith, p.alone, q.alone);
  behind = λ t. let a = p.behind t in let b = q.behind t in omega arith;
}

-- one more token before both
no_longer_cons : (t : Tok) (xs ys : List Tok) → IsNoLonger xs ys → IsNoLonger (t ∷ xs) (t ∷ ys)
no_longer_cons t xs ys p =
    let here : length (canonical (t ∷ xs)) ≤ length (canonical (t ∷ ys)) =
    omega (arith, p.behind t, length-append (spelled t) (gap t xs ++ canonical xs), length-append (spelled t) (gap t ys ++ canonical ys)) in
    record {
      alone = here;
      behind = λ u. omega (arith, here, length-append (gap u (t ∷ xs)) (canonical (t ∷ xs)), length-append (gap u (t ∷ xs)) (canonical (t ∷ ys)));
    }

-- an `else` less before the end of an `if`
no_longer_else : (ts : List Tok) → IsNoLonger (reserved End ∷ ts) (reserved Else ∷ reserved End ∷ ts)
no_longer_else ts =
    let here : length (canonical (reserved End ∷ ts)) ≤ length (canonical (reserved Else ∷ reserved End ∷ ts)) =
    omega (
      arith,
      length-append (spelled (reserved Else)) (gap (reserved Else) (reserved End ∷ ts) ++ canonical (reserved End ∷ ts)),
      length-append (gap (reserved Else) (reserved End ∷ ts)) (canonical (reserved End ∷ ts)),
    ) in
    record {
      alone = here;
      behind = λ u. omega (
        arith,
        here,
        length-append (gap u (reserved End ∷ ts)) (canonical (reserved End ∷ ts)),
        length-append (gap u (reserved End ∷ ts)) (canonical (reserved Else ∷ reserved End ∷ ts)),
      );
    }

-- the same accesses before both
no_longer_access : (a : SpelledAccess) (xs ys : List Tok) → IsNoLonger xs ys → IsNoLonger (spell_access a xs) (spell_access a ys)
no_longer_access a xs ys p =
    no_longer_cons (reserved (mode_word a.mode)) (name a.document ∷ xs) (name a.document ∷ ys) (no_longer_cons (name a.document) xs ys p)

no_longer_more : (more : List SpelledAccess) (xs ys : List Tok) → IsNoLonger xs ys → IsNoLonger (spell_more more xs) (spell_more more ys)
no_longer_more [] xs ys p = p
no_longer_more (a ∷ more) xs ys p =
    no_longer_cons (sign Comma) (spell_access a (spell_more more xs)) (spell_access a (spell_more more ys))
    (no_longer_access a (spell_more more xs) (spell_more more ys) (no_longer_more more xs ys p))

-- ---- bodies

module _ (names : KnownNames) where
  -- the body without an `else` before an empty body
  abbrev pub tidy : SpelledBody → SpelledBody
  tidy empty = empty
  tidy (show d rest) = show d (tidy rest)
  tidy (say w rest) = say w (tidy rest)
  tidy (add d w rest) = add d w (tidy rest)
  tidy (set d w rest) = set d w (tidy rest)
  tidy (copy d e rest) = copy d e (tidy rest)
  tidy (pour d e rest) = pour d e (tidy rest)
  tidy (if_then d a w t rest) = if_then d a w (tidy t) (tidy rest)
  tidy (if_else d a w t e rest) = unread_if names d a w (tidy t) (tidy e) (tidy rest)
  tidy (spawn f m b rest) = spawn f m (tidy b) (tidy rest)

  -- the tokens of one body take no more bytes than those of the other, whatever stands behind them
  abbrev IsShorter : SpelledBody → SpelledBody → Type 0
  IsShorter b c = (xs ys : List Tok) → IsNoLonger xs ys → IsNoLonger (spell_body b ++ xs) (spell_body c ++ ys)

  -- what an `if` has before its first body
  shorter_test : (d : List ℕ) (a : Condition) (w : List ℕ) (xs ys : List Tok) → IsNoLonger xs ys
      → IsNoLonger (reserved word.If ∷ name d ∷ reserved (asks_word a) ∷ text w ∷ reserved Then ∷ xs) (reserved word.If ∷ name d ∷ reserved (asks_word a) ∷ text w ∷ reserved Then ∷ ys)
  shorter_test d a w xs ys p =
      no_longer_cons (reserved word.If) _ _ (no_longer_cons (name d) _ _ (no_longer_cons (reserved (asks_word a)) _ _ (no_longer_cons (text w) _ _ (no_longer_cons (reserved Then) xs ys p))))

  -- what stands behind the bodies of an `if`
  shorter_end : (r r' : SpelledBody) (xs ys : List Tok) → IsNoLonger (spell_body r ++ xs) (spell_body r' ++ ys)
      → IsNoLonger (reserved End ∷ sign Semicolon ∷ (spell_body r ++ xs)) (reserved End ∷ sign Semicolon ∷ (spell_body r' ++ ys))
  shorter_end r r' xs ys p = no_longer_cons (reserved End) _ _ (no_longer_cons (sign Semicolon) (spell_body r ++ xs) (spell_body r' ++ ys) p)

  shorter_then : (d : List ℕ) (a : Condition) (w : List ℕ) (t t' r r' : SpelledBody) → IsShorter t t' → IsShorter r r' → IsShorter (if_then d a w t r) (if_then d a w t' r')
  shorter_then d a w t t' r r' p q xs ys h =
      let e = reserved End ∷ sign Semicolon ∷ spell_body r in
      let e' = reserved End ∷ sign Semicolon ∷ spell_body r' in
      let inner : IsNoLonger (spell_body t ++ (e ++ xs)) (spell_body t' ++ (e' ++ ys)) =
      p (e ++ xs) (e' ++ ys) (shorter_end r r' xs ys (q xs ys h)) in
      shorter_test d a w ((spell_body t ++ e) ++ xs) ((spell_body t' ++ e') ++ ys)
      (subst (λ l. IsNoLonger l ((spell_body t' ++ e') ++ ys)) (sym (append_assoc (spell_body t) e xs))
      (subst (λ l. IsNoLonger (spell_body t ++ (e ++ xs)) l) (sym (append_assoc (spell_body t') e' ys)) inner))

  shorter_else : (d : List ℕ) (a : Condition) (w : List ℕ) (t t' e e' r r' : SpelledBody) → IsShorter t t' → IsShorter e e' → IsShorter r r'
      → IsShorter (if_else d a w t e r) (if_else d a w t' e' r')
  shorter_else d a w t t' e e' r r' p o q xs ys h =
      let x = reserved End ∷ sign Semicolon ∷ spell_body r in
      let x' = reserved End ∷ sign Semicolon ∷ spell_body r' in
      let y = reserved Else ∷ (spell_body e ++ x) in
      let y' = reserved Else ∷ (spell_body e' ++ x') in
      let last : IsNoLonger (spell_body e ++ (x ++ xs)) (spell_body e' ++ (x' ++ ys)) =
      o (x ++ xs) (x' ++ ys) (shorter_end r r' xs ys (q xs ys h)) in
      let behind : IsNoLonger (reserved Else ∷ ((spell_body e ++ x) ++ xs)) (reserved Else ∷ ((spell_body e' ++ x') ++ ys)) =
      no_longer_cons (reserved Else) ((spell_body e ++ x) ++ xs) ((spell_body e' ++ x') ++ ys)
      (subst (λ l. IsNoLonger l ((spell_body e' ++ x') ++ ys)) (sym (append_assoc (spell_body e) x xs))
      (subst (λ l. IsNoLonger (spell_body e ++ (x ++ xs)) l) (sym (append_assoc (spell_body e') x' ys)) last)) in
      let inner : IsNoLonger (spell_body t ++ (y ++ xs)) (spell_body t' ++ (y' ++ ys)) = p (y ++ xs) (y' ++ ys) behind in
      shorter_test d a w ((spell_body t ++ y) ++ xs) ((spell_body t' ++ y') ++ ys)
      (subst (λ l. IsNoLonger l ((spell_body t' ++ y') ++ ys)) (sym (append_assoc (spell_body t) y xs))
      (subst (λ l. IsNoLonger (spell_body t ++ (y ++ xs)) l) (sym (append_assoc (spell_body t') y' ys)) inner))

  -- an `if` without an `else` before an empty body
  shorter_without : (d : List ℕ) (a : Condition) (w : List ℕ) (t r : SpelledBody) (xs : List Tok)
      → IsNoLonger (spell_body (if_then d a w t r) ++ xs) (spell_body (if_else d a w t empty r) ++ xs)
  shorter_without d a w t r xs =
      let x = reserved End ∷ sign Semicolon ∷ spell_body r in
      let inner : IsNoLonger (spell_body t ++ (x ++ xs)) (spell_body t ++ (reserved Else ∷ (x ++ xs))) =
      shorter_behind (spell_body t) (x ++ xs) (reserved Else ∷ (x ++ xs)) (no_longer_else (sign Semicolon ∷ (spell_body r ++ xs))) in
      shorter_test d a w ((spell_body t ++ x) ++ xs) ((spell_body t ++ reserved Else ∷ x) ++ xs)
      (subst (λ l. IsNoLonger l ((spell_body t ++ reserved Else ∷ x) ++ xs)) (sym (append_assoc (spell_body t) x xs))
      (subst (λ l. IsNoLonger (spell_body t ++ (x ++ xs)) l) (sym (append_assoc (spell_body t) (reserved Else ∷ x) xs)) inner))
    where
      shorter_behind : (ts xs ys : List Tok) → IsNoLonger xs ys → IsNoLonger (ts ++ xs) (ts ++ ys)
      shorter_behind [] xs ys p = p
      shorter_behind (t ∷ ts) xs ys p = no_longer_cons t (ts ++ xs) (ts ++ ys) (shorter_behind ts xs ys p)

  tidy_if : (d : List ℕ) (a : Condition) (w : List ℕ) (t e r : SpelledBody) (xs : List Tok)
      → IsNoLonger (spell_body (unread_if names d a w t e r) ++ xs) (spell_body (if_else d a w t e r) ++ xs)
  tidy_if d a w t empty r xs = shorter_without d a w t r xs
  tidy_if d a w t (show x y) r xs = no_longer_same _
  tidy_if d a w t (say x y) r xs = no_longer_same _
  tidy_if d a w t (add x y z) r xs = no_longer_same _
  tidy_if d a w t (set x y z) r xs = no_longer_same _
  tidy_if d a w t (copy x y z) r xs = no_longer_same _
  tidy_if d a w t (pour x y z) r xs = no_longer_same _
  tidy_if d a w t (if_then x y z u v) r xs = no_longer_same _
  tidy_if d a w t (if_else x y z u v s) r xs = no_longer_same _
  tidy_if d a w t (spawn x y z u) r xs = no_longer_same _

  -- a tidy body is no longer
  tidy_shorter : (b : SpelledBody) → IsShorter (tidy b) b
  tidy_shorter empty xs ys h = h
  tidy_shorter (show d rest) xs ys h =
      no_longer_cons _ _ _ (no_longer_cons _ _ _ (no_longer_cons _ (spell_body (tidy rest) ++ xs) (spell_body rest ++ ys) (tidy_shorter rest xs ys h)))
  tidy_shorter (say w rest) xs ys h =
      no_longer_cons _ _ _ (no_longer_cons _ _ _ (no_longer_cons _ (spell_body (tidy rest) ++ xs) (spell_body rest ++ ys) (tidy_shorter rest xs ys h)))
  tidy_shorter (add d w rest) xs ys h =
      no_longer_cons _ _ _ (no_longer_cons _ _ _ (no_longer_cons _ _ _ (no_longer_cons _ (spell_body (tidy rest) ++ xs) (spell_body rest ++ ys) (tidy_shorter rest xs ys h))))
  tidy_shorter (set d w rest) xs ys h =
      no_longer_cons _ _ _ (no_longer_cons _ _ _ (no_longer_cons _ _ _ (no_longer_cons _ (spell_body (tidy rest) ++ xs) (spell_body rest ++ ys) (tidy_shorter rest xs ys h))))
  tidy_shorter (copy d e rest) xs ys h =
      no_longer_cons _ _ _ (no_longer_cons _ _ _ (no_longer_cons _ _ _ (no_longer_cons _ _ _ (no_longer_cons _ (spell_body (tidy rest) ++ xs) (spell_body rest ++ ys) (tidy_shorter rest xs ys h)))))
  tidy_shorter (pour d e rest) xs ys h =
      no_longer_cons _ _ _ (no_longer_cons _ _ _ (no_longer_cons _ _ _ (no_longer_cons _ _ _ (no_longer_cons _ (spell_body (tidy rest) ++ xs) (spell_body rest ++ ys) (tidy_shorter rest xs ys h)))))
  tidy_shorter (if_then d a w t rest) xs ys h = shorter_then d a w (tidy t) t (tidy rest) rest (tidy_shorter t) (tidy_shorter rest) xs ys h
  tidy_shorter (if_else d a w t e rest) xs ys h =
      no_longer_trans (spell_body (unread_if names d a w (tidy t) (tidy e) (tidy rest)) ++ xs) (spell_body (if_else d a w (tidy t) (tidy e) (tidy rest)) ++ xs) (spell_body (if_else d a w t e rest) ++ ys)
      (tidy_if d a w (tidy t) (tidy e) (tidy rest) xs)
      (shorter_else d a w (tidy t) t (tidy e) e (tidy rest) rest (tidy_shorter t) (tidy_shorter e) (tidy_shorter rest) xs ys h)
  tidy_shorter (spawn f m b rest) xs ys h =
      let x = reserved End ∷ sign Semicolon ∷ spell_body (tidy rest) in
      let y = reserved End ∷ sign Semicolon ∷ spell_body rest in
      let inner : IsNoLonger (spell_body (tidy b) ++ (x ++ xs)) (spell_body b ++ (y ++ ys)) =
      tidy_shorter b (x ++ xs) (y ++ ys) (shorter_end (tidy rest) rest xs ys (tidy_shorter rest xs ys h)) in
      let joined : IsNoLonger ((spell_body (tidy b) ++ x) ++ xs) ((spell_body b ++ y) ++ ys) =
      subst (λ l. IsNoLonger l ((spell_body b ++ y) ++ ys)) (sym (append_assoc (spell_body (tidy b)) x xs))
      (subst (λ l. IsNoLonger (spell_body (tidy b) ++ (x ++ xs)) l) (sym (append_assoc (spell_body b) y ys)) inner) in
      let behind : IsNoLonger (spell_more m (reserved Do ∷ (spell_body (tidy b) ++ x)) ++ xs) (spell_more m (reserved Do ∷ (spell_body b ++ y)) ++ ys) =
      subst (λ l. IsNoLonger l (spell_more m (reserved Do ∷ (spell_body b ++ y)) ++ ys)) (sym (more_append m (reserved Do ∷ (spell_body (tidy b) ++ x)) xs))
      (subst (λ l. IsNoLonger (spell_more m (reserved Do ∷ ((spell_body (tidy b) ++ x) ++ xs))) l) (sym (more_append m (reserved Do ∷ (spell_body b ++ y)) ys))
      (no_longer_more m _ _ (no_longer_cons (reserved Do) ((spell_body (tidy b) ++ x) ++ xs) ((spell_body b ++ y) ++ ys) joined))) in
      no_longer_cons (reserved Spawn) _ _ (no_longer_cons (reserved When) _ _
      (no_longer_access f (spell_more m (reserved Do ∷ (spell_body (tidy b) ++ x)) ++ xs) (spell_more m (reserved Do ∷ (spell_body b ++ y)) ++ ys) behind))

  -- and so is the `when` that has it
  pub tidy_when_shorter : (f : SpelledAccess) (m : List SpelledAccess) (b : SpelledBody) → length (canonical (spell_when f m (tidy b))) ≤ length (canonical (spell_when f m b))
  tidy_when_shorter f m b =
      let x = spell_body (tidy b) ++ reserved End ∷ [] in
      let y = spell_body b ++ reserved End ∷ [] in
      (no_longer_cons (reserved When) (spell_access f (spell_more m (reserved Do ∷ x))) (spell_access f (spell_more m (reserved Do ∷ y)))
      (no_longer_access f _ _ (no_longer_more m (reserved Do ∷ x) (reserved Do ∷ y) (no_longer_cons (reserved Do) x y
      (tidy_shorter b (reserved End ∷ []) (reserved End ∷ []) (no_longer_same (reserved End ∷ []))))))).alone
