-- Tokens spell one line, and those of a line have no fault.
use Rattle.std.proofs.Common.{◌≡◌, ℕ, List, [], ◌∷◌, ◌++◌, Some, refl, sym, ap, subst, ◌∙◌, append_assoc}
use Rattle.std.proofs.lemmas.List.{append-nil}
use Rattle.bl_name.specs.declared.token.Keyword.{Keyword}
use Rattle.bl_name.specs.declared.token.Keyword.TheVariants.{Hello, Wait, Give, Rescind, Current, Classify, Create, Delete, When, Do, End, Else}
use Rattle.bl_level.specs.LevelText.{LevelText, spell_categories, spell_level}
use Rattle.bl_level.specs.LevelText as of_level
use Rattle.bl_name.specs.declared.token.Sign.TheVariants.{Comma, Semicolon}
use Rattle.bl_level.specs.Token.{Tok, reserved, name, sign}
use Rattle.bl_level.specs.Name.{AreProper}
use Rattle.bl_policy.specs.declared.access.Mode.{Mode}
use Rattle.bl_policy.specs.declared.access.Mode.TheVariants.{Read, Append, Write}
use Rattle.bl_work.specs.declared.script.Condition.{Condition}
use Rattle.bl_work.specs.declared.script.Condition.TheVariants.{Is, Has}
use Rattle.bl_work.specs.Spelled.{SpelledAccess, SpelledBody, empty, show, say, add, set, copy, pour, if_then, if_else, spawn, mode_word, asks_word, spell_access, spell_more, spell_body}
use Rattle.bl_work.specs.SpelledRules.{SpelledRule, letter_of, give, rescind, current, classify, create, delete, spell_rule}
use Rattle.bl_work.specs.Grammar.{SpelledLine, hello, wait, when, rule, spell}
use Rattle.bl_work.specs.Fault.{Blocks, FirstTokenAtFault}
use Rattle.bl_work.specs.Machine.{mode_of}
use Rattle.bl_syntax.specs.Parsing.{BeginsNone, IsNotAt}
use Rattle.bl_work.proofs.Lists.{proper_behind}
use Rattle.bl_work.proofs.Theory.{more_append}

same_mode : (m n : Mode) → mode_word m ≡ mode_word n → m ≡ n
same_mode Read Read e = refl
same_mode Append Append e = refl
same_mode Write Write e = refl
same_mode _ _ e = absurd (cc)

same_asks : (c d : Condition) → asks_word c ≡ asks_word d → c ≡ d
same_asks Is Is e = refl
same_asks Has Has e = refl
same_asks _ _ e = absurd (cc)

same_access : (a b : SpelledAccess) (xs ys : List Tok) → spell_access a xs ≡ spell_access b ys → (a ≡ b) × (xs ≡ ys)
same_access a b xs ys e =
    let p : mode_word a.mode ≡ mode_word b.mode = cc in
    let q : a.document ≡ b.document = cc in
    let r : xs ≡ ys = cc in
    let m : a.mode ≡ b.mode = same_mode a.mode b.mode p in
    ((λ i. record { mode = m i; document = q i }), r)

same_more : (these those : List SpelledAccess) (xs ys : List Tok) → IsNotAt (sign Comma) xs → IsNotAt (sign Comma) ys → spell_more these xs ≡ spell_more those ys → (these ≡ those) × (xs ≡ ys)
same_more [] [] xs ys h k e = (refl, e)
same_more [] (b ∷ those) xs ys h k e = absurd (subst (IsNotAt (sign Comma)) e h refl)
same_more (a ∷ these) [] xs ys h k e = absurd (subst (IsNotAt (sign Comma)) (sym e) k refl)
same_more (a ∷ these) (b ∷ those) xs ys h k e =
    let f : spell_access a (spell_more these xs) ≡ spell_access b (spell_more those ys) = cc in
    let p = same_access a b (spell_more these xs) (spell_more those ys) f in
    let q = same_more these those xs ys h k p.1 in
    ((λ i. p.0 i ∷ q.0 i), q.1)

no_comma_at_do : (ts : List Tok) → IsNotAt (sign Comma) (reserved Do ∷ ts)
no_comma_at_do ts e = cc

same_behind : (t u : Tok) (ts us : List Tok) → t ∷ ts ≡ u ∷ us → ts ≡ us
same_behind t u ts us e = cc

-- the first token of a body begins a statement
none_begins : (b : SpelledBody) (ts : List Tok) → BeginsNone (spell_body b ++ ts) → b ≡ empty
none_begins empty ts h = refl
none_begins (show document rest) ts h = absurd (cc)
none_begins (say words rest) ts h = absurd (cc)
none_begins (add document words rest) ts h = absurd (cc)
none_begins (set document words rest) ts h = absurd (cc)
none_begins (copy from to rest) ts h = absurd (cc)
none_begins (pour from to rest) ts h = absurd (cc)
none_begins (if_then document asks words then_body rest) ts h = absurd (cc)
none_begins (if_else document asks words then_body else_body rest) ts h = absurd (cc)
none_begins (spawn first more body rest) ts h = absurd (cc)

-- the same body stands before any tokens that no statement begins
abbrev Same : SpelledBody → Type 0
Same b = (c : SpelledBody) (xs ys : List Tok) → BeginsNone xs → BeginsNone ys → spell_body b ++ xs ≡ spell_body c ++ ys → (b ≡ c) × (xs ≡ ys)

same_empty : (b : SpelledBody) (xs ys : List Tok) → BeginsNone ys → spell_body b ++ xs ≡ ys → (b ≡ empty) × (xs ≡ ys)
same_empty b xs ys k e =
    let p : b ≡ empty = none_begins b xs (subst BeginsNone (sym e) k) in
    (p, ap (λ x. spell_body x ++ xs) (sym p) ∙ e)

same_show : (n : List ℕ) (r : SpelledBody) → Same r → (o : SpelledBody) (xs ys : List Tok) → BeginsNone xs → BeginsNone ys
    → spell_body (show n r) ++ xs ≡ spell_body o ++ ys → (show n r ≡ o) × (xs ≡ ys)
same_show n r again empty xs ys h k e = same_empty (show n r) xs ys k e
same_show n r again (show n' r') xs ys h k e =
    let f : spell_body r ++ xs ≡ spell_body r' ++ ys = cc in
    let p = again r' xs ys h k f in
    (cc, p.1)
same_show n r again _ xs ys h k e = absurd (cc)

same_say : (x : List ℕ) (r : SpelledBody) → Same r → (o : SpelledBody) (xs ys : List Tok) → BeginsNone xs → BeginsNone ys
    → spell_body (say x r) ++ xs ≡ spell_body o ++ ys → (say x r ≡ o) × (xs ≡ ys)
same_say x r again empty xs ys h k e = same_empty (say x r) xs ys k e
same_say x r again (say x' r') xs ys h k e =
    let f : spell_body r ++ xs ≡ spell_body r' ++ ys = cc in
    let p = again r' xs ys h k f in
    (cc, p.1)
same_say x r again _ xs ys h k e = absurd (cc)

same_add : (n : List ℕ) (x : List ℕ) (r : SpelledBody) → Same r → (o : SpelledBody) (xs ys : List Tok) → BeginsNone xs → BeginsNone ys
    → spell_body (add n x r) ++ xs ≡ spell_body o ++ ys → (add n x r ≡ o) × (xs ≡ ys)
same_add n x r again empty xs ys h k e = same_empty (add n x r) xs ys k e
same_add n x r again (add n' x' r') xs ys h k e =
    let f : spell_body r ++ xs ≡ spell_body r' ++ ys = cc in
    let p = again r' xs ys h k f in
    (cc, p.1)
same_add n x r again _ xs ys h k e = absurd (cc)

same_set : (n : List ℕ) (x : List ℕ) (r : SpelledBody) → Same r → (o : SpelledBody) (xs ys : List Tok) → BeginsNone xs → BeginsNone ys
    → spell_body (set n x r) ++ xs ≡ spell_body o ++ ys → (set n x r ≡ o) × (xs ≡ ys)
same_set n x r again empty xs ys h k e = same_empty (set n x r) xs ys k e
same_set n x r again (set n' x' r') xs ys h k e =
    let f : spell_body r ++ xs ≡ spell_body r' ++ ys = cc in
    let p = again r' xs ys h k f in
    (cc, p.1)
same_set n x r again _ xs ys h k e = absurd (cc)

same_copy : (n : List ℕ) (m : List ℕ) (r : SpelledBody) → Same r → (o : SpelledBody) (xs ys : List Tok) → BeginsNone xs → BeginsNone ys
    → spell_body (copy n m r) ++ xs ≡ spell_body o ++ ys → (copy n m r ≡ o) × (xs ≡ ys)
same_copy n m r again empty xs ys h k e = same_empty (copy n m r) xs ys k e
same_copy n m r again (copy n' m' r') xs ys h k e =
    let f : spell_body r ++ xs ≡ spell_body r' ++ ys = cc in
    let p = again r' xs ys h k f in
    (cc, p.1)
same_copy n m r again _ xs ys h k e = absurd (cc)

same_pour : (n : List ℕ) (m : List ℕ) (r : SpelledBody) → Same r → (o : SpelledBody) (xs ys : List Tok) → BeginsNone xs → BeginsNone ys
    → spell_body (pour n m r) ++ xs ≡ spell_body o ++ ys → (pour n m r ≡ o) × (xs ≡ ys)
same_pour n m r again empty xs ys h k e = same_empty (pour n m r) xs ys k e
same_pour n m r again (pour n' m' r') xs ys h k e =
    let f : spell_body r ++ xs ≡ spell_body r' ++ ys = cc in
    let p = again r' xs ys h k f in
    (cc, p.1)
same_pour n m r again _ xs ys h k e = absurd (cc)

then_then : (n : List ℕ) (c : Condition) (x : List ℕ) (a r : SpelledBody) → Same a → Same r → (n' : List ℕ) (c' : Condition) (x' : List ℕ) (a' r' : SpelledBody) (xs ys : List Tok) → BeginsNone xs → BeginsNone ys
    → spell_body (if_then n c x a r) ++ xs ≡ spell_body (if_then n' c' x' a' r') ++ ys → (if_then n c x a r ≡ if_then n' c' x' a' r') × (xs ≡ ys)
then_then n c x a r again_a again n' c' x' a' r' xs ys h k e =
    let f : spell_body a ++ reserved End ∷ sign Semicolon ∷ (spell_body r ++ xs) ≡ spell_body a' ++ reserved End ∷ sign Semicolon ∷ (spell_body r' ++ ys) =
    cc (append_assoc (spell_body a) (reserved End ∷ sign Semicolon ∷ spell_body r) xs, append_assoc (spell_body a') (reserved End ∷ sign Semicolon ∷ spell_body r') ys) in
    let p = again_a a' (reserved End ∷ sign Semicolon ∷ (spell_body r ++ xs)) (reserved End ∷ sign Semicolon ∷ (spell_body r' ++ ys)) refl refl f in
    let g : spell_body r ++ xs ≡ spell_body r' ++ ys = cc in
    let q = again r' xs ys h k g in
    let w : asks_word c ≡ asks_word c' = cc in
    let d = same_asks c c' w in
    (cc, q.1)

then_else : (n : List ℕ) (c : Condition) (x : List ℕ) (a r : SpelledBody) → Same a → (n' : List ℕ) (c' : Condition) (x' : List ℕ) (a' b' r' : SpelledBody) (xs ys : List Tok)
    → spell_body (if_then n c x a r) ++ xs ≡ spell_body (if_else n' c' x' a' b' r') ++ ys → ⊥
then_else n c x a r again_a n' c' x' a' b' r' xs ys e =
    let f : spell_body a ++ reserved End ∷ sign Semicolon ∷ (spell_body r ++ xs) ≡ spell_body a' ++ reserved Else ∷ ((spell_body b' ++ reserved End ∷ sign Semicolon ∷ spell_body r') ++ ys) =
    cc (append_assoc (spell_body a) (reserved End ∷ sign Semicolon ∷ spell_body r) xs, append_assoc (spell_body a') (reserved Else ∷ (spell_body b' ++ reserved End ∷ sign Semicolon ∷ spell_body r')) ys) in
    let p = again_a a' (reserved End ∷ sign Semicolon ∷ (spell_body r ++ xs)) (reserved Else ∷ ((spell_body b' ++ reserved End ∷ sign Semicolon ∷ spell_body r') ++ ys)) refl refl f in
    cc

same_if_then : (n : List ℕ) (c : Condition) (x : List ℕ) (a r : SpelledBody) → Same a → Same r → (o : SpelledBody) (xs ys : List Tok) → BeginsNone xs → BeginsNone ys
    → spell_body (if_then n c x a r) ++ xs ≡ spell_body o ++ ys → (if_then n c x a r ≡ o) × (xs ≡ ys)
same_if_then n c x a r again_a again empty xs ys h k e = same_empty (if_then n c x a r) xs ys k e
same_if_then n c x a r again_a again (if_then n' c' x' a' r') xs ys h k e = then_then n c x a r again_a again n' c' x' a' r' xs ys h k e
same_if_then n c x a r again_a again (if_else n' c' x' a' b' r') xs ys h k e = absurd (then_else n c x a r again_a n' c' x' a' b' r' xs ys e)
same_if_then n c x a r again_a again _ xs ys h k e = absurd (cc)

else_else : (n : List ℕ) (c : Condition) (x : List ℕ) (a b r : SpelledBody) → Same a → Same b → Same r → (n' : List ℕ) (c' : Condition) (x' : List ℕ) (a' b' r' : SpelledBody) (xs ys : List Tok) → BeginsNone xs → BeginsNone ys
    → spell_body (if_else n c x a b r) ++ xs ≡ spell_body (if_else n' c' x' a' b' r') ++ ys → (if_else n c x a b r ≡ if_else n' c' x' a' b' r') × (xs ≡ ys)
else_else n c x a b r again_a again_b again n' c' x' a' b' r' xs ys h k e =
    let f : spell_body a ++ reserved Else ∷ (spell_body b ++ reserved End ∷ sign Semicolon ∷ (spell_body r ++ xs))
    ≡ spell_body a' ++ reserved Else ∷ (spell_body b' ++ reserved End ∷ sign Semicolon ∷ (spell_body r' ++ ys)) =
    cc (
      append_assoc (spell_body a) (reserved Else ∷ (spell_body b ++ reserved End ∷ sign Semicolon ∷ spell_body r)) xs,
      append_assoc (spell_body a') (reserved Else ∷ (spell_body b' ++ reserved End ∷ sign Semicolon ∷ spell_body r')) ys,
      append_assoc (spell_body b) (reserved End ∷ sign Semicolon ∷ spell_body r) xs,
      append_assoc (spell_body b') (reserved End ∷ sign Semicolon ∷ spell_body r') ys,
    ) in
    let p = again_a a' (reserved Else ∷ (spell_body b ++ reserved End ∷ sign Semicolon ∷ (spell_body r ++ xs))) (reserved Else ∷ (spell_body b' ++ reserved End ∷ sign Semicolon ∷ (spell_body r' ++ ys))) refl refl f in
    let g : spell_body b ++ reserved End ∷ sign Semicolon ∷ (spell_body r ++ xs) ≡ spell_body b' ++ reserved End ∷ sign Semicolon ∷ (spell_body r' ++ ys) = cc in
    let q = again_b b' (reserved End ∷ sign Semicolon ∷ (spell_body r ++ xs)) (reserved End ∷ sign Semicolon ∷ (spell_body r' ++ ys)) refl refl g in
    let i : spell_body r ++ xs ≡ spell_body r' ++ ys = cc in
    let s = again r' xs ys h k i in
    let w : asks_word c ≡ asks_word c' = cc in
    let d = same_asks c c' w in
    (cc, s.1)

else_then : (n : List ℕ) (c : Condition) (x : List ℕ) (a b r : SpelledBody) → Same a → (n' : List ℕ) (c' : Condition) (x' : List ℕ) (a' r' : SpelledBody) (xs ys : List Tok)
    → spell_body (if_else n c x a b r) ++ xs ≡ spell_body (if_then n' c' x' a' r') ++ ys → ⊥
else_then n c x a b r again_a n' c' x' a' r' xs ys e =
    let f : spell_body a ++ reserved Else ∷ ((spell_body b ++ reserved End ∷ sign Semicolon ∷ spell_body r) ++ xs) ≡ spell_body a' ++ reserved End ∷ sign Semicolon ∷ (spell_body r' ++ ys) =
    cc (append_assoc (spell_body a) (reserved Else ∷ (spell_body b ++ reserved End ∷ sign Semicolon ∷ spell_body r)) xs, append_assoc (spell_body a') (reserved End ∷ sign Semicolon ∷ spell_body r') ys) in
    let p = again_a a' (reserved Else ∷ ((spell_body b ++ reserved End ∷ sign Semicolon ∷ spell_body r) ++ xs)) (reserved End ∷ sign Semicolon ∷ (spell_body r' ++ ys)) refl refl f in
    cc

same_if_else : (n : List ℕ) (c : Condition) (x : List ℕ) (a b r : SpelledBody) → Same a → Same b → Same r → (o : SpelledBody) (xs ys : List Tok) → BeginsNone xs → BeginsNone ys
    → spell_body (if_else n c x a b r) ++ xs ≡ spell_body o ++ ys → (if_else n c x a b r ≡ o) × (xs ≡ ys)
same_if_else n c x a b r again_a again_b again empty xs ys h k e = same_empty (if_else n c x a b r) xs ys k e
same_if_else n c x a b r again_a again_b again (if_then n' c' x' a' r') xs ys h k e = absurd (else_then n c x a b r again_a n' c' x' a' r' xs ys e)
same_if_else n c x a b r again_a again_b again (if_else n' c' x' a' b' r') xs ys h k e = else_else n c x a b r again_a again_b again n' c' x' a' b' r' xs ys h k e
same_if_else n c x a b r again_a again_b again _ xs ys h k e = absurd (cc)

spawn_spawn : (a : SpelledAccess) (m : List SpelledAccess) (b r : SpelledBody) → Same b → Same r → (a' : SpelledAccess) (m' : List SpelledAccess) (b' r' : SpelledBody) (xs ys : List Tok) → BeginsNone xs → BeginsNone ys
    → spell_body (spawn a m b r) ++ xs ≡ spell_body (spawn a' m' b' r') ++ ys → (spawn a m b r ≡ spawn a' m' b' r') × (xs ≡ ys)
spawn_spawn a m b r again_b again a' m' b' r' xs ys h k e =
    let f : spell_access a (spell_more m (reserved Do ∷ ((spell_body b ++ reserved End ∷ sign Semicolon ∷ spell_body r) ++ xs)))
    ≡ spell_access a' (spell_more m' (reserved Do ∷ ((spell_body b' ++ reserved End ∷ sign Semicolon ∷ spell_body r') ++ ys))) =
    cc (
      more_append m (reserved Do ∷ (spell_body b ++ reserved End ∷ sign Semicolon ∷ spell_body r)) xs,
      more_append m' (reserved Do ∷ (spell_body b' ++ reserved End ∷ sign Semicolon ∷ spell_body r')) ys,
    ) in
    let p = same_access a a' (spell_more m (reserved Do ∷ ((spell_body b ++ reserved End ∷ sign Semicolon ∷ spell_body r) ++ xs))) (spell_more m' (reserved Do ∷ ((spell_body b' ++ reserved End ∷ sign Semicolon ∷ spell_body r') ++ ys))) f in
    let q = same_more m m' (reserved Do ∷ ((spell_body b ++ reserved End ∷ sign Semicolon ∷ spell_body r) ++ xs)) (reserved Do ∷ ((spell_body b' ++ reserved End ∷ sign Semicolon ∷ spell_body r') ++ ys))
    (no_comma_at_do ((spell_body b ++ reserved End ∷ sign Semicolon ∷ spell_body r) ++ xs)) (no_comma_at_do ((spell_body b' ++ reserved End ∷ sign Semicolon ∷ spell_body r') ++ ys)) p.1 in
    let g : spell_body b ++ reserved End ∷ sign Semicolon ∷ (spell_body r ++ xs) ≡ spell_body b' ++ reserved End ∷ sign Semicolon ∷ (spell_body r' ++ ys) =
    sym (append_assoc (spell_body b) (reserved End ∷ sign Semicolon ∷ spell_body r) xs)
    ∙ same_behind (reserved Do) (reserved Do) _ _ q.1
    ∙ append_assoc (spell_body b') (reserved End ∷ sign Semicolon ∷ spell_body r') ys in
    let s = again_b b' (reserved End ∷ sign Semicolon ∷ (spell_body r ++ xs)) (reserved End ∷ sign Semicolon ∷ (spell_body r' ++ ys)) refl refl g in
    let o : spell_body r ++ xs ≡ spell_body r' ++ ys = same_behind (sign Semicolon) (sign Semicolon) _ _ (same_behind (reserved End) (reserved End) _ _ s.1) in
    let u = again r' xs ys h k o in
    ((λ i. spawn (p.0 i) (q.0 i) (s.0 i) (u.0 i)), u.1)

same_spawn : (a : SpelledAccess) (m : List SpelledAccess) (b r : SpelledBody) → Same b → Same r → (o : SpelledBody) (xs ys : List Tok) → BeginsNone xs → BeginsNone ys
    → spell_body (spawn a m b r) ++ xs ≡ spell_body o ++ ys → (spawn a m b r ≡ o) × (xs ≡ ys)
same_spawn a m b r again_b again empty xs ys h k e = same_empty (spawn a m b r) xs ys k e
same_spawn a m b r again_b again (spawn a' m' b' r') xs ys h k e = spawn_spawn a m b r again_b again a' m' b' r' xs ys h k e
same_spawn a m b r again_b again _ xs ys h k e = absurd (cc)

same_nothing : (o : SpelledBody) (xs ys : List Tok) → BeginsNone xs → BeginsNone ys
    → spell_body empty ++ xs ≡ spell_body o ++ ys → (empty ≡ o) × (xs ≡ ys)
same_nothing c xs ys h k e =
    let p : c ≡ empty = none_begins c ys (subst BeginsNone e h) in
    (sym p, e ∙ ap (λ x. spell_body x ++ ys) p)

-- tokens that no statement begins have one body before them
pub same_body : (b : SpelledBody) → Same b
same_body empty = same_nothing
same_body (show n r) = same_show n r (same_body r)
same_body (say x r) = same_say x r (same_body r)
same_body (add n x r) = same_add n x r (same_body r)
same_body (set n x r) = same_set n x r (same_body r)
same_body (copy n m r) = same_copy n m r (same_body r)
same_body (pour n m r) = same_pour n m r (same_body r)
same_body (if_then n c x a r) = same_if_then n c x a r (same_body a) (same_body r)
same_body (if_else n c x a b r) = same_if_else n c x a b r (same_body a) (same_body b) (same_body r)
same_body (spawn a m b r) = same_spawn a m b r (same_body b) (same_body r)

letter_again : (m : Mode) → mode_of (letter_of m) ≡ Some m
letter_again Read = refl
letter_again Append = refl
letter_again Write = refl

same_letter : (m n : Mode) → letter_of m ≡ letter_of n → m ≡ n
same_letter m n e = let p : Some m ≡ Some n = sym (letter_again m) ∙ ap mode_of e ∙ letter_again n in cc

-- tokens spell one list of further categories
same_more_categories : (these those : List (List ℕ)) → of_level.spell_more these ≡ of_level.spell_more those → these ≡ those
same_more_categories [] [] e = refl
same_more_categories [] (d ∷ those) e = absurd (cc)
same_more_categories (c ∷ these) [] e = absurd (cc)
same_more_categories (c ∷ these) (d ∷ those) e =
    let f : of_level.spell_more these ≡ of_level.spell_more those = cc in
    let p = same_more_categories these those f in
    cc

same_categories : (these those : List (List ℕ)) → spell_categories these ≡ spell_categories those → these ≡ those
same_categories [] [] e = refl
same_categories [] (d ∷ those) e = absurd (cc)
same_categories (c ∷ these) [] e = absurd (cc)
same_categories (c ∷ these) (d ∷ those) e =
    let f : of_level.spell_more these ≡ of_level.spell_more those = cc in
    let p = same_more_categories these those f in
    cc

-- tokens spell one level
same_level : (a b : LevelText) → spell_level a ≡ spell_level b → a ≡ b
same_level a b e =
    let p : a.rank ≡ b.rank = cc in
    let q = same_categories a.categories b.categories (same_behind (name a.rank) (name b.rank) _ _ e) in
    λ i. record { rank = p i; categories = q i }

-- a word that begins a rule
abbrev BeginsRule : Keyword → Type 0
BeginsRule Give = Unit {0}
BeginsRule Rescind = Unit {0}
BeginsRule Current = Unit {0}
BeginsRule Classify = Unit {0}
BeginsRule Create = Unit {0}
BeginsRule Delete = Unit {0}
BeginsRule _ = ⊥

-- tokens spell one rule
same_rule : (r s : SpelledRule) → spell_rule r ≡ spell_rule s → r ≡ s
same_rule (give a o m) (give b p n) e =
    let f : letter_of m ≡ letter_of n = cc in
    let q = same_letter m n f in
    cc
same_rule (rescind a o m) (rescind b p n) e =
    let f : letter_of m ≡ letter_of n = cc in
    let q = same_letter m n f in
    cc
same_rule (current a) (current b) e = ap current (same_level a b (same_behind (reserved Current) (reserved Current) _ _ e))
same_rule (classify o a) (classify p b) e =
    let f : name o ∷ spell_level a ≡ name p ∷ spell_level b = same_behind (reserved Classify) (reserved Classify) _ _ e in
    let q : o ≡ p = cc in
    let s = same_level a b (same_behind (name o) (name p) _ _ f) in
    λ i. classify (q i) (s i)
same_rule (create o) (create p) e = let q : o ≡ p = cc in ap create q
same_rule (delete o) (delete p) e = let q : o ≡ p = cc in ap delete q
same_rule _ _ e = absurd (cc)

-- no other line begins as a rule
is_no_rule : (r : SpelledRule) (k : Keyword) (ts : List Tok) → spell_rule r ≡ reserved k ∷ ts → BeginsRule k
is_no_rule (give a o m) k ts e = let p : Give ≡ k = cc in subst BeginsRule p tt
is_no_rule (rescind a o m) k ts e = let p : Rescind ≡ k = cc in subst BeginsRule p tt
is_no_rule (current l) k ts e = let p : Current ≡ k = cc in subst BeginsRule p tt
is_no_rule (classify o l) k ts e = let p : Classify ≡ k = cc in subst BeginsRule p tt
is_no_rule (create o) k ts e = let p : Create ≡ k = cc in subst BeginsRule p tt
is_no_rule (delete o) k ts e = let p : Delete ≡ k = cc in subst BeginsRule p tt

pub same_line : (l m : SpelledLine) → spell l ≡ spell m → l ≡ m
same_line (hello n) (hello k) e = cc
same_line wait wait e = refl
same_line (rule r) (rule s) e = ap rule (same_rule r s e)
same_line (rule r) (hello n) e = absurd (is_no_rule r Hello _ e)
same_line (rule r) wait e = absurd (is_no_rule r Wait _ e)
same_line (rule r) (when a m b) e = absurd (is_no_rule r When _ e)
same_line (hello n) (rule r) e = absurd (is_no_rule r Hello _ (sym e))
same_line wait (rule r) e = absurd (is_no_rule r Wait _ (sym e))
same_line (when a m b) (rule r) e = absurd (is_no_rule r When _ (sym e))
same_line (when a m b) (when a' m' b') e =
    let f : spell_access a (spell_more m (reserved Do ∷ (spell_body b ++ reserved End ∷ []))) ≡ spell_access a' (spell_more m' (reserved Do ∷ (spell_body b' ++ reserved End ∷ []))) = cc in
    let p = same_access a a' (spell_more m (reserved Do ∷ (spell_body b ++ reserved End ∷ []))) (spell_more m' (reserved Do ∷ (spell_body b' ++ reserved End ∷ []))) f in
    let q = same_more m m' (reserved Do ∷ (spell_body b ++ reserved End ∷ [])) (reserved Do ∷ (spell_body b' ++ reserved End ∷ []))
    (no_comma_at_do (spell_body b ++ reserved End ∷ [])) (no_comma_at_do (spell_body b' ++ reserved End ∷ [])) p.1 in
    let g : spell_body b ++ reserved End ∷ [] ≡ spell_body b' ++ reserved End ∷ [] = same_behind (reserved Do) (reserved Do) _ _ q.1 in
    let s = same_body b b' (reserved End ∷ []) (reserved End ∷ []) refl refl g in
    λ i. when (p.0 i) (q.0 i) (s.0 i)
same_line _ _ e = absurd (cc)

pub line_no_fault : (l : SpelledLine) (tokens : List Tok) (left : ℕ) → AreProper tokens → spell l ≡ tokens → FirstTokenAtFault tokens left → ⊥
line_no_fault l tokens left proper e f = go f.after f.split f.blocked
  where
    go : (after : List Tok) → tokens ≡ f.before ++ after → Blocks f.before after → ⊥
    go [] split blocked = blocked l (e ∙ split ∙ append-nil f.before)
    go (t ∷ more) split blocked =
        let p : AreProper (t ∷ more) = proper_behind f.before (t ∷ more) (subst AreProper split proper) in
        blocked (l, more, e ∙ split ∙ sym (append_assoc f.before (t ∷ []) more), p.1)
