-- How a statement as it was read is taken, and how a longer body and a longer list of accesses are spelled.
use Rattle.std.proofs.Common.{◌≡◌, suc, ◌+◌, ◌*◌, ◌<◌, ◌≤◌, List, [], ◌∷◌, ◌++◌, length, Some, refl, sym, ap, ◌∙◌, append_assoc, map, arith}
use Rattle.bl_name.specs.declared.token.Keyword.{Keyword}
use Rattle.bl_name.specs.declared.token.Keyword.TheVariants.{When, Do, End, If, Then, Else, Spawn}
use Rattle.bl_name.specs.declared.token.Sign.TheVariants.{Comma, Semicolon}
use Rattle.bl_level.specs.Token.{Tok, reserved, name, text, sign}
use Rattle.bl_syntax.specs.declared.raw.RawAccess.{RawAccess}
use Rattle.bl_syntax.specs.declared.raw.RawStatement.{RawStatement}
use Rattle.bl_syntax.specs.declared.raw.RawStatement.TheVariants as raw
use Rattle.bl_work.specs.Spelled.{SpelledAccess, SpelledBody, asks_word, spell_access, spell_more, spell_body, spell_when}
use Rattle.bl_syntax.specs.RawBodies.{raw_access, raw_body}
use Rattle.bl_work.specs.Machine.{Due, word, a_sign, a_body, rest_of_if, run}
use Rattle.bl_syntax.specs.Parsing.{spell_statement}
use Rattle.bl_work.proofs.Theory.{more_append, run_test, run_accesses, run_body}

pub run_statement : (s : RawStatement) (due : List Due) (ts : List Tok) → run (Some (a_body ∷ due)) (spell_statement s ++ ts) ≡ run (Some (a_sign Semicolon ∷ a_body ∷ due)) ts
run_statement (raw.Show document) due ts = refl
run_statement (raw.Say words) due ts = refl
run_statement (raw.Add document words) due ts = refl
run_statement (raw.Set document words) due ts = refl
run_statement (raw.Copy from to) due ts = refl
run_statement (raw.Pour from to) due ts = refl
run_statement (raw.IfThen choice) due ts =
    let c = choice.value in
    run_test c.document.now c.test c.text.now (a_body ∷ rest_of_if ∷ a_sign Semicolon ∷ a_body ∷ due) _
    ∙ ap (run (Some (a_body ∷ rest_of_if ∷ a_sign Semicolon ∷ a_body ∷ due))) (append_assoc (spell_body c.then_body) (reserved End ∷ []) ts)
    ∙ run_body c.then_body (rest_of_if ∷ a_sign Semicolon ∷ a_body ∷ due) (reserved End ∷ ts)
run_statement (raw.IfElse choice) due ts =
    let c = choice.value in
    run_test c.document.now c.test c.text.now (a_body ∷ rest_of_if ∷ a_sign Semicolon ∷ a_body ∷ due) _
    ∙ ap (run (Some (a_body ∷ rest_of_if ∷ a_sign Semicolon ∷ a_body ∷ due))) (append_assoc (spell_body c.then_body) (reserved Else ∷ (spell_body c.else_body ++ reserved End ∷ [])) ts)
    ∙ run_body c.then_body (rest_of_if ∷ a_sign Semicolon ∷ a_body ∷ due) (reserved Else ∷ ((spell_body c.else_body ++ reserved End ∷ []) ++ ts))
    ∙ ap (run (Some (a_body ∷ word End ∷ a_sign Semicolon ∷ a_body ∷ due))) (append_assoc (spell_body c.else_body) (reserved End ∷ []) ts)
    ∙ run_body c.else_body (word End ∷ a_sign Semicolon ∷ a_body ∷ due) (reserved End ∷ ts)
run_statement (raw.Spawn spawned) due ts =
    let w = spawned.value in
    ap (run (Some (a_body ∷ due)))
    (ap (λ x. reserved Spawn ∷ reserved When ∷ spell_access (raw_access w.first) x) (more_append (map raw_access w.more.items) (reserved Do ∷ (spell_body w.body ++ reserved End ∷ [])) ts))
    ∙ run_accesses (raw_access w.first) (map raw_access w.more.items) (a_sign Semicolon ∷ a_body ∷ due) ((spell_body w.body ++ reserved End ∷ []) ++ ts)
    ∙ ap (run (Some (a_body ∷ word End ∷ a_sign Semicolon ∷ a_body ∷ due))) (append_assoc (spell_body w.body) (reserved End ∷ []) ts)
    ∙ run_body w.body (word End ∷ a_sign Semicolon ∷ a_body ∷ due) (reserved End ∷ ts)

-- the tokens of a body are those of its first statement, a semicolon and those of the rest
spell_first : (s : RawStatement) (rest : List RawStatement) → spell_body (raw_body (s ∷ rest)) ≡ spell_statement s ++ sign Semicolon ∷ spell_body (raw_body rest)
spell_first (raw.Show document) rest = refl
spell_first (raw.Say words) rest = refl
spell_first (raw.Add document words) rest = refl
spell_first (raw.Set document words) rest = refl
spell_first (raw.Copy from to) rest = refl
spell_first (raw.Pour from to) rest = refl
spell_first (raw.IfThen choice) rest =
    let c = choice.value in
    ap (λ x. reserved If ∷ name c.document.now ∷ reserved (asks_word c.test) ∷ text c.text.now ∷ reserved Then ∷ x)
    (sym (append_assoc (spell_body c.then_body) (reserved End ∷ []) (sign Semicolon ∷ spell_body (raw_body rest))))
spell_first (raw.IfElse choice) rest =
    let c = choice.value in
    ap (λ x. reserved If ∷ name c.document.now ∷ reserved (asks_word c.test) ∷ text c.text.now ∷ reserved Then ∷ x)
    (ap (λ x. spell_body c.then_body ++ reserved Else ∷ x) (sym (append_assoc (spell_body c.else_body) (reserved End ∷ []) (sign Semicolon ∷ spell_body (raw_body rest))))
    ∙ sym (append_assoc (spell_body c.then_body) (reserved Else ∷ (spell_body c.else_body ++ reserved End ∷ [])) (sign Semicolon ∷ spell_body (raw_body rest))))
spell_first (raw.Spawn spawned) rest =
    let w = spawned.value in
    ap (λ x. reserved Spawn ∷ reserved When ∷ spell_access (raw_access w.first) x)
    (ap (λ x. spell_more (map raw_access w.more.items) (reserved Do ∷ x)) (sym (append_assoc (spell_body w.body) (reserved End ∷ []) (sign Semicolon ∷ spell_body (raw_body rest))))
    ∙ sym (more_append (map raw_access w.more.items) (reserved Do ∷ (spell_body w.body ++ reserved End ∷ [])) (sign Semicolon ∷ spell_body (raw_body rest))))

-- one more statement at the end of a body
pub spell_push : (ss : List RawStatement) (s : RawStatement) (ts : List Tok) → spell_body (raw_body (ss ++ s ∷ [])) ++ ts ≡ spell_body (raw_body ss) ++ (spell_statement s ++ sign Semicolon ∷ ts)
spell_push [] s ts = ap (λ x. x ++ ts) (spell_first s []) ∙ append_assoc (spell_statement s) (sign Semicolon ∷ []) ts
spell_push (x ∷ ss) s ts =
    ap (λ y. y ++ ts) (spell_first x (ss ++ s ∷ []))
    ∙ append_assoc (spell_statement x) (sign Semicolon ∷ spell_body (raw_body (ss ++ s ∷ []))) ts
    ∙ ap (λ y. spell_statement x ++ sign Semicolon ∷ y) (spell_push ss s ts)
    ∙ sym (append_assoc (spell_statement x) (sign Semicolon ∷ spell_body (raw_body ss)) (spell_statement s ++ sign Semicolon ∷ ts))
    ∙ ap (λ y. y ++ (spell_statement s ++ sign Semicolon ∷ ts)) (sym (spell_first x ss))

-- one more access at the end of a list
pub more_push : (accesses : List RawAccess) (a : RawAccess) (ts : List Tok)
    → spell_more (map raw_access (accesses ++ a ∷ [])) ts ≡ spell_more (map raw_access accesses) (sign Comma ∷ spell_access (raw_access a) ts)
more_push [] a ts = refl
more_push (x ∷ accesses) a ts = ap (λ y. sign Comma ∷ spell_access (raw_access x) y) (more_push accesses a ts)

-- what stands behind accesses is no longer than with them
more_longer : (accesses : List SpelledAccess) (ts : List Tok) → length ts ≤ length (spell_more accesses ts)
more_longer [] ts = omega arith
more_longer (a ∷ accesses) ts = omega (arith, more_longer accesses ts)

-- the body of a `when` is shorter than its accesses with the body
pub when_falls : (first : SpelledAccess) (more : List SpelledAccess) (k : Keyword) (ts us vs ws : List Tok) → ts ≡ spell_access first us → us ≡ spell_more more vs → vs ≡ reserved k ∷ ws
    → 3 * length ws + 2 < 3 * length ts
when_falls first more k ts us vs ws e f g =
    let p : length ts ≡ suc (suc (length us)) = ap length e in
    let q : length us ≡ length (spell_more more vs) = ap length f in
    let r : length vs ≡ suc (length ws) = ap length g in
    omega (arith, p, q, r, more_longer more vs)

-- a `when` is spelled by its accesses, its body and the words between them
pub when_spelled : (first : SpelledAccess) (more : List SpelledAccess) (body : SpelledBody) (ts us vs ws xs ys : List Tok) → ts ≡ spell_access first us → us ≡ spell_more more vs
    → vs ≡ reserved Do ∷ ws → ws ≡ spell_body body ++ xs → xs ≡ reserved End ∷ ys → reserved When ∷ ts ≡ spell_when first more body ++ ys
when_spelled first more body ts us vs ws xs ys e f g h k =
    cc (e, f, g, h, k, more_append more (reserved Do ∷ (spell_body body ++ reserved End ∷ [])) ys, append_assoc (spell_body body) (reserved End ∷ []) ys)

-- one more access behind a comma is one more at the end of a list
pub more_pushed : (accesses : List RawAccess) (a : RawAccess) (ts us vs ws : List Tok) → ts ≡ spell_more (map raw_access accesses) us → us ≡ sign Comma ∷ vs → vs ≡ spell_access (raw_access a) ws
    → ts ≡ spell_more (map raw_access (accesses ++ a ∷ [])) ws
more_pushed accesses a ts us vs ws e f g =
    e ∙ ap (spell_more (map raw_access accesses)) (f ∙ ap (λ x. sign Comma ∷ x) g) ∙ sym (more_push accesses a ws)

-- one more statement and its semicolon are one more at the end of a body
pub body_pushed : (ss : List RawStatement) (s : RawStatement) (ts us vs ws : List Tok) → ts ≡ spell_body (raw_body ss) ++ us → us ≡ spell_statement s ++ vs → vs ≡ sign Semicolon ∷ ws
    → ts ≡ spell_body (raw_body (ss ++ s ∷ [])) ++ ws
body_pushed ss s ts us vs ws e f g =
    e ∙ ap (λ x. spell_body (raw_body ss) ++ x) (f ∙ ap (λ x. spell_statement s ++ x) g) ∙ sym (spell_push ss s ws)
