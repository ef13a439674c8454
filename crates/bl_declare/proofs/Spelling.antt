-- What is read as a declaration is spelled as it, and a spelled declaration is read as itself.
use Rattle.std.proofs.Common.{◌≡◌, ℕ, Bool, true, false, cond, List, [], ◌∷◌, ◌++◌, Option, Some, None, refl, sym, ap, subst, ◌∙◌, append_assoc, rules}
use Rattle.std.proofs.lemmas.List.{append-nil}
use denote.Enum.Bare.{sameb, same_true}
use Rattle.bl_name.specs.contracts.token.Keyword.{the_type}
use Rattle.bl_name.specs.declared.token.Keyword.{Keyword}
use Rattle.bl_name.specs.declared.token.Keyword.TheVariants.{Ranks, Categories, Subject, Greatest, Current, Trusted, Admin, Document, Reserve, Allow}
use Rattle.bl_name.specs.declared.token.Sign.TheVariants.{Comma, Semicolon, Open, Close}
use Rattle.bl_level.specs.Token.{Tok, reserved, name, text, sign}
use Rattle.bl_level.specs.LevelText.{LevelText, spell_level, spell_more, spell_categories}
use Rattle.bl_policy.specs.declared.access.Mode.{Mode}
use Rattle.bl_policy.specs.declared.access.Mode.TheVariants.{Read, Append, Write}
use Rattle.bl_declare.specs.Declaration.{Declaration, SubjectText, DocumentText, ranks, categories, subject, document, allow, letter_of, spell_names, spell_modes, spell_flag, spell_subject, spell_document, spell_declaration}
use Rattle.bl_declare.specs.Reading.{Onward, ended, name_then, text_then, key_then, flag_then, names_then, mode_then, modes_then, more_then, categories_then, level_then, mode_of, with_mode, declaration_at, behind_word, subject_then, document_then, reserve_then, allow_then, ranks_then, categories_line_then}
use Rattle.bl_declare.specs.Parsing.{IsNotAt}
use Rattle.bl_work.proofs.Theory.{letter_is}
use Rattle.bl_declare.proofs.Parts.{name_passes, text_passes, key_passes, categories_none, ended_at}

-- ---- what is read is spelled

-- the list begins with this part, and goes on as what stands behind it is read
pub record Splits {X : Type 0} (spell : X → List Tok) (next : X → Onward) (ts : List Tok) (d : Declaration) : Type 0 where
  pub value : X
  pub rest : List Tok
  pub split : ts ≡ spell value ++ rest
  pub goes_on : next value rest ≡ Some d

ended_splits : (e d : Declaration) (ts : List Tok) → ended e ts ≡ Some d → (ts ≡ []) × (e ≡ d)
unfolding ended
ended_splits e d [] is = (refl, cc)
ended_splits e d (t ∷ ts) is = absurd (cc)

name_splits : (next : List ℕ → Onward) (ts : List Tok) (d : Declaration) → name_then next ts ≡ Some d → Splits (λ n. name n ∷ []) next ts d
unfolding name_then
name_splits next [] d e = absurd (cc)
name_splits next (reserved k ∷ ts) d e = absurd (cc)
name_splits next (name n ∷ ts) d e = record { value = n; rest = ts; split = refl; goes_on = e }
name_splits next (text x ∷ ts) d e = absurd (cc)
name_splits next (sign s ∷ ts) d e = absurd (cc)

text_splits : (next : List ℕ → Onward) (ts : List Tok) (d : Declaration) → text_then next ts ≡ Some d → Splits (λ x. text x ∷ []) next ts d
unfolding text_then
text_splits next [] d e = absurd (cc)
text_splits next (reserved k ∷ ts) d e = absurd (cc)
text_splits next (name n ∷ ts) d e = absurd (cc)
text_splits next (text x ∷ ts) d e = record { value = x; rest = ts; split = refl; goes_on = e }
text_splits next (sign s ∷ ts) d e = absurd (cc)

key_splits : (k : Keyword) (next : Onward) (ts : List Tok) (d : Declaration) → key_then k next ts ≡ Some d → (rest : List Tok) × (ts ≡ reserved k ∷ rest) × (next rest ≡ Some d)
unfolding key_then
key_splits k next [] d e = absurd (cc)
key_splits k next (reserved w ∷ ts) d e = go (sameb the_type w k) refl e
  where
    go : (b : Bool) → sameb the_type w k ≡ b → cond b (next ts) None ≡ Some d → (rest : List Tok) × (reserved w ∷ ts ≡ reserved k ∷ rest) × (next rest ≡ Some d)
    go true is f = (ts, ap (λ x. reserved x ∷ ts) (same_true the_type (search rules) w k is), f)
    go false is f = absurd (cc)
key_splits k next (name n ∷ ts) d e = absurd (cc)
key_splits k next (text x ∷ ts) d e = absurd (cc)
key_splits k next (sign s ∷ ts) d e = absurd (cc)

flag_splits : (k : Keyword) (next : Bool → Onward) (ts : List Tok) (d : Declaration) → flag_then k next ts ≡ Some d → Splits (spell_flag k) next ts d
unfolding flag_then
flag_splits k next [] d e = record { value = false; rest = []; split = refl; goes_on = e }
flag_splits k next (reserved w ∷ ts) d e = go (sameb the_type w k) refl e
  where
    go : (b : Bool) → sameb the_type w k ≡ b → cond b (next true ts) (next false (reserved w ∷ ts)) ≡ Some d → Splits (spell_flag k) next (reserved w ∷ ts) d
    go true is f = record { value = true; rest = ts; split = ap (λ x. reserved x ∷ ts) (same_true the_type (search rules) w k is); goes_on = f }
    go false is f = record { value = false; rest = reserved w ∷ ts; split = refl; goes_on = f }
flag_splits k next (name n ∷ ts) d e = record { value = false; rest = name n ∷ ts; split = refl; goes_on = e }
flag_splits k next (text x ∷ ts) d e = record { value = false; rest = text x ∷ ts; split = refl; goes_on = e }
flag_splits k next (sign s ∷ ts) d e = record { value = false; rest = sign s ∷ ts; split = refl; goes_on = e }

-- one more part in front
before : {X : Type 0} (spell : List X → List Tok) (next : List X → Onward) (x : X) (t : List Tok) (ts : List Tok) (d : Declaration)
    → ((xs : List X) → spell (x ∷ xs) ≡ t ++ spell xs) → Splits spell (λ xs. next (x ∷ xs)) ts d → Splits spell next (t ++ ts) d
before spell next x t ts d step s = record {
  value = x ∷ s.value;
  rest = s.rest;
  split = ap (λ y. t ++ y) s.split ∙ sym (append_assoc t (spell s.value) s.rest) ∙ ap (λ y. y ++ s.rest) (sym (step s.value));
  goes_on = s.goes_on;
}

names_splits : (next : List (List ℕ) → Onward) (ts : List Tok) (d : Declaration) → names_then next ts ≡ Some d → Splits spell_names next ts d
unfolding names_then
names_splits next [] d e = record { value = []; rest = []; split = refl; goes_on = e }
names_splits next (reserved k ∷ ts) d e = record { value = []; rest = reserved k ∷ ts; split = refl; goes_on = e }
names_splits next (name n ∷ ts) d e = before spell_names next n (name n ∷ []) ts d (λ xs. refl) (names_splits (λ ns. next (n ∷ ns)) ts d e)
names_splits next (text x ∷ ts) d e = record { value = []; rest = text x ∷ ts; split = refl; goes_on = e }
names_splits next (sign s ∷ ts) d e = record { value = []; rest = sign s ∷ ts; split = refl; goes_on = e }

mode_splits : (next : Mode → Onward) (ts : List Tok) (d : Declaration) → mode_then next ts ≡ Some d → Splits (λ m. name (letter_of m) ∷ []) next ts d
unfolding mode_then
mode_splits next [] d e = absurd (cc)
mode_splits next (reserved k ∷ ts) d e = absurd (cc)
mode_splits next (name n ∷ ts) d e = go (mode_of n) refl e
  where
    go : (o : Option Mode) → mode_of n ≡ o → with_mode o (λ m. next m ts) None ≡ Some d → Splits (λ m. name (letter_of m) ∷ []) next (name n ∷ ts) d
    go (Some m) is f = record { value = m; rest = ts; split = ap (λ x. name x ∷ ts) (letter_is n m is); goes_on = f }
    go None is f = absurd (cc)
mode_splits next (text x ∷ ts) d e = absurd (cc)
mode_splits next (sign s ∷ ts) d e = absurd (cc)

more_modes : (next : List Mode → Onward) (n : List ℕ) (m : Mode) (ts : List Tok) (d : Declaration) → mode_of n ≡ Some m
    → Splits spell_modes (λ ms. next (m ∷ ms)) ts d → Splits spell_modes next (name n ∷ ts) d
more_modes next n m ts d is s =
    subst (λ x. Splits spell_modes next (name x ∷ ts) d) (sym (letter_is n m is)) (before spell_modes next m (name (letter_of m) ∷ []) ts d (λ xs. refl) s)

modes_splits : (next : List Mode → Onward) (ts : List Tok) (d : Declaration) → modes_then next ts ≡ Some d → Splits spell_modes next ts d
unfolding modes_then
modes_splits next [] d e = record { value = []; rest = []; split = refl; goes_on = e }
modes_splits next (reserved k ∷ ts) d e = record { value = []; rest = reserved k ∷ ts; split = refl; goes_on = e }
modes_splits next (name n ∷ ts) d e = go (mode_of n) refl (λ m f. modes_splits (λ ms. next (m ∷ ms)) ts d f) e
  where
    go : (o : Option Mode) → mode_of n ≡ o → ((m : Mode) → modes_then (λ ms. next (m ∷ ms)) ts ≡ Some d → Splits spell_modes (λ ms. next (m ∷ ms)) ts d)
        → with_mode o (λ m. modes_then (λ ms. next (m ∷ ms)) ts) (next [] (name n ∷ ts)) ≡ Some d → Splits spell_modes next (name n ∷ ts) d
    go (Some m) is rest f = more_modes next n m ts d is (rest m f)
    go None is rest f = record { value = []; rest = name n ∷ ts; split = refl; goes_on = f }
modes_splits next (text x ∷ ts) d e = record { value = []; rest = text x ∷ ts; split = refl; goes_on = e }
modes_splits next (sign s ∷ ts) d e = record { value = []; rest = sign s ∷ ts; split = refl; goes_on = e }

more_splits : (next : List (List ℕ) → Onward) (ts : List Tok) (d : Declaration) → more_then next ts ≡ Some d → Splits spell_more next ts d
unfolding more_then
more_splits next [] d e = absurd (cc)
more_splits next (reserved k ∷ ts) d e = absurd (cc)
more_splits next (name n ∷ ts) d e = absurd (cc)
more_splits next (text x ∷ ts) d e = absurd (cc)
more_splits next (sign Comma ∷ []) d e = absurd (cc)
more_splits next (sign Comma ∷ reserved k ∷ ts) d e = absurd (cc)
more_splits next (sign Comma ∷ name n ∷ ts) d e = before spell_more next n (sign Comma ∷ name n ∷ []) ts d (λ xs. refl) (more_splits (λ ns. next (n ∷ ns)) ts d e)
more_splits next (sign Comma ∷ text x ∷ ts) d e = absurd (cc)
more_splits next (sign Comma ∷ sign s ∷ ts) d e = absurd (cc)
more_splits next (sign Semicolon ∷ ts) d e = absurd (cc)
more_splits next (sign Open ∷ ts) d e = absurd (cc)
more_splits next (sign Close ∷ ts) d e = record { value = []; rest = ts; split = refl; goes_on = e }

open_splits : (next : List (List ℕ) → Onward) (ts : List Tok) (d : Declaration) → name_then (λ c. more_then (λ cs. next (c ∷ cs))) ts ≡ Some d → Splits spell_categories next (sign Open ∷ ts) d
open_splits next ts d e =
    let n = name_splits (λ c. more_then (λ cs. next (c ∷ cs))) ts d e in
    let m = more_splits (λ cs. next (n.value ∷ cs)) n.rest d n.goes_on in
    record {
      value = n.value ∷ m.value;
      rest = m.rest;
      split = ap (λ x. sign Open ∷ x) n.split ∙ ap (λ x. sign Open ∷ name n.value ∷ x) m.split;
      goes_on = m.goes_on;
    }

categories_splits : (next : List (List ℕ) → Onward) (ts : List Tok) (d : Declaration) → categories_then next ts ≡ Some d → Splits spell_categories next ts d
unfolding categories_then
categories_splits next [] d e = record { value = []; rest = []; split = refl; goes_on = e }
categories_splits next (reserved k ∷ ts) d e = record { value = []; rest = reserved k ∷ ts; split = refl; goes_on = e }
categories_splits next (name n ∷ ts) d e = record { value = []; rest = name n ∷ ts; split = refl; goes_on = e }
categories_splits next (text x ∷ ts) d e = record { value = []; rest = text x ∷ ts; split = refl; goes_on = e }
categories_splits next (sign Comma ∷ ts) d e = record { value = []; rest = sign Comma ∷ ts; split = refl; goes_on = e }
categories_splits next (sign Semicolon ∷ ts) d e = record { value = []; rest = sign Semicolon ∷ ts; split = refl; goes_on = e }
categories_splits next (sign Open ∷ ts) d e = open_splits next ts d e
categories_splits next (sign Close ∷ ts) d e = record { value = []; rest = sign Close ∷ ts; split = refl; goes_on = e }

level_splits : (next : LevelText → Onward) (ts : List Tok) (d : Declaration) → level_then next ts ≡ Some d → Splits spell_level next ts d
unfolding level_then
level_splits next ts d e =
    let r = name_splits (λ r. categories_then (λ cs. next (record { rank = r; categories = cs }))) ts d e in
    let c = categories_splits (λ cs. next (record { rank = r.value; categories = cs })) r.rest d r.goes_on in
    record {
      value = record { rank = r.value; categories = c.value };
      rest = c.rest;
      split = r.split ∙ ap (λ x. name r.value ∷ x) c.split;
      goes_on = c.goes_on;
    }

subject_spelled : (ts : List Tok) (d : Declaration) → subject_then ts ≡ Some d → reserved Subject ∷ ts ≡ spell_declaration d
subject_spelled ts d e =
    let n = name_splits _ ts d e in
    let k = key_splits Greatest _ n.rest d n.goes_on in
    let g = level_splits _ k.0 d k.2 in
    let l = key_splits Current _ g.rest d g.goes_on in
    let c = level_splits _ l.0 d l.2 in
    let t = flag_splits Trusted _ c.rest d c.goes_on in
    let a = flag_splits Admin _ t.rest d t.goes_on in
    let x = ended_splits _ d a.rest a.goes_on in
    let flags : t.rest ≡ spell_flag Admin a.value = a.split ∙ ap (λ y. spell_flag Admin a.value ++ y) x.0 ∙ append-nil (spell_flag Admin a.value) in
    ap (λ y. reserved Subject ∷ y) (n.split ∙ ap (λ y. name n.value ∷ y) (k.1 ∙ ap (λ y. reserved Greatest ∷ y) (g.split ∙ ap (λ y. spell_level g.value ++ y)
    (l.1 ∙ ap (λ y. reserved Current ∷ y) (c.split ∙ ap (λ y. spell_level c.value ++ y) (t.split ∙ ap (λ y. spell_flag Trusted t.value ++ y) flags))))))
    ∙ ap spell_declaration x.1

document_spelled : (ts : List Tok) (d : Declaration) → document_then ts ≡ Some d → reserved Document ∷ ts ≡ spell_declaration d
document_spelled ts d e =
    let n = name_splits _ ts d e in
    let l = level_splits _ n.rest d n.goes_on in
    let t = text_splits _ l.rest d l.goes_on in
    let x = ended_splits _ d t.rest t.goes_on in
    ap (λ y. reserved Document ∷ y) (n.split ∙ ap (λ y. name n.value ∷ y) (l.split ∙ ap (λ y. spell_level l.value ++ y) (t.split ∙ ap (λ y. text t.value ∷ y) x.0)))
    ∙ ap spell_declaration x.1

reserve_spelled : (ts : List Tok) (d : Declaration) → reserve_then ts ≡ Some d → reserved Reserve ∷ ts ≡ spell_declaration d
reserve_spelled ts d e =
    let n = name_splits _ ts d e in
    let l = level_splits _ n.rest d n.goes_on in
    let x = ended_splits _ d l.rest l.goes_on in
    ap (λ y. reserved Reserve ∷ y) (n.split ∙ ap (λ y. name n.value ∷ y) (l.split ∙ ap (λ y. spell_level l.value ++ y) x.0))
    ∙ ap spell_declaration x.1

allow_spelled : (ts : List Tok) (d : Declaration) → allow_then ts ≡ Some d → reserved Allow ∷ ts ≡ spell_declaration d
allow_spelled ts d e =
    let s = name_splits _ ts d e in
    let o = name_splits _ s.rest d s.goes_on in
    let m = mode_splits _ o.rest d o.goes_on in
    let ms = modes_splits _ m.rest d m.goes_on in
    let x = ended_splits _ d ms.rest ms.goes_on in
    ap (λ y. reserved Allow ∷ y) (s.split ∙ ap (λ y. name s.value ∷ y) (o.split ∙ ap (λ y. name o.value ∷ y) (m.split ∙ ap (λ y. name (letter_of m.value) ∷ y)
    (ms.split ∙ ap (λ y. spell_modes ms.value ++ y) x.0 ∙ append-nil (spell_modes ms.value)))))
    ∙ ap spell_declaration x.1

ranks_spelled : (ts : List Tok) (d : Declaration) → ranks_then ts ≡ Some d → reserved Ranks ∷ ts ≡ spell_declaration d
ranks_spelled ts d e =
    let n = name_splits _ ts d e in
    let ns = names_splits _ n.rest d n.goes_on in
    let x = ended_splits _ d ns.rest ns.goes_on in
    ap (λ y. reserved Ranks ∷ y) (n.split ∙ ap (λ y. name n.value ∷ y) (ns.split ∙ ap (λ y. spell_names ns.value ++ y) x.0 ∙ append-nil (spell_names ns.value)))
    ∙ ap spell_declaration x.1

categories_spelled : (ts : List Tok) (d : Declaration) → categories_line_then ts ≡ Some d → reserved Categories ∷ ts ≡ spell_declaration d
categories_spelled ts d e =
    let ns = names_splits _ ts d e in
    let x = ended_splits _ d ns.rest ns.goes_on in
    ap (λ y. reserved Categories ∷ y) (ns.split ∙ ap (λ y. spell_names ns.value ++ y) x.0 ∙ append-nil (spell_names ns.value))
    ∙ ap spell_declaration x.1

word_spelled : (k : Keyword) (ts : List Tok) (d : Declaration) → behind_word k ts ≡ Some d → reserved k ∷ ts ≡ spell_declaration d
word_spelled Ranks ts d e = ranks_spelled ts d e
word_spelled Categories ts d e = categories_spelled ts d e
word_spelled Subject ts d e = subject_spelled ts d e
word_spelled Document ts d e = document_spelled ts d e
word_spelled Reserve ts d e = reserve_spelled ts d e
word_spelled Allow ts d e = allow_spelled ts d e
word_spelled _ ts d e = absurd (cc)

-- what is read as a declaration is spelled as it
pub read_is_spelled : (ts : List Tok) (d : Declaration) → declaration_at ts ≡ Some d → ts ≡ spell_declaration d
read_is_spelled [] d e = absurd (cc)
read_is_spelled (reserved k ∷ ts) d e = word_spelled k ts d e
read_is_spelled (name n ∷ ts) d e = absurd (cc)
read_is_spelled (text x ∷ ts) d e = absurd (cc)
read_is_spelled (sign s ∷ ts) d e = absurd (cc)

-- ---- what is spelled is read

names_pass : (next : List (List ℕ) → Onward) (ns : List (List ℕ)) → names_then next (spell_names ns) ≡ next ns []
unfolding names_then
names_pass next [] = refl
names_pass next (n ∷ ns) = names_pass (λ ms. next (n ∷ ms)) ns

modes_pass : (next : List Mode → Onward) (ms : List Mode) → modes_then next (spell_modes ms) ≡ next ms []
unfolding modes_then
modes_pass next [] = refl
modes_pass next (Read ∷ ms) = modes_pass (λ xs. next (Read ∷ xs)) ms
modes_pass next (Append ∷ ms) = modes_pass (λ xs. next (Append ∷ xs)) ms
modes_pass next (Write ∷ ms) = modes_pass (λ xs. next (Write ∷ xs)) ms

mode_pass : (next : Mode → Onward) (m : Mode) (ts : List Tok) → mode_then next (name (letter_of m) ∷ ts) ≡ next m ts
unfolding mode_then
mode_pass next Read ts = refl
mode_pass next Append ts = refl
mode_pass next Write ts = refl

more_pass : (next : List (List ℕ) → Onward) (cs : List (List ℕ)) (rest : List Tok) → more_then next (spell_more cs ++ rest) ≡ next cs rest
unfolding more_then
more_pass next [] rest = refl
more_pass next (c ∷ cs) rest = more_pass (λ xs. next (c ∷ xs)) cs rest

categories_pass : (next : List (List ℕ) → Onward) (cs : List (List ℕ)) (rest : List Tok) → IsNotAt (sign Open) rest → categories_then next (spell_categories cs ++ rest) ≡ next cs rest
unfolding categories_then name_then
categories_pass next [] rest f = categories_none next rest f
categories_pass next (c ∷ cs) rest f = more_pass (λ xs. next (c ∷ xs)) cs rest

level_pass : (next : LevelText → Onward) (l : LevelText) (rest : List Tok) → IsNotAt (sign Open) rest → level_then next (spell_level l ++ rest) ≡ next l rest
unfolding level_then name_then
level_pass next l rest f = categories_pass (λ cs. next (record { rank = l.rank; categories = cs })) l.categories rest f

flags_pass : (next : Bool → Bool → Declaration) (t a : Bool) → flag_then Trusted (λ t. flag_then Admin (λ a. ended (next t a))) (spell_flag Trusted t ++ spell_flag Admin a) ≡ Some (next t a)
unfolding flag_then ended
flags_pass next true true = refl
flags_pass next true false = refl
flags_pass next false true = refl
flags_pass next false false = refl

flags_not_open : (t a : Bool) → IsNotAt (sign Open) (spell_flag Trusted t ++ spell_flag Admin a)
flags_not_open true true = λ e. cc
flags_not_open true false = λ e. cc
flags_not_open false true = λ e. cc
flags_not_open false false = tt

read_subject : (s : SubjectText) → declaration_at (spell_subject s) ≡ Some (subject s)
read_subject s =
    name_passes _ s.name _ _ refl
    ∙ key_passes Greatest _ _ _ refl
    ∙ level_pass _ s.greatest (reserved Current ∷ (spell_level s.current ++ (spell_flag Trusted s.trusted ++ spell_flag Admin s.admin))) (λ e. cc)
    ∙ key_passes Current _ _ _ refl
    ∙ level_pass _ s.current (spell_flag Trusted s.trusted ++ spell_flag Admin s.admin) (flags_not_open s.trusted s.admin)
    ∙ flags_pass (λ t a. subject (record { name = s.name; greatest = s.greatest; current = s.current; trusted = t; admin = a })) s.trusted s.admin

read_content : (n : List ℕ) (l : LevelText) (content : Option (List ℕ)) → let d : DocumentText = record { name = n; level = l; content = content } in declaration_at (spell_document d) ≡ Some (document d)
read_content n l (Some x) = name_passes _ n _ _ refl ∙ level_pass _ l (text x ∷ []) (λ e. cc) ∙ text_passes _ x _ _ refl ∙ ended_at _ _ refl
read_content n l None = name_passes _ n _ _ refl ∙ level_pass _ l [] tt ∙ ended_at _ _ refl

-- a spelled declaration is read as itself
pub spelled_is_read : (d : Declaration) → declaration_at (spell_declaration d) ≡ Some d
spelled_is_read (ranks lowest higher) = name_passes _ lowest _ _ refl ∙ names_pass _ higher ∙ ended_at _ _ refl
spelled_is_read (categories names) = names_pass _ names ∙ ended_at _ _ refl
spelled_is_read (subject s) = read_subject s
spelled_is_read (document d) = read_content d.name d.level d.content
spelled_is_read (allow a) =
    name_passes _ a.subject _ _ refl ∙ name_passes _ a.document _ _ refl ∙ mode_pass _ a.mode _ ∙ modes_pass _ a.modes ∙ ended_at _ _ refl

-- no two declarations are spelled alike
pub spelled_alike : (d e : Declaration) → spell_declaration d ≡ spell_declaration e → d ≡ e
spelled_alike d e same =
    let p : Some d ≡ Some e = sym (spelled_is_read d) ∙ ap declaration_at same ∙ spelled_is_read e in
    cc
