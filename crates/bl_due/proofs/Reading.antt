-- What is read as a declaration behind its first word is what its items take.
use Rattle.std.proofs.Common.{◌≡◌, ℕ, Bool, true, false, cond, List, [], ◌∷◌, Option, Some, None, refl, sym}
use Rattle.std.specs.Option.{is_some}
use denote.Enum.Bare.{sameb}
use Rattle.bl_name.specs.contracts.token.Keyword.{the_type}
use Rattle.bl_name.specs.declared.token.Keyword.{Keyword}
use Rattle.bl_name.specs.declared.token.Keyword.TheVariants.{Ranks, Categories, Subject, Greatest, Current, Trusted, Admin, Document, Reserve, Allow}
use Rattle.bl_name.specs.declared.token.Sign.TheVariants.{Comma, Semicolon, Open, Close}
use Rattle.bl_level.specs.LevelText.{LevelText}
use Rattle.bl_level.specs.Token.{Tok, reserved, name, text, sign}
use Rattle.bl_policy.specs.declared.access.Mode.{Mode}
use Rattle.bl_declare.specs.Declaration.{Declaration, ranks, categories, subject, document, allow}
use Rattle.bl_declare.specs.Reading.{Onward, ended, name_then, text_then, key_then, flag_then, names_then, mode_then, modes_then, more_then, categories_then, level_then, mode_of, with_mode, subject_then, document_then, reserve_then, allow_then, ranks_then, categories_line_then}
use Rattle.bl_due.specs.declared.item.Fit.TheVariants.{Never, LeftOut, Ends, Becomes}
use Rattle.bl_due.specs.declared.item.Item.{Item}
use Rattle.bl_due.specs.declared.item.Item.TheVariants as item
use Rattle.bl_due.specs.Items.{step, onward, behind_ranks, behind_categories, behind_subject, behind_document, behind_reserve, behind_allow}
use Rattle.bl_due.specs.Points.{within, reads_from}
use Rattle.std.specs.Prelude.{option_map}

-- the items take these tokens, up to the line's end
abbrev pub take_all : List Item → List Tok → Bool
take_all items ts = reads_from (Some (within items)) ts

-- reading goes on just where the items take what is left
abbrev pub Alike : Onward → List Item → Type 0
Alike next items = (ts : List Tok) → is_some (next ts) ≡ take_all items ts

pub ended_alike : (d : Declaration) → Alike (ended d) []
unfolding ended
ended_alike d [] = refl
ended_alike d (t ∷ ts) = refl

pub name_alike : (next : List ℕ → Onward) (items : List Item) → ((n : List ℕ) → Alike (next n) items) → Alike (name_then next) (item.Name ∷ items)
unfolding name_then
name_alike next items alike [] = refl
name_alike next items alike (reserved k ∷ ts) = refl
name_alike next items alike (name n ∷ ts) = alike n ts
name_alike next items alike (text x ∷ ts) = refl
name_alike next items alike (sign s ∷ ts) = refl

pub text_alike : (next : List ℕ → Onward) (items : List Item) → ((x : List ℕ) → Alike (next x) items) → Alike (text_then next) (item.Text ∷ items)
unfolding text_then
text_alike next items alike [] = refl
text_alike next items alike (reserved k ∷ ts) = refl
text_alike next items alike (name n ∷ ts) = refl
text_alike next items alike (text x ∷ ts) = alike x ts
text_alike next items alike (sign s ∷ ts) = refl

pub key_alike : (k : Keyword) (next : Onward) (items : List Item) → Alike next items → Alike (key_then k next) (item.Word k ∷ items)
unfolding key_then
key_alike k next items alike [] = refl
key_alike k next items alike (reserved w ∷ ts) = go (sameb the_type w k)
  where
    go : (b : Bool) → is_some (cond b (next ts) None) ≡ reads_from (option_map within (onward (cond b Ends Never) items (step items (reserved w)))) ts
    go true = alike ts
    go false = refl
key_alike k next items alike (name n ∷ ts) = refl
key_alike k next items alike (text x ∷ ts) = refl
key_alike k next items alike (sign s ∷ ts) = refl

pub flag_alike : (k : Keyword) (next : Bool → Onward) (items : List Item) → ((b : Bool) → Alike (next b) items) → Alike (flag_then k next) (item.MaybeWord k ∷ items)
unfolding flag_then
flag_alike k next items alike [] = alike false []
flag_alike k next items alike (reserved w ∷ ts) = go (sameb the_type w k)
  where
    go : (b : Bool) → is_some (cond b (next true ts) (next false (reserved w ∷ ts))) ≡ reads_from (option_map within (onward (cond b Ends LeftOut) items (step items (reserved w)))) ts
    go true = alike true ts
    go false = alike false (reserved w ∷ ts)
flag_alike k next items alike (name n ∷ ts) = alike false (name n ∷ ts)
flag_alike k next items alike (text x ∷ ts) = alike false (text x ∷ ts)
flag_alike k next items alike (sign s ∷ ts) = alike false (sign s ∷ ts)

pub names_alike : (made : List (List ℕ) → Declaration) (items : List Item) → Alike (names_then (λ ns. ended (made ns))) (item.Names ∷ items)
unfolding names_then ended
names_alike made items [] = refl
names_alike made items (reserved k ∷ ts) = refl
names_alike made items (name n ∷ ts) = names_alike (λ ns. made (n ∷ ns)) items ts
names_alike made items (text x ∷ ts) = refl
names_alike made items (sign s ∷ ts) = refl

pub mode_alike : (next : Mode → Onward) (items : List Item) → ((m : Mode) → Alike (next m) items) → Alike (mode_then next) (item.Letter ∷ items)
unfolding mode_then
mode_alike next items alike [] = refl
mode_alike next items alike (reserved k ∷ ts) = refl
mode_alike next items alike (name n ∷ ts) = go (mode_of n)
  where
    go : (o : Option Mode) → is_some (with_mode o (λ m. next m ts) None) ≡ reads_from (option_map within (onward (cond (is_some o) Ends Never) items (step items (name n)))) ts
    go (Some m) = alike m ts
    go None = refl
mode_alike next items alike (text x ∷ ts) = refl
mode_alike next items alike (sign s ∷ ts) = refl

pub modes_alike : (made : List Mode → Declaration) (items : List Item) → Alike (modes_then (λ ms. ended (made ms))) (item.Letters ∷ items)
unfolding modes_then ended
modes_alike made items [] = refl
modes_alike made items (reserved k ∷ ts) = refl
modes_alike made items (name n ∷ ts) = go (mode_of n) (λ m. modes_alike (λ ms. made (m ∷ ms)) items ts)
  where
    go : (o : Option Mode) → ((m : Mode) → is_some (modes_then (λ ms. ended (made (m ∷ ms))) ts) ≡ take_all (item.Letters ∷ items) ts)
        → is_some (with_mode o (λ m. modes_then (λ ms. ended (made (m ∷ ms))) ts) None)
        ≡ reads_from (option_map within (onward (cond (is_some o) (Becomes item.Letters) Never) items (step items (name n)))) ts
    go (Some m) more = more m
    go None more = refl
modes_alike made items (text x ∷ ts) = refl
modes_alike made items (sign s ∷ ts) = refl

pub more_alike : (next : List (List ℕ) → Onward) (items : List Item) → ((cs : List (List ℕ)) → Alike (next cs) items) → Alike (more_then next) (item.More ∷ items)
unfolding more_then
more_alike next items alike [] = refl
more_alike next items alike (reserved k ∷ ts) = refl
more_alike next items alike (name n ∷ ts) = refl
more_alike next items alike (text x ∷ ts) = refl
more_alike next items alike (sign Comma ∷ []) = refl
more_alike next items alike (sign Comma ∷ reserved k ∷ ts) = refl
more_alike next items alike (sign Comma ∷ name n ∷ ts) = more_alike (λ cs. next (n ∷ cs)) items (λ cs. alike (n ∷ cs)) ts
more_alike next items alike (sign Comma ∷ text x ∷ ts) = refl
more_alike next items alike (sign Comma ∷ sign s ∷ ts) = refl
more_alike next items alike (sign Semicolon ∷ ts) = refl
more_alike next items alike (sign Open ∷ ts) = refl
more_alike next items alike (sign Close ∷ ts) = alike [] ts

category_alike : (next : List (List ℕ) → Onward) (items : List Item) → ((cs : List (List ℕ)) → Alike (next cs) items)
    → Alike (name_then (λ c. more_then (λ cs. next (c ∷ cs)))) (item.Category ∷ items)
unfolding name_then
category_alike next items alike [] = refl
category_alike next items alike (reserved k ∷ ts) = refl
category_alike next items alike (name n ∷ ts) = more_alike (λ cs. next (n ∷ cs)) items (λ cs. alike (n ∷ cs)) ts
category_alike next items alike (text x ∷ ts) = refl
category_alike next items alike (sign s ∷ ts) = refl

pub categories_alike : (next : List (List ℕ) → Onward) (items : List Item) → ((cs : List (List ℕ)) → Alike (next cs) items)
    → Alike (categories_then next) (item.Categories ∷ items)
unfolding categories_then
categories_alike next items alike [] = alike [] []
categories_alike next items alike (reserved k ∷ ts) = alike [] (reserved k ∷ ts)
categories_alike next items alike (name n ∷ ts) = alike [] (name n ∷ ts)
categories_alike next items alike (text x ∷ ts) = alike [] (text x ∷ ts)
categories_alike next items alike (sign Comma ∷ ts) = alike [] (sign Comma ∷ ts)
categories_alike next items alike (sign Semicolon ∷ ts) = alike [] (sign Semicolon ∷ ts)
categories_alike next items alike (sign Open ∷ ts) = category_alike next items alike ts
categories_alike next items alike (sign Close ∷ ts) = alike [] (sign Close ∷ ts)

pub level_alike : (next : LevelText → Onward) (items : List Item) → ((l : LevelText) → Alike (next l) items) → Alike (level_then next) (item.Name ∷ item.Categories ∷ items)
unfolding level_then
level_alike next items alike =
    name_alike (λ r. categories_then (λ cs. next (record { rank = r; categories = cs }))) (item.Categories ∷ items)
    (λ r. categories_alike (λ cs. next (record { rank = r; categories = cs })) items (λ cs. alike (record { rank = r; categories = cs })))

pub ranks_alike : Alike ranks_then behind_ranks
ranks_alike = name_alike (λ n. names_then (λ ns. ended (ranks n ns))) (item.Names ∷ []) (λ n. names_alike (ranks n) [])

pub categories_line_alike : Alike categories_line_then behind_categories
categories_line_alike = names_alike categories []

pub subject_alike : Alike subject_then behind_subject
subject_alike =
    name_alike _ _ (λ n. key_alike Greatest _ _ (level_alike _ _ (λ g. key_alike Current _ _ (level_alike _ _ (λ c.
    flag_alike Trusted _ _ (λ t. flag_alike Admin _ _ (λ a.
    ended_alike (subject (record { name = n; greatest = g; current = c; trusted = t; admin = a })))))))))

pub document_alike : Alike document_then behind_document
document_alike =
    name_alike _ _ (λ n. level_alike _ _ (λ l. text_alike _ _ (λ x. ended_alike (document (record { name = n; level = l; content = Some x })))))

pub reserve_alike : Alike reserve_then behind_reserve
reserve_alike = name_alike _ _ (λ n. level_alike _ _ (λ l. ended_alike (document (record { name = n; level = l; content = None }))))

pub allow_alike : Alike allow_then behind_allow
allow_alike =
    name_alike _ _ (λ s. name_alike _ _ (λ d. mode_alike _ _ (λ m. modes_alike (λ ms. allow (record { subject = s; document = d; mode = m; modes = ms })) [])))
