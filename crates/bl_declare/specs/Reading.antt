-- How the tokens of a line are read from the left: each part is read, and then what stands behind it. The parser is proved
-- against this; the file's grammar does not speak of it.
use Rattle.std.specs.Prelude.{ℕ, Bool, true, false, if◌then◌else◌, List, [], ◌∷◌, Option, Some, None}
use denote.Enum.Bare.{sameb}
use Rattle.bl_name.specs.contracts.token.Keyword.{the_type}
use Rattle.bl_name.specs.declared.token.Keyword.{Keyword}
use Rattle.bl_name.specs.declared.token.Keyword.TheVariants.{Ranks, Categories, Subject, Greatest, Current, Trusted, Admin, Document, Reserve, Allow}
use Rattle.bl_name.specs.declared.token.Sign.TheVariants.{Comma, Open, Close}
use Rattle.bl_level.specs.Token.{Tok, reserved, name, text, sign}
use Rattle.bl_level.specs.LevelText.{LevelText}
use Rattle.bl_policy.specs.declared.access.Mode.{Mode}
pub use Rattle.bl_work.specs.Letters.{mode_of}
use Rattle.bl_declare.specs.Declaration.{Declaration, ranks, categories, subject, document, allow}

-- what tokens are read as, if anything
abbrev pub Onward : Type 0
Onward = List Tok → Option Declaration

-- nothing is left
unfoldable pub ended : Declaration → Onward
ended d [] = Some d
ended d (t ∷ ts) = None

-- a name
unfoldable pub name_then : (List ℕ → Onward) → Onward
name_then next (name n ∷ ts) = next n ts
name_then next _ = None

-- a text
unfoldable pub text_then : (List ℕ → Onward) → Onward
text_then next (text x ∷ ts) = next x ts
text_then next _ = None

-- a word
unfoldable pub key_then : Keyword → Onward → Onward
key_then k next (reserved w ∷ ts) = if sameb the_type w k then next ts else None
key_then k next _ = None

-- a word, or not
unfoldable pub flag_then : Keyword → (Bool → Onward) → Onward
flag_then k next (reserved w ∷ ts) = if sameb the_type w k then next true ts else next false (reserved w ∷ ts)
flag_then k next ts = next false ts

-- as many names as there are
unfoldable pub names_then : (List (List ℕ) → Onward) → Onward
names_then next (name n ∷ ts) = names_then (λ ns. next (n ∷ ns)) ts
names_then next ts = next [] ts

abbrev pub with_mode : Option Mode → (Mode → Option Declaration) → Option Declaration → Option Declaration
with_mode (Some m) next otherwise = next m
with_mode None next otherwise = otherwise

-- a letter
unfoldable pub mode_then : (Mode → Onward) → Onward
mode_then next (name n ∷ ts) = with_mode (mode_of n) (λ m. next m ts) None
mode_then next _ = None

-- as many letters as there are
unfoldable pub modes_then : (List Mode → Onward) → Onward
modes_then next (name n ∷ ts) = with_mode (mode_of n) (λ m. modes_then (λ ms. next (m ∷ ms)) ts) (next [] (name n ∷ ts))
modes_then next ts = next [] ts

-- further categories, and the closing brace
unfoldable pub more_then : (List (List ℕ) → Onward) → Onward
more_then next (sign Close ∷ ts) = next [] ts
more_then next (sign Comma ∷ name c ∷ ts) = more_then (λ cs. next (c ∷ cs)) ts
more_then next _ = None

-- categories in braces, or none
unfoldable pub categories_then : (List (List ℕ) → Onward) → Onward
categories_then next (sign Open ∷ ts) = name_then (λ c. more_then (λ cs. next (c ∷ cs))) ts
categories_then next ts = next [] ts

unfoldable pub level_then : (LevelText → Onward) → Onward
level_then next = name_then (λ r. categories_then (λ cs. next (record { rank = r; categories = cs })))

abbrev pub subject_then : Onward
subject_then =
    name_then (λ n. key_then Greatest (level_then (λ g. key_then Current (level_then (λ c.
    flag_then Trusted (λ t. flag_then Admin (λ a.
    ended (subject (record { name = n; greatest = g; current = c; trusted = t; admin = a })))))))))

abbrev pub document_then : Onward
document_then = name_then (λ n. level_then (λ l. text_then (λ x. ended (document (record { name = n; level = l; content = Some x })))))

abbrev pub reserve_then : Onward
reserve_then = name_then (λ n. level_then (λ l. ended (document (record { name = n; level = l; content = None }))))

abbrev pub allow_then : Onward
allow_then =
    name_then (λ s. name_then (λ d. mode_then (λ m. modes_then (λ ms.
    ended (allow (record { subject = s; document = d; mode = m; modes = ms }))))))

abbrev pub ranks_then : Onward
ranks_then = name_then (λ n. names_then (λ ns. ended (ranks n ns)))

abbrev pub categories_line_then : Onward
categories_line_then = names_then (λ ns. ended (categories ns))

-- a declaration behind its first word
abbrev pub behind_word : Keyword → Onward
behind_word Ranks ts = ranks_then ts
behind_word Categories ts = categories_line_then ts
behind_word Subject ts = subject_then ts
behind_word Document ts = document_then ts
behind_word Reserve ts = reserve_then ts
behind_word Allow ts = allow_then ts
behind_word _ ts = None

abbrev pub declaration_at : Onward
declaration_at (reserved k ∷ ts) = behind_word k ts
declaration_at _ = None
