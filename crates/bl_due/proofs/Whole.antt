-- The tokens of a declaration that is due are those that lead from the start of its section to a point where the line may end.
use Rattle.std.proofs.Common.{◌≡◌, ℕ, Bool, true, false, List, [], ◌∷◌, Option, Some, None, refl, sym, ap, subst, ◌∙◌}
use Rattle.std.specs.Option.{is_some}
use Rattle.std.specs.Prelude.{option_map}
use Rattle.bl_name.specs.declared.token.Keyword.{Keyword}
use Rattle.bl_name.specs.declared.token.Keyword.TheVariants.{Ranks, Categories, Subject, Document, Reserve, Allow}
use Rattle.bl_level.specs.LevelText.{LevelText}
use Rattle.bl_level.specs.Token.{Tok, reserved, name, text, sign}
use Rattle.bl_declare.specs.Declaration.{Declaration, ranks, categories, subject, document, allow, document_word, spell_declaration}
use Rattle.bl_declare.specs.Reading.{declaration_at, behind_word, ranks_then, categories_line_then, subject_then, document_then, reserve_then, allow_then}
use Rattle.bl_declare.proofs.Spelling.{read_is_spelled, spelled_is_read}
use Rattle.bl_due.specs.declared.due.Section.{Section}
use Rattle.bl_due.specs.declared.due.Section.TheVariants as section
use Rattle.bl_due.specs.Due.{IsDueIn, AreWhole}
use Rattle.bl_due.specs.Items.{items_behind, entry_behind}
use Rattle.bl_due.specs.Points.{start, within, reads_from}
use Rattle.bl_due.proofs.Reading.{ranks_alike, categories_line_alike, subject_alike, document_alike, reserve_alike, allow_alike}

-- the tokens lead from the start of the section to a point where the line may end
abbrev pub are_read : Section → List Tok → Bool
are_read s ts = reads_from (Some (start s)) ts

spelled_some : (d : Declaration) (ts : List Tok) → spell_declaration d ≡ ts → is_some (declaration_at ts) ≡ true
spelled_some d ts e = ap (λ us. is_some (declaration_at us)) (sym e) ∙ ap is_some (spelled_is_read d)

document_read : (n : List ℕ) (l : LevelText) (content : Option (List ℕ)) (ts : List Tok)
    → spell_declaration (document (record { name = n; level = l; content = content })) ≡ ts → are_read section.Entries ts ≡ true
document_read n l (Some x) ts e =
    subst (λ us. are_read section.Entries us ≡ true) e
    (sym (document_alike _) ∙ spelled_some (document (record { name = n; level = l; content = Some x })) _ refl)
document_read n l None ts e =
    subst (λ us. are_read section.Entries us ≡ true) e
    (sym (reserve_alike _) ∙ spelled_some (document (record { name = n; level = l; content = None })) _ refl)

pub whole_read : (s : Section) (ts : List Tok) → AreWhole s ts → are_read s ts ≡ true
whole_read section.Ranks ts (ranks lowest higher, due, e) =
    subst (λ us. are_read section.Ranks us ≡ true) e (sym (ranks_alike _) ∙ spelled_some (ranks lowest higher) _ refl)
whole_read section.Ranks ts (categories names, due, e) = absurd due
whole_read section.Ranks ts (subject s, due, e) = absurd due
whole_read section.Ranks ts (document d, due, e) = absurd due
whole_read section.Ranks ts (allow a, due, e) = absurd due
whole_read section.Categories ts (ranks lowest higher, due, e) = absurd due
whole_read section.Categories ts (categories names, due, e) =
    subst (λ us. are_read section.Categories us ≡ true) e (sym (categories_line_alike _) ∙ spelled_some (categories names) _ refl)
whole_read section.Categories ts (subject s, due, e) = absurd due
whole_read section.Categories ts (document d, due, e) = absurd due
whole_read section.Categories ts (allow a, due, e) = absurd due
whole_read section.Entries ts (ranks lowest higher, due, e) = absurd due
whole_read section.Entries ts (categories names, due, e) = absurd due
whole_read section.Entries ts (subject s, due, e) =
    subst (λ us. are_read section.Entries us ≡ true) e (sym (subject_alike _) ∙ spelled_some (subject s) _ refl)
whole_read section.Entries ts (document d, due, e) = document_read d.name d.level d.content ts e
whole_read section.Entries ts (allow a, due, e) =
    subst (λ us. are_read section.Entries us ≡ true) e (sym (allow_alike _) ∙ spelled_some (allow a) _ refl)

-- ---- and the other way round

-- the first word of a declaration
word_of : Declaration → Keyword
word_of (ranks lowest higher) = Ranks
word_of (categories names) = Categories
word_of (subject s) = Subject
word_of (document d) = document_word d.content
word_of (allow a) = Allow

word_is : (d : Declaration) (k : Keyword) (ts : List Tok) → spell_declaration d ≡ reserved k ∷ ts → word_of d ≡ k
unfolding word_of
word_is (ranks lowest higher) k ts e = cc
word_is (categories names) k ts e = cc
word_is (subject s) k ts e = cc
word_is (document d) k ts e = cc
word_is (allow a) k ts e = cc

no_document : (s : Section) (content : Option (List ℕ)) → is_some (items_behind s (document_word content)) ≡ true → (s ≡ section.Entries → ⊥) → ⊥
no_document section.Ranks (Some x) some other = absurd (cc)
no_document section.Ranks None some other = absurd (cc)
no_document section.Categories (Some x) some other = absurd (cc)
no_document section.Categories None some other = absurd (cc)
no_document section.Entries content some other = other refl

-- a declaration is due where its first word is
due_word : (s : Section) (d : Declaration) → is_some (items_behind s (word_of d)) ≡ true → IsDueIn s d
unfolding word_of
due_word section.Ranks (ranks lowest higher) some = tt
due_word section.Ranks (categories names) some = absurd (cc)
due_word section.Ranks (subject s) some = absurd (cc)
due_word section.Ranks (document d) some = absurd (no_document section.Ranks d.content some (λ e. cc))
due_word section.Ranks (allow a) some = absurd (cc)
due_word section.Categories (ranks lowest higher) some = absurd (cc)
due_word section.Categories (categories names) some = tt
due_word section.Categories (subject s) some = absurd (cc)
due_word section.Categories (document d) some = absurd (no_document section.Categories d.content some (λ e. cc))
due_word section.Categories (allow a) some = absurd (cc)
due_word section.Entries (ranks lowest higher) some = absurd (cc)
due_word section.Entries (categories names) some = absurd (cc)
due_word section.Entries (subject s) some = tt
due_word section.Entries (document d) some = tt
due_word section.Entries (allow a) some = tt

some_of : (o : Option Declaration) → is_some o ≡ true → (d : Declaration) × (o ≡ Some d)
some_of (Some d) e = (d, refl)
some_of None e = absurd (cc)

-- what is read behind a word that is due
read_behind : (s : Section) (k : Keyword) (ts : List Tok) → is_some (items_behind s k) ≡ true → is_some (behind_word k ts) ≡ true → AreWhole s (reserved k ∷ ts)
read_behind s k ts some e =
    let d = some_of (behind_word k ts) e in
    let spelled = read_is_spelled (reserved k ∷ ts) d.0 d.1 in
    (d.0, due_word s d.0 (ap (λ w. is_some (items_behind s w)) (word_is d.0 k ts (sym spelled)) ∙ some), sym spelled)

read_entry : (k : Keyword) (ts : List Tok) → reads_from (option_map within (entry_behind k)) ts ≡ true → AreWhole section.Entries (reserved k ∷ ts)
read_entry Subject ts e = read_behind section.Entries Subject ts refl (subject_alike ts ∙ e)
read_entry Document ts e = read_behind section.Entries Document ts refl (document_alike ts ∙ e)
read_entry Reserve ts e = read_behind section.Entries Reserve ts refl (reserve_alike ts ∙ e)
read_entry Allow ts e = read_behind section.Entries Allow ts refl (allow_alike ts ∙ e)
read_entry _ ts e = absurd (cc)

read_ranks : (k : Keyword) (ts : List Tok) → reads_from (option_map within (items_behind section.Ranks k)) ts ≡ true → AreWhole section.Ranks (reserved k ∷ ts)
read_ranks Ranks ts e = read_behind section.Ranks Ranks ts refl (ranks_alike ts ∙ e)
read_ranks _ ts e = absurd (cc)

read_categories : (k : Keyword) (ts : List Tok) → reads_from (option_map within (items_behind section.Categories k)) ts ≡ true → AreWhole section.Categories (reserved k ∷ ts)
read_categories Categories ts e = read_behind section.Categories Categories ts refl (categories_line_alike ts ∙ e)
read_categories _ ts e = absurd (cc)

pub read_whole : (s : Section) (ts : List Tok) → are_read s ts ≡ true → AreWhole s ts
read_whole s [] e = absurd (cc)
read_whole section.Ranks (reserved k ∷ ts) e = read_ranks k ts e
read_whole section.Categories (reserved k ∷ ts) e = read_categories k ts e
read_whole section.Entries (reserved k ∷ ts) e = read_entry k ts e
read_whole s (name n ∷ ts) e = absurd (cc)
read_whole s (text x ∷ ts) e = absurd (cc)
read_whole s (sign r ∷ ts) e = absurd (cc)
