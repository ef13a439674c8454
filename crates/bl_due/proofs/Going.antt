-- From each point some tokens lead on to an end, and what is due there is what may come.
use Rattle.std.proofs.Common.{◌≡◌, Bool, true, false, List, [], ◌∷◌, Option, Some, None, refl, ◌∙◌}
use Rattle.std.specs.Option.{is_some}
use Rattle.std.specs.Prelude.{option_map}
use denote.Enum.Bare.{sameb, true_same}
use Rattle.bl_name.specs.contracts.token.Keyword.{the_type}
use Rattle.bl_name.specs.declared.token.Keyword.{Keyword}
use Rattle.bl_name.specs.declared.token.Keyword.TheVariants as word
use Rattle.bl_name.specs.declared.token.Sign.TheVariants.{Open, Close}
use Rattle.bl_level.specs.Token.{Tok, reserved, name, text, sign}
use Rattle.bl_due.specs.declared.due.Section.{Section}
use Rattle.bl_due.specs.declared.due.Section.TheVariants as section
use Rattle.bl_due.specs.declared.item.Fit.{Fit}
use Rattle.bl_due.specs.declared.item.Fit.TheVariants.{Never, LeftOut, Ends}
use Rattle.bl_due.specs.declared.item.Item.{Item}
use Rattle.bl_due.specs.declared.item.Item.TheVariants as item
use Rattle.bl_due.specs.Due.{is_allowed, has_end}
use Rattle.bl_due.specs.Items.{step, choose, onward, due_of, may_end}
use Rattle.bl_due.specs.Points.{Point, start, within, next, may_stop, due_at, reads_from}
use Rattle.bl_due.proofs.Fits.{steps_are_due}

word_itself : (k : Keyword) → sameb the_type k k ≡ true
word_itself k = true_same the_type k k refl

-- a shortest way to the line's end
completion : List Item → List Tok
completion [] = []
completion (item.Word k ∷ items) = reserved k ∷ completion items
completion (item.MaybeWord k ∷ items) = reserved k ∷ completion items
completion (item.Name ∷ items) = name [] ∷ completion items
completion (item.Names ∷ items) = []
completion (item.Letter ∷ items) = name (114 ∷ []) ∷ completion items
completion (item.Letters ∷ items) = []
completion (item.Text ∷ items) = text [] ∷ completion items
completion (item.Categories ∷ items) = sign Open ∷ name [] ∷ sign Close ∷ completion items
completion (item.Category ∷ items) = name [] ∷ sign Close ∷ completion items
completion (item.More ∷ items) = sign Close ∷ completion items

-- the word is there, and the rest leads on
word_first : (k : Keyword) (items : List Item) (other : Fit) (ts : List Tok) (b : Bool) → b ≡ true → reads_from (Some (within items)) ts ≡ true
    → reads_from (option_map within (onward (choose b Ends other) items (step items (reserved k)))) ts ≡ true
word_first k items other ts true e more = more
word_first k items other ts false e more = absurd (cc)

completes : (items : List Item) → reads_from (Some (within items)) (completion items) ≡ true
unfolding completion
completes [] = refl
completes (item.Word k ∷ items) = word_first k items Never (completion items) (sameb the_type k k) (word_itself k) (completes items)
completes (item.MaybeWord k ∷ items) = word_first k items LeftOut (completion items) (sameb the_type k k) (word_itself k) (completes items)
completes (item.Name ∷ items) = completes items
completes (item.Names ∷ items) = refl
completes (item.Letter ∷ items) = completes items
completes (item.Letters ∷ items) = refl
completes (item.Text ∷ items) = completes items
completes (item.Categories ∷ items) = completes items
completes (item.Category ∷ items) = completes items
completes (item.More ∷ items) = completes items

-- some tokens lead from the point to an end
pub leads_on : (p : Point) → (more : List Tok) × (reads_from (Some p) more ≡ true)
leads_on (start section.Ranks) = (reserved word.Ranks ∷ name [] ∷ [], refl)
leads_on (start section.Categories) = (reserved word.Categories ∷ [], refl)
leads_on (start section.Entries) = (reserved word.Reserve ∷ name [] ∷ name [] ∷ [], refl)
leads_on (within items) = (completion items, completes items)

-- ---- what is due

word_cases : (s : Section) (k : Keyword) → is_some (next (start s) (reserved k)) ≡ is_allowed (due_at (start s)) (reserved k)
word_cases section.Ranks word.Ranks = refl
word_cases section.Ranks _ = refl
word_cases section.Categories word.Categories = refl
word_cases section.Categories _ = refl
word_cases section.Entries word.Subject = refl
word_cases section.Entries word.Document = refl
word_cases section.Entries word.Reserve = refl
word_cases section.Entries word.Allow = refl
word_cases section.Entries _ = refl

mapped_some : (o : Option (List Item)) → is_some (option_map within o) ≡ is_some o
mapped_some (Some x) = refl
mapped_some None = refl

start_other : (s : Section) (t : Tok) → ((k : Keyword) → t ≡ reserved k → ⊥) → is_some (next (start s) t) ≡ is_allowed (due_at (start s)) t
start_other s (reserved k) other = absurd (other k refl)
start_other section.Ranks (name n) other = refl
start_other section.Ranks (text n) other = refl
start_other section.Ranks (sign n) other = refl
start_other section.Categories (name n) other = refl
start_other section.Categories (text n) other = refl
start_other section.Categories (sign n) other = refl
start_other section.Entries (name n) other = refl
start_other section.Entries (text n) other = refl
start_other section.Entries (sign n) other = refl

-- just those tokens may come that what is due allows
pub next_is_due : (p : Point) (t : Tok) → is_some (next p t) ≡ is_allowed (due_at p) t
next_is_due (start s) (reserved k) = word_cases s k
next_is_due (start s) (name n) = start_other s (name n) (λ k e. cc)
next_is_due (start s) (text x) = start_other s (text x) (λ k e. cc)
next_is_due (start s) (sign r) = start_other s (sign r) (λ k e. cc)
next_is_due (within items) t = mapped_some (step items t) ∙ steps_are_due items t

items_end : (items : List Item) → may_end items ≡ has_end (due_of items)
items_end [] = refl
items_end (item.Word k ∷ items) = refl
items_end (item.MaybeWord k ∷ items) = items_end items
items_end (item.Name ∷ items) = refl
items_end (item.Names ∷ items) = refl
items_end (item.Letter ∷ items) = refl
items_end (item.Letters ∷ items) = refl
items_end (item.Text ∷ items) = refl
items_end (item.Categories ∷ items) = items_end items
items_end (item.Category ∷ items) = refl
items_end (item.More ∷ items) = refl

-- the line may end just where its end is due
pub end_is_due : (p : Point) → may_stop p ≡ has_end (due_at p)
end_is_due (start section.Ranks) = refl
end_is_due (start section.Categories) = refl
end_is_due (start section.Entries) = refl
end_is_due (within items) = items_end items
