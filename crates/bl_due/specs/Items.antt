-- The items that declarations are made of behind their first word, and which tokens they take. The walk over a line is proved
-- against this; what is said of its answer does not speak of it.
use Rattle.std.specs.Prelude.{Bool, true, false, ◌&&◌, ◌||◌, if◌then◌else◌, List, [], ◌∷◌, ◌++◌, Option, Some, None, option_map}
use Rattle.std.specs.Borrow.{Bor}
use Rattle.bl_name.specs.declared.token.Keyword.{Keyword}
use Rattle.bl_name.specs.declared.token.Keyword.TheVariants.{Ranks, Categories, Subject, Greatest, Current, Trusted, Admin, Document, Reserve, Allow}
use Rattle.bl_name.specs.declared.token.Sign.TheVariants.{Comma, Open, Close}
use Rattle.bl_level.specs.Token.{Tok}
use Rattle.bl_due.specs.declared.due.Due.{Due}
use Rattle.bl_due.specs.declared.due.Due.TheVariants as due
use Rattle.bl_due.specs.declared.due.Section.{Section}
use Rattle.bl_due.specs.declared.due.Section.TheVariants as section
use Rattle.bl_due.specs.declared.item.Fit.{Fit}
use Rattle.bl_due.specs.declared.item.Fit.TheVariants.{Never, LeftOut, Ends, Becomes}
use Rattle.bl_due.specs.declared.item.Item.{Item}
use Rattle.bl_due.specs.declared.item.Item.TheVariants as item
use Rattle.bl_due.specs.declared.left.Left.{Left}
use Rattle.bl_due.specs.Due.{is_word, is_name, is_letter, is_text, is_sign}

-- one of two fits
abbrev pub choose : Bool → Fit → Fit → Fit
choose test one other = if test then one else other

-- a comma comes before a further category, and the brace closes
abbrev pub fit_more : Tok → Fit
fit_more t = choose (is_sign Comma t) (Becomes item.Category) (choose (is_sign Close t) Ends Never)

-- how an item takes a token
abbrev pub fit : Item → Tok → Fit
fit (item.Word word) t = choose (is_word word t) Ends Never
fit (item.MaybeWord word) t = choose (is_word word t) Ends LeftOut
fit item.Name t = choose (is_name t) Ends Never
fit item.Names t = choose (is_name t) (Becomes item.Names) Never
fit item.Letter t = choose (is_letter t) Ends Never
fit item.Letters t = choose (is_letter t) (Becomes item.Letters) Never
fit item.Text t = choose (is_text t) Ends Never
fit item.Categories t = choose (is_sign Open t) (Becomes item.Category) LeftOut
fit item.Category t = choose (is_name t) (Becomes item.More) Never
fit item.More t = fit_more t

-- the item may be left out
abbrev pub may_be_left : Item → Bool
may_be_left (item.MaybeWord word) = true
may_be_left item.Categories = true
may_be_left _ = false

-- the line may end within the item
abbrev pub runs_on : Item → Bool
runs_on item.Names = true
runs_on item.Letters = true
runs_on _ = false

-- what the item begins with
abbrev pub first_due : Item → Due
first_due (item.Word word) = due.Word word
first_due (item.MaybeWord word) = due.Word word
first_due item.Name = due.Name
first_due item.Names = due.Name
first_due item.Letter = due.Letter
first_due item.Letters = due.Letter
first_due item.Text = due.Text
first_due item.Categories = due.Sign Open
first_due item.Category = due.Name
first_due item.More = due.Sign Comma

-- what else may stand in its place, apart from the next item
abbrev pub further_due : Item → Option Due
further_due item.Names = Some due.End
further_due item.Letters = Some due.End
further_due item.More = Some (due.Sign Close)
further_due _ = None

-- what is there, as a list
abbrev pub listed : {X : Type 0} → Option X → List X
listed None = []
listed (Some x) = x ∷ []

-- what is due where these items are left
abbrev pub due_of : List Item → List Due
due_of [] = due.End ∷ []
due_of (i ∷ items) = first_due i ∷ (listed (further_due i) ++ (if may_be_left i then due_of items else []))

-- the line may end where these items are left
abbrev pub may_end : List Item → Bool
may_end [] = true
may_end (i ∷ items) = runs_on i || (may_be_left i && may_end items)

-- what is left behind a token, by how the first item takes it
abbrev pub onward : Fit → List Item → Option (List Item) → Option (List Item)
onward Never items others = None
onward LeftOut items others = others
onward Ends items others = Some items
onward (Becomes next) items others = Some (next ∷ items)

-- what is left of items behind a token; none, where it may not stand there
abbrev pub step : List Item → Tok → Option (List Item)
step [] t = None
step (i ∷ items) t = onward (fit i t) items (step items t)

abbrev pub behind_ranks : List Item
behind_ranks = item.Name ∷ item.Names ∷ []

abbrev pub behind_categories : List Item
behind_categories = item.Names ∷ []

abbrev pub behind_subject : List Item
behind_subject =
    item.Name ∷ item.Word Greatest ∷ item.Name ∷ item.Categories ∷ item.Word Current ∷ item.Name ∷ item.Categories
    ∷ item.MaybeWord Trusted ∷ item.MaybeWord Admin ∷ []

abbrev pub behind_document : List Item
behind_document = item.Name ∷ item.Name ∷ item.Categories ∷ item.Text ∷ []

abbrev pub behind_reserve : List Item
behind_reserve = item.Name ∷ item.Name ∷ item.Categories ∷ []

abbrev pub behind_allow : List Item
behind_allow = item.Name ∷ item.Name ∷ item.Letter ∷ item.Letters ∷ []

-- the items of an entry behind its first word
abbrev pub entry_behind : Keyword → Option (List Item)
entry_behind Subject = Some behind_subject
entry_behind Document = Some behind_document
entry_behind Reserve = Some behind_reserve
entry_behind Allow = Some behind_allow
entry_behind _ = None

-- the items of a declaration that is due, behind its first word
abbrev pub items_behind : Section → Keyword → Option (List Item)
items_behind section.Ranks Ranks = Some behind_ranks
items_behind section.Categories Categories = Some behind_categories
items_behind section.Entries word = entry_behind word
items_behind _ _ = None

-- the items that a value of the code stands for
abbrev pub items_of : Left → List Item
items_of l = listed l.head ++ l.rest.now

abbrev pub behind_of : Option Left → Option (List Item)
behind_of = option_map items_of

abbrev pub form : Option (Bor (List Item)) → Option (List Item)
form = option_map (λ items. items.now)
