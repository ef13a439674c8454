-- What a list of items makes of a token, and what is due of it.
use Rattle.std.proofs.Common.{◌≡◌, Bool, true, false, cond, ◌||◌, ◌++◌, List, [], ◌∷◌, Option, Some, None, refl, sym, ap, ◌∙◌}
use Rattle.std.specs.Option.{is_some}
use Rattle.bl_level.specs.Token.{Tok}
use Rattle.bl_name.specs.declared.token.Sign.TheVariants.{Comma, Open, Close}
use Rattle.bl_due.specs.declared.item.Fit.TheVariants.{Never, LeftOut, Ends, Becomes}
use Rattle.bl_due.specs.declared.item.Item.{Item}
use Rattle.bl_due.specs.declared.item.Item.TheVariants as item
use Rattle.bl_due.specs.Due.{is_allowed, is_word, is_name, is_letter, is_text, is_sign}
use Rattle.bl_due.specs.Items.{step, due_of, fit, onward}

-- a test, and nothing behind it
alone : (b : Bool) → (b || false) ≡ b
alone true = refl
alone false = refl

-- where items are left, just those tokens may stand there that what is due allows
pub steps_are_due : (items : List Item) (t : Tok) → is_some (step items t) ≡ is_allowed (due_of items) t
steps_are_due [] t = refl
steps_are_due (item.Word word ∷ items) t = go (is_word word t)
  where
    go : (b : Bool) → is_some (onward (cond b Ends Never) items (step items t)) ≡ (b || false)
    go true = refl
    go false = refl
steps_are_due (item.MaybeWord word ∷ items) t = go (is_word word t) (steps_are_due items t)
  where
    go : (b : Bool) → is_some (step items t) ≡ is_allowed (due_of items) t → is_some (onward (cond b Ends LeftOut) items (step items t)) ≡ (b || is_allowed (due_of items) t)
    go true more = refl
    go false more = more
steps_are_due (item.Name ∷ items) t = go (is_name t)
  where
    go : (b : Bool) → is_some (onward (cond b Ends Never) items (step items t)) ≡ (b || false)
    go true = refl
    go false = refl
steps_are_due (item.Names ∷ items) t = go (is_name t)
  where
    go : (b : Bool) → is_some (onward (cond b (Becomes item.Names) Never) items (step items t)) ≡ (b || (false || false))
    go true = refl
    go false = refl
steps_are_due (item.Letter ∷ items) t = go (is_letter t)
  where
    go : (b : Bool) → is_some (onward (cond b Ends Never) items (step items t)) ≡ (b || false)
    go true = refl
    go false = refl
steps_are_due (item.Letters ∷ items) t = go (is_letter t)
  where
    go : (b : Bool) → is_some (onward (cond b (Becomes item.Letters) Never) items (step items t)) ≡ (b || (false || false))
    go true = refl
    go false = refl
steps_are_due (item.Text ∷ items) t = go (is_text t)
  where
    go : (b : Bool) → is_some (onward (cond b Ends Never) items (step items t)) ≡ (b || false)
    go true = refl
    go false = refl
steps_are_due (item.Categories ∷ items) t = go (is_sign Open t) (steps_are_due items t)
  where
    go : (b : Bool) → is_some (step items t) ≡ is_allowed (due_of items) t
        → is_some (onward (cond b (Becomes item.Category) LeftOut) items (step items t)) ≡ (b || is_allowed (due_of items) t)
    go true more = refl
    go false more = more
steps_are_due (item.Category ∷ items) t = go (is_name t)
  where
    go : (b : Bool) → is_some (onward (cond b (Becomes item.More) Never) items (step items t)) ≡ (b || false)
    go true = refl
    go false = refl
steps_are_due (item.More ∷ items) t = go (is_sign Comma t) (is_sign Close t)
  where
    go : (a b : Bool) → is_some (onward (cond a (Becomes item.Category) (cond b Ends Never)) items (step items t)) ≡ (a || (b || false))
    go true b = refl
    go false true = refl
    go false false = refl
