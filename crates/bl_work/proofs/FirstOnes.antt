-- The first of a list without a property is one, and where all have it there is none.
use Rattle.std.proofs.Common.{◌≡◌, List, [], ◌∷◌, ◌++◌, sym, subst, ◌∙◌}
use Rattle.std.specs.Prelude.{All}
use Rattle.std.proofs.lemmas.List.Elements.{All-head, All-tail}
use Rattle.bl_work.specs.First.{IsFirstWithout}

all_at : {X : Type 0} (P : X → Type 0) (before after : List X) (x : X) → All P (before ++ x ∷ after) → P x
all_at P [] after x all = All-head P x after all
all_at P (b ∷ before) after x all = all_at P before after x (All-tail P b (before ++ x ∷ after) all)

first_one : {X : Type 0} (P : X → Type 0) (before before' after after' : List X) (x y : X) → before ++ x ∷ after ≡ before' ++ y ∷ after'
    → All P before → All P before' → (P x → ⊥) → (P y → ⊥) → x ≡ y
first_one P [] [] after after' x y e p q f g = cc
first_one P [] (b ∷ before') after after' x y e p q f g =
    let same : b ≡ x = cc in
    absurd (f (subst P same (All-head P b before' q)))
first_one P (a ∷ before) [] after after' x y e p q f g =
    let same : a ≡ y = cc in
    absurd (g (subst P same (All-head P a before p)))
first_one P (a ∷ before) (b ∷ before') after after' x y e p q f g =
    let rest : before ++ x ∷ after ≡ before' ++ y ∷ after' = cc in
    first_one P before before' after after' x y rest (All-tail P a before p) (All-tail P b before' q) f g

pub one_first : {X : Type 0} (P : X → Type 0) (xs : List X) (x y : X) → IsFirstWithout P xs x → IsFirstWithout P xs y → x ≡ y
one_first P xs x y a b = first_one P a.before b.before a.after b.after x y (sym a.split ∙ b.split) a.holds b.holds a.fails b.fails

pub none_first : {X : Type 0} (P : X → Type 0) (xs : List X) (x : X) → All P xs → IsFirstWithout P xs x → ⊥
none_first P xs x all a = a.fails (all_at P a.before a.after x (subst (All P) a.split all))
