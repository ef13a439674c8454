-- How the changes of a run are undone.
use Rattle.std.proofs.Common.{◌≡◌, ℕ, zero, suc, ◌<◌, ◌≤◌, List, [], ◌∷◌, ◌++◌, length, set, take, refl, sym, ◌∙◌, ap, subst}
use Rattle.std.specs.Prelude.{All}
use Rattle.std.proofs.Math.Seq.{take-append_seam}
use Rattle.std.proofs.lemmas.List.{take-take, length-set, set-get_or, get_or-set_same}
use Rattle.std.proofs.lemmas.List.Elements.{All-nil, All-cons, All-append, All-head, All-tail}
use Rattle.bl_work.specs.Content.{most_bytes, added}
use Rattle.bl_monitor.specs.declared.run.Run.{Run}
use Rattle.bl_monitor.specs.declared.run.Undo.{Undo}
use Rattle.bl_monitor.specs.declared.run.Undo.TheVariants.{Cut, Put}
use Rattle.bl_monitor.specs.Undoing.{content_listed, without, undone, IsOf}
use Rattle.bl_monitor.specs.Running.{LeadsBack}

-- the last change goes first
pub undone-last : (now : List (List ℕ)) (undos : List Undo) (u : Undo) → undone now (undos ++ u ∷ []) ≡ undone (without u now) undos
undone-last now [] u = refl
undone-last now (x ∷ undos) u = ap (without x) (undone-last now undos u)

-- what holds of all changes holds of the last and of those before it
pub all-last : (P : Undo → Type 0) (undos : List Undo) (u : Undo) → All P (undos ++ u ∷ []) → P u
all-last P [] u all = All-head P u [] all
all-last P (x ∷ undos) u all = all-last P undos u (All-tail P x (undos ++ u ∷ []) all)

pub all-before : (P : Undo → Type 0) (undos : List Undo) (u : Undo) → All P (undos ++ u ∷ []) → All P undos
all-before P [] u all = All-nil P
all-before P (x ∷ undos) u all = All-cons P x undos (All-head P x (undos ++ u ∷ []) all) (all-before P undos u (All-tail P x (undos ++ u ∷ []) all))

-- nothing is changed
pub kept_back : (before now : List (List ℕ)) (old new : Run) → now ≡ before → new.undos.items ≡ old.undos.items → LeadsBack before old now new
kept_back before now old new same undos = record {
  long = ap length same;
  same = ap (undone now) undos ∙ ap (λ c. undone c old.undos.items) same;
  there = λ all. subst (λ c. All (IsOf (length c)) new.undos.items) (sym same) (subst (All (IsOf (length before))) (sym undos) all);
}

-- one change that can be undone
pub one_back : (before now : List (List ℕ)) (old new : Run) (u : Undo) → new.undos.items ≡ old.undos.items ++ u ∷ [] → length now ≡ length before → without u now ≡ before
    → IsOf (length now) u → LeadsBack before old now new
one_back before now old new u undos long back is = record {
  long = long;
  same = ap (undone now) undos ∙ undone-last now old.undos.items u ∙ ap (λ c. undone c old.undos.items) back;
  there = λ all.
      subst (All (IsOf (length now))) (sym undos)
      (All-append (IsOf (length now)) old.undos.items (u ∷ []) (subst (λ n. All (IsOf n) old.undos.items) (sym long) all) (All-cons (IsOf (length now)) u [] is (All-nil (IsOf (length now)))));
}

-- one change after others
pub back_on : (before between now : List (List ℕ)) (first middle new : Run) → LeadsBack before first between middle → LeadsBack between middle now new → LeadsBack before first now new
back_on before between now first middle new x y = record { long = y.long ∙ x.long; same = y.same ∙ x.same; there = λ all. y.there (x.there all) }

set-set : (contents : List (List ℕ)) (doc : ℕ) (x y : List ℕ) → set (set contents doc x) doc y ≡ set contents doc y
set-set [] doc x y = refl
set-set (c ∷ contents) zero x y = refl
set-set (c ∷ contents) (suc doc) x y = ap (λ l. c ∷ l) (set-set contents doc x y)

-- a content that is put back
pub put_back : (before : List (List ℕ)) (doc : ℕ) (x : List ℕ) → without (Put doc (content_listed before doc)) (set before doc x) ≡ before
put_back before doc x = set-set before doc x (content_listed before doc) ∙ set-get_or before doc []

-- the front of what was added to
take-added : (content text : List ℕ) → length content ≤ most_bytes → take (length content) (added content text) ≡ content
unfolding added
take-added content text le = take-take (length content) most_bytes (content ++ text) le ∙ take-append_seam content text

-- a content that is cut back
pub cut_back : (before : List (List ℕ)) (doc : ℕ) (text : List ℕ) → doc < length before → length (content_listed before doc) ≤ most_bytes
    → without (Cut doc (length (content_listed before doc))) (set before doc (added (content_listed before doc) text)) ≡ before
cut_back before doc text lt le =
    let was : List ℕ = content_listed before doc in
    ap (λ t. set (set before doc (added was text)) doc (take (length was) t)) (get_or-set_same before doc (added was text) [] lt)
    ∙ ap (set (set before doc (added was text)) doc) (take-added was text le)
    ∙ put_back before doc (added was text)

length-without : (u : Undo) (contents : List (List ℕ)) → length (without u contents) ≡ length contents
length-without (Cut doc len) contents = length-set contents doc (take len (content_listed contents doc))
length-without (Put doc content) contents = length-set contents doc content

-- the last change is of a document that is there
pub last_is_of : (count : ℕ) (undos rest : List Undo) (u last : Undo) → undos ≡ rest ++ last ∷ [] → last ≡ u → All (IsOf count) undos → IsOf count u
last_is_of count undos rest u last e is all = subst (IsOf count) is (all-last (IsOf count) rest last (subst (All (IsOf count)) e all))

-- the last change is undone
pub undone_by : (contents now before : List (List ℕ)) (undos rest : List Undo) (u last : Undo) → undos ≡ rest ++ last ∷ [] → last ≡ u → now ≡ without u contents
    → undone contents undos ≡ before → All (IsOf (length contents)) undos → (undone now rest ≡ before) × All (IsOf (length now)) rest
undone_by contents now before undos rest u last e is made was all = (
  ap (λ c. undone c rest) made ∙ sym (undone-last contents rest u) ∙ ap (λ v. undone contents (rest ++ v ∷ [])) (sym is) ∙ ap (undone contents) (sym e) ∙ was,
  subst (λ n. All (IsOf n) rest) (sym (ap length made ∙ length-without u contents)) (all-before (IsOf (length contents)) rest last (subst (All (IsOf (length contents))) e all)),
)
