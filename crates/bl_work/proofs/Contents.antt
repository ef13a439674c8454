-- Contents stay contents.
use Rattle.std.proofs.Common.{◌≡◌, ℕ, zero, suc, ◌<◌, ◌≤◌, Bool, true, false, cond, ◌&&◌, List, [], ◌∷◌, ◌++◌, length, take, drop, refl, sym, ◌∙◌, ap, arith, true≢false}
use Rattle.std.specs.Prelude.{◌==◌}
use Rattle.std.specs.List.{list_all, AllByRecursion}
use Rattle.std.proofs.lemmas.List.{length-take}
use Rattle.std.proofs.lemmas.List.Elements.{All-from_recursion}
use Rattle.std.proofs.lemmas.List.Folds.{list_all-append}
use Rattle.bl_document.specs.Content.{is_content_byte, most_bytes, IsContent, added}
use Rattle.bl_work.specs.Statements as statement
use Rattle.bl_work.specs.Statements.{Statements}
use Rattle.bl_work.specs.Effects.{Effect, Out, Put, Add, Child, after, holds_of, effects_from, effects_of, seen, outputs}
use Rattle.bl_work.specs.Script.{HasContents}
use Rattle.bl_work.specs.Laws.{IsAdded, StaysContent}

-- ---- additions

-- a list is its first n elements and the rest, which is empty where they are fewer
take_and_drop : (n : ℕ) (xs : List ℕ) → xs ≡ take n xs ++ drop n xs
take_and_drop zero xs = refl
take_and_drop (suc n) [] = refl
take_and_drop (suc n) (x ∷ xs) = ap (λ ys. x ∷ ys) (take_and_drop n xs)

take_full : (n : ℕ) (xs : List ℕ) → 0 < length (drop n xs) → length (take n xs) ≡ n
take_full zero xs h = refl
take_full (suc n) [] h = absurd (omega arith)
take_full (suc n) (x ∷ xs) h = ap suc (take_full n xs h)

take_short : (n : ℕ) (xs : List ℕ) → length (take n xs) ≤ n
take_short n xs = omega (arith, length-take n xs)

pub is_added : (content text : List ℕ) → IsAdded content text
unfolding added
is_added content text = record {
  cut = drop most_bytes (content ++ text);
  split = take_and_drop most_bytes (content ++ text);
  short = take_short most_bytes (content ++ text);
  full = take_full most_bytes (content ++ text);
}

-- ---- contents

and_both : (a b : Bool) → (a && b) ≡ true → (a ≡ true) × (b ≡ true)
and_both true b h = (refl, h)
and_both false b h = absurd (true≢false (sym h))

both_and : (a b : Bool) → a ≡ true → b ≡ true → (a && b) ≡ true
both_and true b h k = k
both_and false b h k = h

all_take : (p : ℕ → Bool) (n : ℕ) (xs : List ℕ) → list_all p xs ≡ true → list_all p (take n xs) ≡ true
all_take p zero xs h = refl
all_take p (suc n) [] h = h
all_take p (suc n) (x ∷ xs) h =
    let b : (p x ≡ true) × (list_all p xs ≡ true) = and_both (p x) (list_all p xs) h in
    both_and (p x) (list_all p (take n xs)) b.0 (all_take p n xs b.1)

added-content : (content text : List ℕ) → IsContent content → IsContent text → IsContent (added content text)
unfolding added
added-content content text c t = record {
  short = take_short most_bytes (content ++ text);
  plain = all_take is_content_byte most_bytes (content ++ text)
      (list_all-append is_content_byte content text ∙ both_and (list_all is_content_byte content) (list_all is_content_byte text) c.plain t.plain);
}

-- each text in the effects is a content
abbrev HoldsContents : List Effect → Type 0
HoldsContents [] = Unit {0}
HoldsContents (Out text ∷ es) = IsContent text × HoldsContents es
HoldsContents (Put doc text ∷ es) = IsContent text × HoldsContents es
HoldsContents (Add doc text ∷ es) = IsContent text × HoldsContents es
HoldsContents (Child behaviour ∷ es) = HoldsContents es

either : (b : Bool) (x y : List ℕ) → IsContent x → IsContent y → IsContent (cond b x y)
either true x y h k = h
either false x y h k = k

after-content : (content : List ℕ) (es : List Effect) (o : ℕ) → IsContent content → HoldsContents es → IsContent (after content es o)
after-content content [] o c h = c
after-content content (Out text ∷ es) o c h = after-content content es o c h.1
after-content content (Put d text ∷ es) o c h = after-content (cond (d == o) text content) es o (either (d == o) text content h.0 c) h.1
after-content content (Add d text ∷ es) o c h =
    after-content (cond (d == o) (added content text) content) es o (either (d == o) (added content text) content (added-content content text c h.0) c) h.1
after-content content (Child behaviour ∷ es) o c h = after-content content es o c h

holds-append : (xs ys : List Effect) → HoldsContents xs → HoldsContents ys → HoldsContents (xs ++ ys)
holds-append [] ys h k = k
holds-append (Out text ∷ es) ys h k = (h.0, holds-append es ys h.1 k)
holds-append (Put doc text ∷ es) ys h k = (h.0, holds-append es ys h.1 k)
holds-append (Add doc text ∷ es) ys h k = (h.0, holds-append es ys h.1 k)
holds-append (Child behaviour ∷ es) ys h k = holds-append es ys h k

one_of : (b : Bool) (x y : List Effect) → HoldsContents x → HoldsContents y → HoldsContents (cond b x y)
one_of true x y h k = h
one_of false x y h k = k

module _ (contents : ℕ → List ℕ) (all : (o : ℕ) → IsContent (contents o)) where
  seen-content : (so_far : List Effect) (o : ℕ) → HoldsContents so_far → IsContent (seen contents so_far o)
  seen-content so_far o h = after-content (contents o) so_far o (all o) h

  effects-hold : (body : Statements) (so_far : List Effect) → HoldsContents so_far → HasContents body → HoldsContents (effects_from contents so_far body)
  effects-hold statement.Nothing so_far h k = h
  effects-hold (statement.Show o rest) so_far h k =
      effects-hold rest (so_far ++ Out (seen contents so_far o) ∷ []) (holds-append so_far (Out (seen contents so_far o) ∷ []) h (seen-content so_far o h, tt)) k
  effects-hold (statement.Say text rest) so_far h k = effects-hold rest (so_far ++ Out text ∷ []) (holds-append so_far (Out text ∷ []) h (k.0, tt)) k.1
  effects-hold (statement.Add o text rest) so_far h k = effects-hold rest (so_far ++ Add o text ∷ []) (holds-append so_far (Add o text ∷ []) h (k.0, tt)) k.1
  effects-hold (statement.Set o text rest) so_far h k = effects-hold rest (so_far ++ Put o text ∷ []) (holds-append so_far (Put o text ∷ []) h (k.0, tt)) k.1
  effects-hold (statement.Copy from to rest) so_far h k =
      effects-hold rest (so_far ++ Put to (seen contents so_far from) ∷ []) (holds-append so_far (Put to (seen contents so_far from) ∷ []) h (seen-content so_far from h, tt)) k
  effects-hold (statement.Pour from to rest) so_far h k =
      effects-hold rest (so_far ++ Add to (seen contents so_far from) ∷ []) (holds-append so_far (Add to (seen contents so_far from) ∷ []) h (seen-content so_far from h, tt)) k
  effects-hold (statement.If o asks text then_body else_body rest) so_far h k =
      effects-hold rest (cond (holds_of asks (seen contents so_far o) text) (effects_from contents so_far then_body) (effects_from contents so_far else_body))
      (one_of (holds_of asks (seen contents so_far o) text) (effects_from contents so_far then_body) (effects_from contents so_far else_body)
      (effects-hold then_body so_far h k.1) (effects-hold else_body so_far h k.2))
      k.3
  effects-hold (statement.Spawn behaviour rest) so_far h k = effects-hold rest (so_far ++ Child behaviour ∷ []) (holds-append so_far (Child behaviour ∷ []) h tt) k

outputs-content : (es : List Effect) → HoldsContents es → AllByRecursion IsContent (outputs es)
outputs-content [] h = tt
outputs-content (Out text ∷ es) h = (h.0, outputs-content es h.1)
outputs-content (Put doc text ∷ es) h = outputs-content es h.1
outputs-content (Add doc text ∷ es) h = outputs-content es h.1
outputs-content (Child behaviour ∷ es) h = outputs-content es h

pub stays_content : (contents : ℕ → List ℕ) (body : Statements) → ((o : ℕ) → IsContent (contents o)) → HasContents body → StaysContent contents body
stays_content contents body all texts = record {
  shown = All-from_recursion IsContent (outputs (effects_of contents body)) (outputs-content (effects_of contents body) held);
  left = λ o. after-content (contents o) (effects_of contents body) o (all o) held;
}
  where
    held : HoldsContents (effects_of contents body)
    held = effects-hold contents all body [] tt texts
