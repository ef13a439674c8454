-- What a place leaves of a content.
use Rattle.std.proofs.Common.{◌≡◌, ℕ, Bool, true, false, cond, ◌&&◌, ◌||◌, List, [], refl, sym, ◌∙◌, ap, true≢false}
use Rattle.bl_work.specs.Effects.{Effect, after}
use Rattle.bl_work.specs.declared.answer.Answer.{Answer}
use Rattle.bl_work.specs.declared.answer.Answer.TheVariants.{Done, RuleDone, Denied, Lost}
use Rattle.bl_order.specs.Past.{Past, is_done, is_rule_done, may_alter, left_by, leaves, has_deleted}

-- where it is not to alter the document, the content
pub leaves-skips : (p : Past) (o : ℕ) (c : List ℕ) → may_alter p.task o ≡ false → leaves p o c ≡ c
leaves-skips p o c h = ap (λ b. cond b (left_by p.answer p.effects o c) c) h

-- what ran leaves the content as its effects change it
pub left_by-done : (a : Answer) (es : List Effect) (o : ℕ) (c : List ℕ) → is_done a ≡ true → left_by a es o c ≡ after c es o
left_by-done (Done shown) es o c h = refl
left_by-done RuleDone es o c h = absurd (true≢false (sym h))
left_by-done (Denied denial) es o c h = absurd (true≢false (sym h))
left_by-done Lost es o c h = absurd (true≢false (sym h))

-- where it neither wrote the document nor deleted it, the content
pub leaves-untouched : (p : Past) (o : ℕ) (c : List ℕ) → ((is_done p.answer && may_alter p.task o) || has_deleted p o) ≡ false → leaves p o c ≡ c
leaves-untouched p o c h = go p.answer (may_alter p.task o) h
  where
    go : (a : Answer) (b : Bool) → ((is_done a && b) || (is_rule_done a && b)) ≡ false → cond b (left_by a p.effects o c) c ≡ c
    go a false e = refl
    go (Done shown) true e = absurd (true≢false e)
    go RuleDone true e = absurd (true≢false e)
    go (Denied denial) true e = refl
    go Lost true e = refl

-- where it wrote the document, the content as its effects change it
pub leaves-wrote : (p : Past) (o : ℕ) (c : List ℕ) → (is_done p.answer && may_alter p.task o) ≡ true → leaves p o c ≡ after c p.effects o
leaves-wrote p o c h = go p.answer (may_alter p.task o) h
  where
    go : (a : Answer) (b : Bool) → (is_done a && b) ≡ true → cond b (left_by a p.effects o c) c ≡ after c p.effects o
    go (Done shown) true e = refl
    go (Done shown) false e = absurd (true≢false (sym e))
    go RuleDone b e = absurd (true≢false (sym e))
    go (Denied denial) b e = absurd (true≢false (sym e))
    go Lost b e = absurd (true≢false (sym e))

-- where it deleted the document, nothing
pub leaves-deleted : (p : Past) (o : ℕ) (c : List ℕ) → has_deleted p o ≡ true → leaves p o c ≡ []
leaves-deleted p o c h = go p.answer (may_alter p.task o) h
  where
    go : (a : Answer) (b : Bool) → (is_rule_done a && b) ≡ true → cond b (left_by a p.effects o c) c ≡ []
    go RuleDone true e = refl
    go RuleDone false e = absurd (true≢false (sym e))
    go (Done shown) b e = absurd (true≢false (sym e))
    go (Denied denial) b e = absurd (true≢false (sym e))
    go Lost b e = absurd (true≢false (sym e))

same_either_way : (b : Bool) (c : List ℕ) → cond b c c ≡ c
same_either_way true c = refl
same_either_way false c = refl

-- where it is lost, the content
pub leaves-lost : (p : Past) (o : ℕ) (c : List ℕ) → p.answer ≡ Lost → leaves p o c ≡ c
leaves-lost p o c h = ap (λ a. cond (may_alter p.task o) (left_by a p.effects o c) c) h ∙ same_either_way (may_alter p.task o) c
