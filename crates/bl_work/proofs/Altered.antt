-- A body alters what its accesses let it alter, and nothing else.
use Rattle.std.proofs.Common.{◌≡◌, ℕ, Bool, true, false, cond, ◌&&◌, ◌||◌, List, [], ◌∷◌, ◌++◌, refl, sym, ◌∙◌, ap, arith, true≢false}
use Rattle.std.specs.Prelude.{◌==◌}
use Rattle.std.proofs.lemmas.Bool.Decides.{nat_tests}
use Rattle.bl_policy.specs.declared.access.Access.{Access}
use Rattle.bl_policy.specs.declared.access.Mode.{Mode}
use Rattle.bl_policy.specs.declared.access.Mode.TheVariants.{Read, Append, Write}
use Rattle.bl_work.specs.Statements as statement
use Rattle.bl_work.specs.Statements.{Statements}
use Rattle.bl_document.specs.Content.{added}
use Rattle.bl_work.specs.Effects.{Effect, Out, Put, Add, Child, after, holds_of, effects_from, effects_of, seen}
use Rattle.bl_work.specs.Modes.{alters, declares, is_write, KeepsModes}

after-append : (content : List ℕ) (xs ys : List Effect) (o : ℕ) → after content (xs ++ ys) o ≡ after (after content xs o) ys o
after-append content [] ys o = refl
after-append content (Out text ∷ es) ys o = after-append content es ys o
after-append content (Put d text ∷ es) ys o = after-append (cond (d == o) text content) es ys o
after-append content (Add d text ∷ es) ys o = after-append (cond (d == o) (added content text) content) es ys o
after-append content (Child behaviour ∷ es) ys o = after-append content es ys o

write_alters : (m : Mode) → is_write m ≡ true → alters m ≡ true
write_alters Read h = h
write_alters Append h = refl
write_alters Write h = refl

and_more : (a b c : Bool) → (b ≡ true → c ≡ true) → (a && b) ≡ true → (a && c) ≡ true
and_more true b c f h = f h
and_more false b c f h = h

or_right : (a b : Bool) → b ≡ true → (a || b) ≡ true
or_right true b h = refl
or_right false b h = h

-- what is declared in a mode that passes one test is declared in one that passes a weaker test
declares_more : (f g : Mode → Bool) → ((m : Mode) → f m ≡ true → g m ≡ true) → (accesses : List Access) (o : ℕ) → declares f accesses o ≡ true → declares g accesses o ≡ true
declares_more f g each [] o h = h
declares_more f g each (a ∷ rest) o h = go ((a.doc == o) && f a.mode) refl h (declares_more f g each rest o)
  where
    go : (b : Bool) → ((a.doc == o) && f a.mode) ≡ b → (b || declares f rest o) ≡ true → (declares f rest o ≡ true → declares g rest o ≡ true) → (((a.doc == o) && g a.mode) || declares g rest o) ≡ true
    go true e now deeper = ap (λ b. b || declares g rest o) (and_more (a.doc == o) (f a.mode) (g a.mode) (each a.mode) e)
    go false e now deeper = or_right ((a.doc == o) && g a.mode) (declares g rest o) (deeper now)

same_doc : (d o : ℕ) → (d == o) ≡ true → d ≡ o
same_doc d o h = grind (arith, nat_tests)

module _ (accesses : List Access) (contents : ℕ → List ℕ) (o : ℕ) (unaltered : declares alters accesses o ≡ false) where
  -- a document that may be altered is another one
  other : (d : ℕ) → declares alters accesses d ≡ true → (d == o) ≡ false
  other d h = go (d == o) refl
    where
      go : (b : Bool) → (d == o) ≡ b → (d == o) ≡ false
      go false e = e
      go true e = absurd (true≢false (sym h ∙ ap (declares alters accesses) (same_doc d o e) ∙ unaltered))

  written : (d : ℕ) → declares is_write accesses d ≡ true → (d == o) ≡ false
  written d h = other d (declares_more is_write alters write_alters accesses d h)

  -- one more effect that leaves the document as it was
  one_more : (so_far : List Effect) (e : Effect) → after (contents o) so_far o ≡ contents o → after (contents o) (e ∷ []) o ≡ contents o → after (contents o) (so_far ++ e ∷ []) o ≡ contents o
  one_more so_far e h k = after-append (contents o) so_far (e ∷ []) o ∙ ap (λ content. after content (e ∷ []) o) h ∙ k

  put : (d : ℕ) (text : List ℕ) → (d == o) ≡ false → after (contents o) (Put d text ∷ []) o ≡ contents o
  put d text h = ap (λ b. cond b text (contents o)) h

  add : (d : ℕ) (text : List ℕ) → (d == o) ≡ false → after (contents o) (Add d text ∷ []) o ≡ contents o
  add d text h = ap (λ b. cond b (added (contents o) text) (contents o)) h

  one_of : (b : Bool) (x y : List Effect) → after (contents o) x o ≡ contents o → after (contents o) y o ≡ contents o → after (contents o) (cond b x y) o ≡ contents o
  one_of true x y h k = h
  one_of false x y h k = k

  stays : (body : Statements) (so_far : List Effect) → after (contents o) so_far o ≡ contents o → KeepsModes accesses body → after (contents o) (effects_from contents so_far body) o ≡ contents o
  stays statement.Nothing so_far h k = h
  stays (statement.Show d rest) so_far h k = stays rest (so_far ++ Out (seen contents so_far d) ∷ []) (one_more so_far (Out (seen contents so_far d)) h refl) k.1
  stays (statement.Say text rest) so_far h k = stays rest (so_far ++ Out text ∷ []) (one_more so_far (Out text) h refl) k
  stays (statement.Add d text rest) so_far h k = stays rest (so_far ++ Add d text ∷ []) (one_more so_far (Add d text) h (add d text (other d k.0))) k.1
  stays (statement.Set d text rest) so_far h k = stays rest (so_far ++ Put d text ∷ []) (one_more so_far (Put d text) h (put d text (written d k.0))) k.1
  stays (statement.Copy from to rest) so_far h k =
      stays rest (so_far ++ Put to (seen contents so_far from) ∷ []) (one_more so_far (Put to (seen contents so_far from)) h (put to (seen contents so_far from) (written to k.1))) k.2
  stays (statement.Pour from to rest) so_far h k =
      stays rest (so_far ++ Add to (seen contents so_far from) ∷ []) (one_more so_far (Add to (seen contents so_far from)) h (add to (seen contents so_far from) (other to k.1))) k.2
  stays (statement.If d asks text then_body else_body rest) so_far h k =
      stays rest (cond (holds_of asks (seen contents so_far d) text) (effects_from contents so_far then_body) (effects_from contents so_far else_body))
      (one_of (holds_of asks (seen contents so_far d) text) (effects_from contents so_far then_body) (effects_from contents so_far else_body)
      (stays then_body so_far h k.1) (stays else_body so_far h k.2))
      k.3
  stays (statement.Spawn behaviour rest) so_far h k = stays rest (so_far ++ Child behaviour ∷ []) (one_more so_far (Child behaviour) h refl) k

pub unaltered-stays : (accesses : List Access) (contents : ℕ → List ℕ) (body : Statements) → KeepsModes accesses body → (o : ℕ) → declares alters accesses o ≡ false → after (contents o) (effects_of contents body) o ≡ contents o
unaltered-stays accesses contents body keeps o unaltered = stays accesses contents o unaltered body [] refl keeps
