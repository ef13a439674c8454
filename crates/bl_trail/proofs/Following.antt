-- Events one after the other, with their texts.
use Rattle.std.proofs.Common.{◌≡◌, ◌≢◌, ℕ, ◌+◌, ◌≤◌, List, [], ◌∷◌, ◌++◌, length, refl, sym, ◌∙◌, ap, subst, inl, inr, arith, ◌⊎◌, append_assoc, length-append, true≢false}
use Rattle.std.specs.Prelude.{Option, Some, None, ◌==◌, true, false}
use Rattle.std.specs.List.{AllByRecursion}
use Rattle.std.proofs.lemmas.Bool.Decides.{nat_tests}
use Rattle.bl_setup.specs.Setup.{Setup}
use Rattle.bl_setup.specs.declared.version.Version.TheVariants.{Two}
use Rattle.bl_order.specs.Machine.{State, Event, Opens, Admits, Starts, Ends, Loses, Needs, IsTrail, change, state_after}
use Rattle.bl_trail.specs.Asks.{before, behind, HasNo}
use Rattle.bl_trail.specs.EventText.{event_text}
use Rattle.bl_trail.specs.TrueText.{event_texts, joined}
use Rattle.bl_trail.specs.Follow.{Followed, IsLine, IsMore}
use Rattle.bl_trail.specs.Versions.{HasEvent, HasEvents}
use Rattle.bl_trail.proofs.Words.{cut-some, cut-none}

pub state-more : (x : State) (es : List Event) (e : Event) → state_after x (es ++ e ∷ []) ≡ change (state_after x es) e
state-more x [] e = refl
state-more x (d ∷ es) e = state-more (change x d) es e

steps-more : (x : State) (es : List Event) (e : Event) → IsTrail x es → Needs (state_after x es) e → IsTrail x (es ++ e ∷ [])
steps-more x [] e steps step = (step, tt)
steps-more x (d ∷ es) e steps step = (steps.0, steps-more (change x d) es e steps.1 step)

texts-more : (x : State) (es : List Event) (e : Event) → event_texts x (es ++ e ∷ []) ≡ event_texts x es ++ event_text (state_after x es) e ∷ []
texts-more x [] e = refl
texts-more x (d ∷ es) e = ap (λ l. event_text x d ∷ l) (texts-more (change x d) es e)

pub joined-append : (a b : List (List ℕ)) → joined (a ++ b) ≡ joined a ++ joined b
joined-append [] b = refl
joined-append (l ∷ a) b = ap (λ t. (l ++ 10 ∷ []) ++ t) (joined-append a b) ∙ sym (append_assoc (l ++ 10 ∷ []) (joined a) (joined b))

pub all-append : {A : Type 0} (P : A → Type 0) (a b : List A) → AllByRecursion P a → AllByRecursion P b → AllByRecursion P (a ++ b)
all-append P [] b h k = k
all-append P (l ∷ a) b h k = (h.0, all-append P a b h.1 k)

append-nil : {X : Type 0} (a : List X) → a ++ [] ≡ a
append-nil [] = refl
append-nil (x ∷ a) = ap (λ l. x ∷ l) (append-nil a)

-- the setup stays
pub setup-kept : (x : State) (e : Event) → x.setup ≡ (change x e).setup
setup-kept x (Opens s) = refl
setup-kept x (Admits i k w) = refl
setup-kept x (Starts n) = refl
setup-kept x (Ends n) = refl
setup-kept x (Loses n) = refl

pub setup-end : (x : State) (es : List Event) → x.setup ≡ (state_after x es).setup
setup-end x [] = refl
setup-end x (e ∷ es) = setup-kept x e ∙ setup-end (change x e) es

-- version 2 has each event
two-has : (e : Event) → HasEvent Two e
two-has (Opens s) = tt
two-has (Admits i k w) = tt
two-has (Starts n) = tt
two-has (Ends n) = tt
two-has (Loses n) = tt

pub two-has-all : (es : List Event) → HasEvents Two es
two-has-all [] = tt
two-has-all (e ∷ es) = (two-has e, two-has-all es)

-- one event more
pub followed-more : (x : State) (text rest line behind : List ℕ) (es : List Event) (e : Event) → Followed x text rest es → IsLine rest line behind
    → Needs (state_after x es) e → HasEvent (state_after x es).setup.version e → line ≡ event_text (state_after x es) e → Followed x text behind (es ++ e ∷ [])
followed-more x text rest line behind es e followed cut step has is = record {
  steps = steps-more x es e followed.steps step;
  has = all-append (HasEvent x.setup.version) es (e ∷ []) followed.has (subst (λ (s : Setup). HasEvent s.version e) (sym (setup-end x es)) has, tt);
  plain = subst (AllByRecursion (HasNo 10)) (sym (texts-more x es e)) (all-append (HasNo 10) (event_texts x es) _ followed.plain (subst (HasNo 10) is cut.plain, tt));
  split = followed.split
      ∙ ap (λ r. joined (event_texts x es) ++ r) (cut.split ∙ ap (λ l. l ++ 10 ∷ behind) is ∙ regroup (event_text (state_after x es) e) behind)
      ∙ sym (append_assoc (joined (event_texts x es)) (joined (event_text (state_after x es) e ∷ [])) behind)
      ∙ ap (λ t. t ++ behind) (sym (joined-append (event_texts x es) (event_text (state_after x es) e ∷ [])) ∙ ap joined (sym (texts-more x es e)));
}
  where
    regroup : (l behind : List ℕ) → l ++ 10 ∷ behind ≡ ((l ++ 10 ∷ []) ++ []) ++ behind
    regroup l behind = sym (ap (λ t. t ++ behind) (append-nil (l ++ 10 ∷ [])) ∙ append_assoc l (10 ∷ []) behind)

-- a text has a first line, or no LF
pub first-or-none : (t : List ℕ) → HasNo 10 t ⊎ ((line : List ℕ) × (rest : List ℕ) × IsLine t line rest)
first-or-none t = go (behind 10 t) refl
  where
    go : (o : Option (List ℕ)) → behind 10 t ≡ o → HasNo 10 t ⊎ ((line : List ℕ) × (rest : List ℕ) × IsLine t line rest)
    go None h = inl (cut-none 10 t h)
    go (Some rest) h = inr (before 10 t, rest, record { plain = (cut-some 10 t rest h).0; split = (cut-some 10 t rest h).1 })

pub is_more : (t : List ℕ) → t ≢ [] → IsMore t
is_more t some = go (first-or-none t)
  where
    go : HasNo 10 t ⊎ ((line : List ℕ) × (rest : List ℕ) × IsLine t line rest) → IsMore t
    go (inl none) = inl (none, some)
    go (inr t) = inr t

pub line-length : (text line rest : List ℕ) → IsLine text line rest → length rest + 1 ≤ length text
line-length text line rest cut = omega (arith, ap length cut.split, length-append line (10 ∷ rest))

pub is_empty : (t : List ℕ) → (length t == 0) ≡ true → t ≡ []
is_empty [] h = refl
is_empty (b ∷ t) h = absurd (grind (arith, nat_tests))

pub not_empty : (t : List ℕ) → (length t == 0) ≡ false → t ≢ []
not_empty [] h = absurd (true≢false h)
not_empty (b ∷ t) h = λ e. absurd (cc)
