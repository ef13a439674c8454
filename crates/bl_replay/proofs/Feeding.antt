-- The monitor is told one entry more.
use Rattle.std.proofs.Common.{◌≡◌, ℕ, zero, suc, ◌+◌, ◌<◌, ◌⊎◌, inl, inr, Bool, false, List, [], ◌∷◌, ◌++◌, length, get_or, take, refl, sym, ◌∙◌, ap, subst, arith, length-append}
use Rattle.std.specs.Prelude.{map}
use Rattle.std.proofs.Math.ListN.{get_or-append}
use Rattle.std.proofs.Math.Seq.{get_or-append_seam, take-suc}
use Rattle.std.proofs.lemmas.List.{length-map, get_or-map}
use Rattle.std.proofs.lemmas.List.Elements.{All-push}
use Rattle.bl_work.specs.declared.answer.Answer.{Answer}
use Rattle.bl_setup.specs.Setup.{Setup}
use Rattle.bl_order.specs.Known.{KnowsAnswer}
use Rattle.bl_order.specs.Past.{Past, no_entry, past_of}
use Rattle.bl_monitor.specs.Heard.{Heard, MayCome, answer_at, entry_of, lost_of, with_entry, Knows}
use Rattle.bl_monitor.specs.Heard as heard
use Rattle.bl_replay.specs.Fed.{ComeInOrder, IsFed}
use Rattle.bl_replay.specs.Kept.{KnowsPlace, entry_by, entry_in, entry_told, no_place, place_in, told_by}
use Rattle.bl_replay.specs.declared.place.Origin.{Origin}
use Rattle.bl_replay.specs.declared.place.Origin.TheVariants.{Line, Child}
use Rattle.bl_replay.specs.declared.place.Place.{Place}
use Rattle.bl_work.specs.declared.work.Work.{Work}
use Rattle.bl_replay.proofs.Foresight.{place-same}

entry-by : (w : Work) (b : Bool) (o : Origin) → entry_of (told_by w b o) ≡ entry_by w o
entry-by w b (Line subject) = refl
entry-by w b (Child parent which) = refl

lost-by : (w : Work) (b : Bool) (o : Origin) → lost_of (told_by w b o) ≡ b
lost-by w b (Line subject) = refl
lost-by w b (Child parent which) = refl

-- what the monitor is told of a place is in the setup
knows-by : (s : Setup) (w : Work) (b : Bool) (o : Origin) → KnowsPlace s (record no_place { origin = o; work = w }) → Knows s (told_by w b o)
knows-by s w b (Line subject) k = (k.origin, k.work)
knows-by s w b (Child parent which) k = tt

any-default : (l : List Place) (n : ℕ) (d e : Place) → n < length l → get_or l n d ≡ get_or l n e
any-default [] n d e lt = absurd (omega arith)
any-default (x ∷ l) zero d e lt = refl
any-default (x ∷ l) (suc n) d e lt = any-default l n d e (omega (arith, lt))

below_or_last : (k n : ℕ) → k < n + 1 → (k < n) ⊎ (k ≡ n)
below_or_last k n lt = grind (arith, lt)

-- the entry that comes next may come
pub may-come : (s : Setup) (marks : ℕ → Bool) (P : List Place) (h : Heard) (answers : List Answer) (p d : Place) → IsFed s marks (map entry_in P) h answers → ComeInOrder s marks P
    → length answers < length P → p ≡ get_or P (length answers) d → MayCome h (entry_told p (marks (length answers)))
may-come s marks P h answers p d fed come lt at =
    subst (λ (q : Place). MayCome h (entry_told q (marks (length answers)))) (sym (at ∙ any-default P (length answers) d no_place lt))
    (subst (λ (m : ℕ). MayCome h (entry_told (place_in P m) (marks m))) (sym fed.many) (come h fed.told (omega (arith, lt, fed.many))))

module _ (s : Setup) (marks : ℕ → Bool) (P : List Place) (h : Heard) (answers : List Answer) (answer : Answer) (p d : Place)
    (fed : IsFed s marks (map entry_in P) h answers) (lt : length answers < length P) (at : p ≡ get_or P (length answers) d) where
  abbrev pub next : Heard
  next = with_entry h (entry_told p (marks (length answers)))

  many : length h.order ≡ length answers
  many = sym fed.many

  entry-here : entry_of (entry_told p (marks (length answers))) ≡ get_or (map entry_in P) (length h.order) no_entry
  entry-here =
      entry-by p.work (marks (length answers)) p.origin
      ∙ ap entry_in (at ∙ any-default P (length answers) d no_place lt)
      ∙ sym (get_or-map entry_in P (length answers) no_place no_entry lt)
      ∙ ap (λ m. get_or (map entry_in P) m no_entry) fed.many

  told-next : h.order ++ entry_of (entry_told p (marks (length answers))) ∷ [] ≡ take (length (h.order ++ entry_of (entry_told p (marks (length answers))) ∷ [])) (map entry_in P)
  told-next =
      ap (λ l. l ++ entry_of (entry_told p (marks (length answers))) ∷ []) fed.told.told
      ∙ ap (λ x. take (length h.order) (map entry_in P) ++ x ∷ []) entry-here
      ∙ sym (take-suc (map entry_in P) (length h.order) no_entry (omega (arith, lt, many, length-map P entry_in)))
      ∙ ap (λ m. take m (map entry_in P)) (one_more (length h.order) (length (h.order ++ entry_of (entry_told p (marks (length answers))) ∷ [])) (length-append h.order (entry_of (entry_told p (marks (length answers))) ∷ [])))
    where
      one_more : (a b : ℕ) → b ≡ a + 1 → suc a ≡ b
      one_more a b q = omega (arith, q)

  lost-before : (k : ℕ) → k < length h.order → heard.is_lost next k ≡ heard.is_lost h k
  lost-before k l = get_or-append h.lost (lost_of (entry_told p (marks (length answers))) ∷ []) false k (omega (arith, l, fed.lost))

  order-before : (k : ℕ) → k < length h.order → get_or next.order k no_entry ≡ get_or h.order k no_entry
  order-before k l = get_or-append h.order (entry_of (entry_told p (marks (length answers))) ∷ []) no_entry k l

  lost-last : heard.is_lost next (length h.order) ≡ marks (length h.order)
  lost-last =
      ap (heard.is_lost next) (sym fed.lost)
      ∙ get_or-append_seam h.lost (lost_of (entry_told p (marks (length answers)))) [] false
      ∙ lost-by p.work (marks (length answers)) p.origin
      ∙ ap marks fed.many

  -- the answers so far stay
  answer-before : (k : ℕ) → k < length h.order → answer_at next k ≡ answer_at h k
  answer-before k l =
      ap (λ (q : Past). q.answer)
      (place-same h.setup (heard.is_lost next) (heard.is_lost h) next.order h.order k
      (λ j le. (lost-before j (omega (arith, le, l)), λ q b. ap (past_of h.setup b q) (order-before j (omega (arith, le, l))))))

  pub fed-next : answer ≡ answer_at next (length h.order) → KnowsAnswer s answer → IsFed s marks (map entry_in P) next (answers ++ answer ∷ [])
  fed-next is knows = record {
    told = record {
      setup_is = fed.told.setup_is;
      told = told-next;
      marked = λ k l. marked k (below_or_last k (length h.order) (omega (arith, l, length-append h.order (entry_of (entry_told p (marks (length answers))) ∷ []))));
      few = omega (arith, lt, many, length-map P entry_in, length-append h.order (entry_of (entry_told p (marks (length answers))) ∷ []));
    };
    lost = omega (arith, fed.lost, length-append h.order (entry_of (entry_told p (marks (length answers))) ∷ []), length-append h.lost (lost_of (entry_told p (marks (length answers))) ∷ []));
    many = omega (arith, fed.many, length-append h.order (entry_of (entry_told p (marks (length answers))) ∷ []), length-append answers (answer ∷ []));
    are = λ k d l. are k d (below_or_last k (length answers) (omega (arith, l, length-append answers (answer ∷ []))));
    known = All-push (KnowsAnswer s) answers answer fed.known knows;
  }
    where
      marked : (k : ℕ) → (k < length h.order) ⊎ (k ≡ length h.order) → heard.is_lost next k ≡ marks k
      marked k (inl l) = lost-before k l ∙ fed.told.marked k l
      marked k (inr q) = ap (heard.is_lost next) q ∙ lost-last ∙ ap marks (sym q)

      are : (k : ℕ) (d : Answer) → (k < length answers) ⊎ (k ≡ length answers) → get_or (answers ++ answer ∷ []) k d ≡ answer_at next k
      are k d (inl l) = get_or-append answers (answer ∷ []) d k l ∙ fed.are k d l ∙ sym (answer-before k (omega (arith, l, many)))
      are k d (inr q) = ap (λ j. get_or (answers ++ answer ∷ []) j d) q ∙ get_or-append_seam answers answer [] d ∙ is ∙ ap (answer_at next) (sym (q ∙ fed.many))
