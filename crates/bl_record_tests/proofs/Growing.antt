-- A hall grows by its calls; and what holds of an outcome that is had.
use Rattle.std.proofs.Common.{◌≡◌, [], ◌∷◌, ◌⊎◌, inl, inr, sym, ◌∙◌, ap, subst, append-nil}
use Rattle.std.specs.Prelude.{Result, Ok, IfOk}
use Rattle.bl_audit.specs.Bookmarks.{HasGrown}
use Rattle.bl_hall.specs.Chronicle.{Chronicle, Continues, with_event}
use Rattle.bl_order.specs.Machine.{Event}

pub continued : (a b : Chronicle) → Continues a b → HasGrown a b
continued a b c = go c.by_one_at_most
  where
    go : (b ≡ a) ⊎ ((event : Event) × (b ≡ with_event a event)) → HasGrown a b
    go (inl same) = record {
      setup = ap (λ (h : Chronicle). h.setup) same;
      limit = ap (λ (h : Chronicle). h.limit) same;
      more = [];
      trail = ap (λ (h : Chronicle). h.trail) same ∙ sym (append-nil a.trail);
    }
    go (inr (event, is)) = record {
      setup = ap (λ (h : Chronicle). h.setup) is;
      limit = ap (λ (h : Chronicle). h.limit) is;
      more = event ∷ [];
      trail = ap (λ (h : Chronicle). h.trail) is;
    }

pub at-ok : {T E : Type 0} (r : Result T E) (t : T) (P : T → Type 0) → r ≡ Ok t → IfOk r P → P t
at-ok r t P is h = subst (λ x. IfOk x P) is h
