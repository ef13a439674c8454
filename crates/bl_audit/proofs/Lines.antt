-- The lines of an order, and those that events admit.
use Rattle.std.proofs.Common.{◌≡◌, ℕ, zero, suc, ◌+◌, ◌<◌, ◌≤◌, List, [], ◌∷◌, ◌++◌, length, drop, refl, sym, ◌∙◌, ap, arith, append-nil, append_assoc, add-one, length-append}
use Rattle.std.proofs.lemmas.List.{append_cancel_left, drop-append-le}
use Rattle.std.specs.Prelude.{Some, None, option_and_then, slice_get}
use Rattle.bl_work.specs.declared.work.Work.{Work}
use Rattle.bl_setup.specs.Setup.{Setup}
use Rattle.bl_order.specs.Order.{Entry, Line, Child}
use Rattle.bl_order.specs.Machine.{State, Event, Opens, Admits, Starts, Ends, Loses, change, children_at, session_at, start, state_after}
use Rattle.bl_core.specs.Origins.{work_asked}
use Rattle.bl_hall.specs.Recalled.{works_of}
use Rattle.bl_hall.proofs.Recalling.{new_works, same-setup, works-change}
use Rattle.bl_audit.specs.Comes.{works_in, lines_from}

one-more : (e : Event) (es : List Event) → new_works e ++ works_in es ≡ works_in (e ∷ es)
one-more (Opens s) es = refl
one-more (Admits i k w) es = refl
one-more (Starts n) es = refl
one-more (Ends n) es = refl
one-more (Loses n) es = refl

works-after : (x : State) (es : List Event) → works_of (state_after x es).order ≡ works_of x.order ++ works_in es
works-after x [] = sym (append-nil (works_of x.order))
works-after x (e ∷ es) =
    works-after (change x e) es ∙ ap (λ l. l ++ works_in es) (works-change x e)
    ∙ append_assoc (works_of x.order) (new_works e) (works_in es) ∙ ap (λ l. works_of x.order ++ l) (one-more e es)

-- the lines that a trail admits stand in the order that it leads to
pub lines-of-trail : (setup : Setup) (limit : ℕ) (es : List Event) → lines_from (state_after (start setup limit) es) 0 ≡ works_in es
lines-of-trail setup limit es = works-after (start setup limit) es

works-more : (A B : List Entry) → works_of (A ++ B) ≡ works_of A ++ works_of B
works-more [] B = refl
works-more (Line s k u w ∷ A) B = ap (λ l. w ∷ l) (works-more A B)
works-more (Child p w ∷ A) B = works-more A B

-- an order grows at its end
grown : (x : State) (es : List Event) → (entries : List Entry) × ((state_after x es).order ≡ x.order ++ entries)
grown x [] = ([], sym (append-nil x.order))
grown x (e ∷ es) =
    let now : (entries : List Entry) × ((change x e).order ≡ x.order ++ entries) = entered x e in
    let later : (entries : List Entry) × ((state_after (change x e) es).order ≡ (change x e).order ++ entries) = grown (change x e) es in
    (now.0 ++ later.0, later.1 ∙ ap (λ A. A ++ later.0) now.1 ∙ append_assoc x.order now.0 later.0)
  where
    entered : (x : State) (e : Event) → (entries : List Entry) × ((change x e).order ≡ x.order ++ entries)
    entered x (Opens s) = ([], sym (append-nil x.order))
    entered x (Admits i o w) = (Line i o (session_at x i).subject w ∷ [], refl)
    entered x (Starts n) = ([], sym (append-nil x.order))
    entered x (Ends n) = (children_at x n, refl)
    entered x (Loses n) = ([], sym (append-nil x.order))

-- the lines that events admit stand after those that stood
pub lines-later : (x : State) (es : List Event) (n : ℕ) → n ≤ length x.order → lines_from (state_after x es) n ≡ lines_from x n ++ works_in es
lines-later x es n le =
    let more : (entries : List Entry) × ((state_after x es).order ≡ x.order ++ entries) = grown x es in
    let new : works_of more.0 ≡ works_in es =
    append_cancel_left (works_of x.order) (works_of more.0) (works_in es) (sym (works-more x.order more.0) ∙ sym (ap works_of more.1) ∙ works-after x es) in
    ap (λ A. works_of (drop n A)) more.1
    ∙ ap works_of (drop-append-le n x.order more.0 le)
    ∙ works-more (drop n x.order) more.0
    ∙ ap (λ l. works_of (drop n x.order) ++ l) new

pub works-both : (es ds : List Event) → works_in (es ++ ds) ≡ works_in es ++ works_in ds
works-both [] ds = refl
works-both (Opens s ∷ es) ds = works-both es ds
works-both (Admits i k w ∷ es) ds = ap (λ l. w ∷ l) (works-both es ds)
works-both (Starts n ∷ es) ds = works-both es ds
works-both (Ends n ∷ es) ds = works-both es ds
works-both (Loses n ∷ es) ds = works-both es ds

pub order-later : (x : State) (es : List Event) → length x.order ≤ length (state_after x es).order
order-later x es =
    let more : (entries : List Entry) × ((state_after x es).order ≡ x.order ++ entries) = grown x es in
    omega (arith, ap length more.1, length-append x.order more.0)

pub after-both : (x : State) (es ds : List Event) → state_after x (es ++ ds) ≡ state_after (state_after x es) ds
after-both x [] ds = refl
after-both x (e ∷ es) ds = after-both (change x e) es ds

pub setup-later : (x : State) (es : List Event) → (state_after x es).setup ≡ x.setup
setup-later x [] = refl
setup-later x (e ∷ es) = setup-later (change x e) es ∙ same-setup x e

-- ---- the entries of an order, one by one

skip : (A : List Entry) (n : ℕ) → n < length A → option_and_then work_asked (slice_get A n) ≡ None → works_of (drop n A) ≡ works_of (drop (suc n) A)
skip [] n lt none = absurd (omega arith)
skip (Line s k u w ∷ A) zero lt none = absurd (cc)
skip (Child p w ∷ A) zero lt none = refl
skip (e ∷ A) (suc n) lt none = skip A n (omega (arith, lt)) none

take-one : (A : List Entry) (n : ℕ) (w : Work) → option_and_then work_asked (slice_get A n) ≡ Some w → works_of (drop n A) ≡ w ∷ works_of (drop (suc n) A)
take-one [] n w some = absurd (cc)
take-one (Line s k u v ∷ A) zero w some = same v w some
  where
    same : (v w : Work) → Some v ≡ Some w → v ∷ works_of A ≡ w ∷ works_of A
    same v w h = ap (λ x. x ∷ works_of A) (cc)
take-one (Child p x ∷ A) zero w some = absurd (cc)
take-one (e ∷ A) (suc n) w some = take-one A n w some

pub skip-child : (x : State) (n : ℕ) → n < length x.order → option_and_then work_asked (slice_get x.order n) ≡ None → lines_from x n ≡ lines_from x (n + 1)
skip-child x n lt none = skip x.order n lt none ∙ ap (lines_from x) (sym (add-one n))

pub take-line : (x : State) (n : ℕ) (w : Work) → option_and_then work_asked (slice_get x.order n) ≡ Some w → lines_from x n ≡ w ∷ lines_from x (n + 1)
take-line x n w some = take-one x.order n w some ∙ ap (λ m. w ∷ lines_from x m) (sym (add-one n))

pub there : (A : List Entry) (n : ℕ) (w : Work) → option_and_then work_asked (slice_get A n) ≡ Some w → n < length A
there [] n w some = absurd (cc)
there (e ∷ A) zero w some = omega arith
there (e ∷ A) (suc n) w some = omega (arith, there A n w some)

none-after : (A : List Entry) (n : ℕ) → length A ≤ n → works_of (drop n A) ≡ []
none-after [] zero le = refl
none-after [] (suc n) le = refl
none-after (e ∷ A) zero le = absurd (omega arith)
none-after (e ∷ A) (suc n) le = none-after A n (omega (arith, le))

pub no-lines : (x : State) (n : ℕ) → length x.order ≤ n → lines_from x n ≡ []
no-lines x n le = none-after x.order n le
