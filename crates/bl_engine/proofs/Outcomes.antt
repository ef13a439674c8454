-- From what holds of an outcome to what follows from it.
use Rattle.std.proofs.Common.{◌≡◌, Result, Ok, Err, OnOk, OnErr, IfOk, IfErr, Option, Some, None, refl}

pub on_ok-map : {A E : Type 0} (r : Result A E) {P Q : Type 0} → (P → Q) → OnOk r P → OnOk r Q
on_ok-map (Ok x) f p = f p
on_ok-map (Err e) f p = tt

pub if_err-map : {A E : Type 0} (r : Result A E) {P Q : E → Type 0} → ((e : E) → P e → Q e) → IfErr r P → IfErr r Q
if_err-map (Ok x) f p = tt
if_err-map (Err e) f p = f e p

pub if_err-both : {A E : Type 0} (r : Result A E) {P Q S : E → Type 0} → ((e : E) → P e → Q e → S e) → IfErr r P → IfErr r Q → IfErr r S
if_err-both (Ok x) f p q = tt
if_err-both (Err e) f p q = f e p q

pub on_err-all : {A E : Type 0} (r : Result A E) {P : Type 0} → P → OnErr r P
on_err-all (Ok a) p = tt
on_err-all (Err e) p = p

pub if_ok-map : {A E : Type 0} (r : Result A E) {P Q : A → Type 0} → ((a : A) → P a → Q a) → IfOk r P → IfOk r Q
if_ok-map (Ok x) f p = f x p
if_ok-map (Err e) f p = tt

-- what is not there
pub not_some : {A : Type 0} (o : Option A) → ((a : A) → o ≡ Some a → ⊥) → o ≡ None
not_some (Some a) no' = absurd (no' a refl)
not_some None no' = refl
