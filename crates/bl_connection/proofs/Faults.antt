-- Which fault a call gives.
use Rattle.std.proofs.Common.{◌≡◌, ◌-◌, ◌∙◌, ℕ, List, length, take, drop, sym, ap, subst, Result, Ok, Err, IfErr}
use Rattle.std.proofs.Math.Seq.{take-length}
use Rattle.std.proofs.lemmas.List.{length-drop}
use Rattle.std.specs.Prelude.{IsErrAnd}
use Rattle.bl_wire.specs.declared.fault.SessionFault.{SessionFault}
use Rattle.bl_wire.specs.declared.fault.SessionFault.TheVariants.{Memory}

-- what refuses memory alone
pub memory_alone : {T : Type 0} (r : Result T SessionFault) (P : SessionFault → Type 0) → IsErrAnd r (λ fault. fault ≡ Memory) → P Memory → IfErr r P
memory_alone (Ok x) P is p = tt
memory_alone (Err fault) P is p = subst P (sym is) p

-- a fault that is handed on
pub passes_on : {T : Type 0} (r : Result T SessionFault) (fault : SessionFault) (P : SessionFault → Type 0) → IsErrAnd r (λ f. f ≡ fault) → P fault → IfErr r P
passes_on (Ok x) fault P is p = tt
passes_on (Err f) fault P is p = subst P (sym is) p

-- whatever the fault
pub if_err-any : {T E : Type 0} (r : Result T E) {P : Type 0} → P → IfErr r (λ e. P)
if_err-any (Ok x) p = tt
if_err-any (Err e) p = p

-- a slice from a place on
pub rest_whole : (n : ℕ) (xs ys : List ℕ) → xs ≡ ys → take (length xs - n) (drop n xs) ≡ drop n ys
rest_whole n xs ys e = ap (λ k. take k (drop n xs)) (sym (length-drop n xs)) ∙ take-length (drop n xs) ∙ ap (λ l. drop n l) e
