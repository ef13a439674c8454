-- Which fault a call gives.
use Rattle.std.proofs.Common.{◌≡◌, sym, subst, Result, Ok, Err, IfErr}
use Rattle.std.specs.Prelude.{IsErrAnd, OnErr}
use Rattle.bl_wire.specs.declared.fault.SessionFault.{SessionFault}
use Rattle.bl_wire.specs.declared.fault.SessionFault.TheVariants.{Memory}

-- what refuses memory alone
pub memory_alone : {T : Type 0} (r : Result T SessionFault) (P : SessionFault → Type 0) → IsErrAnd r (λ fault. fault ≡ Memory) → P Memory → IfErr r P
memory_alone (Ok x) P is p = tt
memory_alone (Err fault) P is p = subst P (sym is) p

-- a fault that is handed on
pub passes_on : {T : Type 0} (r : Result T SessionFault) (fault : SessionFault) (P : SessionFault → Type 0) → IsErrAnd r (λ f. f ≡ fault) → P fault → IfErr r P
passes_on (Ok x) fault P is p = tt
passes_on (Err f) fault P is p = subst P (sym is) p

-- what holds of each error and of this one
pub if_err-on : {A E P : Type 0} (r : Result A E) {Q S : E → Type 0} → ((e : E) → P → Q e → S e) → OnErr r P → IfErr r Q → IfErr r S
if_err-on (Ok x) f p q = tt
if_err-on (Err e) f p q = f e p q
