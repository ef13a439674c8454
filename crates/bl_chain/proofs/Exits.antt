-- What is returned at the exit of a `?`, and that what a call refused is no fault of the files.
use Rattle.std.proofs.Common.{◌≡◌, Result, Ok, Err, MatchResult, sym, subst}
use Rattle.std.specs.Prelude.{IfErr, IfOk, ⊤}
use Rattle.std.specs.Result.{IsErrAnd}
use Rattle.std.proofs.lemmas.Result.{err_from_is_err_and}
use Rattle.bl_folder.specs.Standing.{Contents}
use Rattle.bl_folder.specs.declared.fault.FolderFault.{FolderFault}
use Rattle.bl_folder.specs.declared.fault.FolderFault.TheVariants.{Missing, Taken, InUse, TooLong, Memory, Refused}
use Rattle.bl_chain.specs.Faults.{chain_fault}
use Rattle.bl_chain.specs.Refused.{IsRefused}
use Rattle.bl_chain.specs.Unread.{IsOfCall}
use Rattle.bl_chain.specs.declared.fault.ChainFault.{ChainFault}
use Rattle.bl_chain.specs.declared.fault.ChainFault.TheVariants as faults

-- a fault that is excused whatever stands there
abbrev pub IsExcused : ChainFault → Type 0
IsExcused fault = (there : Contents) → IsRefused there fault

pub by-folder : (fault : FolderFault) → IsExcused (chain_fault fault)
by-folder Missing there = tt
by-folder Taken there = tt
by-folder InUse there = tt
by-folder TooLong there = tt
by-folder Memory there = tt
by-folder Refused there = tt

pub of-call : (fault : ChainFault) → IsOfCall fault → IsExcused fault
of-call fault call there = subst (λ f. IsRefused there f) (sym call.1) (by-folder call.0 there)

-- at the exit of a `?`: nothing is said of what is answered, and the fault is as this
pub exits : {X : Type 0} (P : X → Type 0) (Q : ChainFault → Type 0) (r : Result X ChainFault) (e : ChainFault)
    → IsErrAnd r (λ fault. fault ≡ e) → Q e → MatchResult r P Q
exits P Q r e is q = let p = err_from_is_err_and r is in rw (p.1, p.2) q

pub silent : {X : Type 0} (P : X → Type 0) (r : Result X ChainFault) (e : ChainFault) → IsErrAnd r (λ fault. fault ≡ e) → IfOk r P
silent P r e is = exits P (λ _. ⊤) r e is tt

pub told : {X : Type 0} (Q : ChainFault → Type 0) (r : Result X ChainFault) (e : ChainFault) → IsErrAnd r (λ fault. fault ≡ e) → Q e → IfErr r Q
told Q r e is q = exits (λ _. ⊤) Q r e is q

-- what two clauses say of what is answered
pub both : {X : Type 0} (r : Result X ChainFault) {P Q R : X → Type 0} → MatchResult r P (λ _. ⊤) → MatchResult r Q (λ _. ⊤)
    → ((x : X) → P x → Q x → R x) → MatchResult r R (λ _. ⊤)
both (Ok x) p q f = f x p q
both (Err e) p q f = tt

-- and what one clause does
pub ok-so : {X : Type 0} (r : Result X ChainFault) {P R : X → Type 0} → MatchResult r P (λ _. ⊤) → ((x : X) → P x → R x) → MatchResult r R (λ _. ⊤)
ok-so (Ok x) p f = f x p
ok-so (Err e) p f = tt

pub err-so : {X : Type 0} (r : Result X ChainFault) {Q R : ChainFault → Type 0} → MatchResult r (λ _. ⊤) Q → ((y : ChainFault) → Q y → R y) → MatchResult r (λ _. ⊤) R
err-so (Ok x) q f = tt
err-so (Err e) q f = f e q

module _ {X : Type 0} (r : Result X ChainFault) where
  -- a call of the folder was refused
  pub refused : (of : FolderFault) → IsErrAnd r (λ fault. fault ≡ chain_fault of) → IfErr r IsExcused
  refused of is = exits (λ _. ⊤) IsExcused r (chain_fault of) is (by-folder of)

  -- a growth was refused
  pub starved : IsErrAnd r (λ fault. fault ≡ faults.Memory) → IfErr r IsExcused
  starved is = exits (λ _. ⊤) IsExcused r faults.Memory is (λ there. tt)
