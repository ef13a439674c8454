-- What a declaration adds, and that it adds nothing else.
use Rattle.std.proofs.Common.{◌≡◌, ◌↔◌, ℕ, ◌<◌, ◌≤◌, Bool, true, false, List, [], Option, Some, None, unwrap_or, Result, Ok, Err, refl, sym, ap, ◌∙◌, arith}
use Rattle.std.specs.Borrow.{Bor}
use Rattle.std.specs.Prelude.{IsSome, is_some, option_map}
use Rattle.bl_level.specs.Level.{SecurityLevel, Dominates, dominates}
use Rattle.bl_level.proofs.Dominance.{dominates-sets}
use Rattle.bl_policy.specs.declared.policy.AddFault.{AddFault}
use Rattle.bl_policy.specs.declared.policy.AddFault.TheVariants as add
use Rattle.bl_work.specs.Names.{KnownNames}
use Rattle.bl_policy.specs.Policy.{SecurityPolicy}
use Rattle.bl_setup.specs.Setup.{Setup}
use Rattle.bl_setup.specs.declared.version.Version.TheVariants.{Two}

pub same_setup : {n n' : KnownNames} {p p' : SecurityPolicy} {c c' : List (List ℕ)} → n ≡ n' → p ≡ p' → c ≡ c'
    → ◌≡◌ {A = Setup} (record { names = n; policy = p; contents = c; version = Two }) (record { names = n'; policy = p'; contents = c'; version = Two })
same_setup a b c = λ i. record { names = a i; policy = b i; contents = c i; version = Two }

-- what was looked up and not found is not there
pub not_there : {P : Type 0} (o : Option ℕ) (b : Bool) → b ≡ is_some o → b ≡ false → (IsSome o ↔ P) → P → ⊥
not_there o b is missing found p = let t = found.1 p in let e : true ≡ false = sym t ∙ sym is ∙ missing in cc

-- levels whose dominance cannot be denied dominate
pub above_from_not : (g c : SecurityLevel) → ((Dominates g c → ⊥) → ⊥) → Dominates g c
above_from_not g c twice = go (dominates g c) refl
  where
    go : (b : Bool) → dominates g c ≡ b → Dominates g c
    go true e = (dominates-sets g c).0 e
    go false e = absurd (twice (λ d. let t = (dominates-sets g c).1 d in let f : true ≡ false = sym t ∙ e in cc))

pub ok_not_err : {A B : Type 0} {x : A} {y : B} → ◌≡◌ {A = Result A B} (Ok x) (Err y) → ⊥
ok_not_err e = cc

-- a document's refusal by the policy cannot be
pub no_fault : {I : Type 0} (f : AddFault) (n : ℕ) → n < 1024
    → ((◌≡◌ {A = Result I AddFault} (Err f) (Err add.TooMany)) ↔ (1024 ≤ n))
    → ((◌≡◌ {A = Result I AddFault} (Err f) (Err add.CurrentAboveGreatest)) → ⊥) → ⊥
no_fault add.TooMany n room many above = let h : 1024 ≤ n = many.0 refl in absurd (omega arith)
no_fault add.CurrentAboveGreatest n room many above = above refl

-- the content of a line, where it has one
pub content_now : (content : Option (Bor (List ℕ))) (other found : Bor (List ℕ)) → found ≡ unwrap_or content other → other.now ≡ [] → found.now ≡ unwrap_or (option_map (λ x. x.now) content) []
content_now (Some x) other found is none = ap (λ x. x.now) is
content_now None other found is none = ap (λ x. x.now) is ∙ none

pub some_now : (content : Option (Bor (List ℕ))) → is_some content ≡ is_some (option_map (λ x. x.now) content)
some_now (Some x) = refl
some_now None = refl
