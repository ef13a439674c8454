-- What a core tells of answers.
use Rattle.std.proofs.Common.{◌≡◌, ℕ, Bool, true, false, cond, refl, sym, ◌∙◌, ap, true≢false}
use Rattle.std.specs.Prelude.{Option, Some, None, Result, Ok, Err, IfOk, IfSome, IsSome, IsTrue, ◌↔◌, option_copied}
use Rattle.std.specs.Borrow.{Bor}
use Rattle.bl_work.specs.declared.answer.Answer.{Answer}
use Rattle.bl_work.specs.declared.answer.Answer.TheVariants as answer
use Rattle.bl_setup.specs.Agreement.{Agree}
use Rattle.bl_setup.specs.Setup.{Setup}
use Rattle.bl_order.specs.Known.{KnowsAnswer}
use Rattle.bl_order.specs.Machine.{State, has_ended, past_at}
use Rattle.bl_wire.proofs.Naming.{names-denial}
use Rattle.bl_trail.specs.StartWords.{NamesWords}
use Rattle.bl_audit.specs.Comes.{words_later}
use Rattle.bl_audit.proofs.Later.{told_of}

-- the answer that is told is what the state knows
pub told-is : (r : Option (Bor Answer)) (x : State) (n : ℕ) → IfSome r (λ a. a.now ≡ (past_at x n).answer) → (IsSome r ↔ IsTrue (has_ended x n)) → option_copied r ≡ told_of x n
told-is (Some a) x n value some = ap Some value ∙ sym (ap (λ b. cond b (Some (past_at x n).answer) None) (some.0 refl))
told-is None x n value some = go (has_ended x n) (λ h. true≢false (sym (some.1 h)))
  where
    go : (b : Bool) → (b ≡ true → ⊥) → ◌≡◌ {A = Option Answer} None (cond b (Some (past_at x n).answer) None)
    go false none = refl
    go true none = absurd (none refl)

pub names-told : (s : Setup) → Agree s → (r : Option (Bor Answer)) → IfSome r (λ a. KnowsAnswer s a.now) → NamesWords s.names (words_later (option_copied r))
names-told s agree None known = tt
names-told s agree (Some a) known = go a.now known
  where
    go : (b : Answer) → KnowsAnswer s b → NamesWords s.names (words_later (Some b))
    go (answer.Done shown) k = tt
    go answer.RuleDone k = tt
    go (answer.Denied d) k = names-denial s agree d k
    go answer.Lost k = tt

-- four things that hold of what was answered
pub ok-four : {T E : Type 0} (r : Result T E) (O P Q R S : T → Type 0) → ((t : T) → O t → P t → Q t → R t → S t) → IfOk r O → IfOk r P → IfOk r Q → IfOk r R → IfOk r S
ok-four (Ok t) O P Q R S f o p q r = f t o p q r
ok-four (Err e) O P Q R S f o p q r = tt
