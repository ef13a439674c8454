-- A monitor that was told nothing.
use Rattle.std.proofs.Common.{◌≡◌, ℕ, Bool, List, [], refl, sym, subst, arith}
use Rattle.bl_work.specs.declared.answer.Answer.{Answer}
use Rattle.bl_setup.specs.Setup.{Setup}
use Rattle.bl_order.specs.Order.{Entry}
use Rattle.bl_monitor.specs.Heard.{Heard}
use Rattle.bl_replay.specs.Fed.{IsFed}

nothing-told : (s : Setup) (marks : ℕ → Bool) (order : List Entry) → IsFed s marks order (record { setup = s; order = []; lost = [] }) []
nothing-told s marks order = record {
  told = record { setup_is = refl; told = refl; marked = λ k lt. absurd (omega arith); few = omega arith };
  lost = refl;
  many = refl;
  are = λ n d lt. absurd (omega arith);
  known = λ k d lt. absurd (omega arith);
}

pub fed-first : (s : Setup) (marks : ℕ → Bool) (order : List Entry) (h : Heard) (answers : List Answer) → h ≡ record { setup = s; order = []; lost = [] } → answers ≡ []
    → IsFed s marks order h answers
fed-first s marks order h answers is none =
    subst (λ (m : Heard). IsFed s marks order m answers) (sym is)
    (subst (λ (a : List Answer). IsFed s marks order (record { setup = s; order = []; lost = [] }) a) (sym none) (nothing-told s marks order))
