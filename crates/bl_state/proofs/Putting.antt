-- Lines that are put, one behind the other.
use Rattle.std.proofs.Common.{◌≡◌, List, ℕ, [], ◌∷◌, ◌++◌, true, false, refl, sym, ◌∙◌, ap, subst, append-nil, true≢false}
use Rattle.std.specs.Prelude.{Option, Some, Result, Ok, Err, OnErr}
use Rattle.std.proofs.KnownBytes.{Appends-nil}
use Rattle.bl_setup.specs.Setup.{Setup}
use Rattle.bl_wire.specs.Watch.{EndState, Puts}
use Rattle.bl_wire.proofs.PutLaws.{puts-append, puts-nil}
use Rattle.bl_state.specs.declared.line.Line.{Line}
use Rattle.bl_state.specs.declared.line.Line.TheVariants as line
use Rattle.bl_state.specs.Lines.{StandsBehind, declared_by}
use Rattle.bl_state.specs.Texts.{line_text, setup_text}
use Rattle.bl_state.proofs.Spelling.{left-over, left_text, one-more}

-- the text of the lines before one, which were put
pub record HasPut (setup : Setup) (next : Option Line) (old new : EndState) : Type 0 where
  pub done : List ℕ
  pub all : done ++ left_text setup next ≡ setup_text setup
  pub puts : Puts done old new

module _ (setup : Setup) (old mid new : EndState) where
  pub put-none : HasPut setup (Some line.Ranks) old old
  put-none = record { done = []; all = refl; puts = puts-nil old old refl }

  pub put-more : (l : Line) (next : Option Line) → StandsBehind setup l next → HasPut setup (Some l) old mid
      → Puts (line_text (declared_by setup l) ++ 10 ∷ []) mid new → HasPut setup next old new
  put-more l next behind so_far more = record {
    done = so_far.done ++ (line_text (declared_by setup l) ++ 10 ∷ []);
    all = one-more setup l next so_far.done _ (setup_text setup) behind refl so_far.all;
    puts = puts-append so_far.done (line_text (declared_by setup l) ++ 10 ∷ []) old mid new so_far.puts more;
  }

module _ (setup : Setup) (old new : EndState) where
  -- nothing more is put by a writer that failed
  stopped : (text : List ℕ) → new.failed ≡ true → Puts text new new
  stopped text failed = record {
    much = 0;
    bytes = Appends-nil new.bytes;
    all = λ fine. absurd (true≢false (sym failed ∙ fine));
    none = λ was. (refl, failed);
  }

  pub put-stopped : (next : Option Line) → HasPut setup next old new → new.failed ≡ true → Puts (setup_text setup) old new
  put-stopped next so_far failed =
      subst (λ text. Puts text old new) so_far.all
      (puts-append so_far.done (left_text setup next) old new new so_far.puts (stopped (left_text setup next) failed))

  -- where no line is left
  pub put-over : (next : Option Line) → ((l : Line) → next ≡ Some l → ⊥) → HasPut setup next old new → Puts (setup_text setup) old new
  put-over next none so_far =
      subst (λ text. Puts text old new)
      (sym (append-nil so_far.done) ∙ ap (λ t. so_far.done ++ t) (sym (left-over setup next none)) ∙ so_far.all) so_far.puts

-- what is so where a call went wrong
pub on-err : {T E : Type 0} (r : Result T E) (P : Type 0) → P → OnErr r P
on-err (Ok t) P p = tt
on-err (Err e) P p = p
