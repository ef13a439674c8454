-- What a file keeps through its lives.
use Rattle.std.proofs.Common.{◌≡◌, ℕ, List, [], ◌∷◌, ◌++◌, take, drop, refl, sym, ◌∙◌, ap, subst, append_assoc, take-append-drop}
use Rattle.std.proofs.lemmas.List.{append_cancel_left}
use Rattle.bl_disk.specs.File.{Begins}
use Rattle.bl_disk.specs.FileLives.{AreFileLives, AreParts, BeginsWithAllKept, EndWithTheProgram, FileLife, IsFileLife, taken, there_after}
use Rattle.bl_disk.proofs.Fronts.{itself, take-behind, through}

-- what is taken of a life begins with what it kept
kept-taken : (from : List ℕ) (life : FileLife) → IsFileLife from life → Begins life.kept (taken life)
kept-taken from life is =
    subst (λ bytes. Begins life.kept (take life.right bytes)) (sym is.left.1) (take-behind life.kept is.left.0 life.right is.whole)

-- and with what it began with
from-taken : (from : List ℕ) (life : FileLife) → IsFileLife from life → Begins from (taken life)
from-taken from life is = through from life.kept (taken life) is.goes_on (kept-taken from life is)

pub begins : (from : List ℕ) (lives : List FileLife) → AreFileLives from lives → Begins from (there_after from lives)
begins from [] are = itself from
begins from (life ∷ lives) are =
    through from (taken life) (there_after (taken life) lives) (from-taken from life are.0) (begins (taken life) lives are.1)

pub begins-all : (from : List ℕ) (lives : List FileLife) → AreFileLives from lives → BeginsWithAllKept (there_after from lives) lives
begins-all from [] are = tt
begins-all from (life ∷ lives) are = (
  through life.kept (taken life) (there_after (taken life) lives) (kept-taken from life are.0) (begins (taken life) lives are.1),
  begins-all (taken life) lives are.1,
)

-- what is taken behind the beginning is a first part of what was to be added
part-added : (from part added left rest : List ℕ) (right : ℕ) → take right left ≡ from ++ part → from ++ added ≡ left ++ rest → Begins part added
part-added from part added left rest right is was = (
  drop right left ++ rest,
  append_cancel_left from added (part ++ (drop right left ++ rest)) (
      was
      ∙ ap (λ l. l ++ rest) (sym (take-append-drop right left) ∙ ap (λ l. l ++ drop right left) is)
      ∙ append_assoc (from ++ part) (drop right left) rest
      ∙ append_assoc from part (drop right left ++ rest)
      ),
)

pub parts : (from : List ℕ) (lives : List FileLife) → AreFileLives from lives → EndWithTheProgram from lives → AreParts from lives (there_after from lives)
parts from [] are end = refl
parts from (life ∷ lives) are end =
    let t : Begins from (taken life) = from-taken from life are.0 in (
      t.0,
      part-added from t.0 life.added life.left end.0.0 life.right t.1 end.0.1,
      subst (λ bytes. AreParts bytes lives (there_after (taken life) lives)) t.1 (parts (taken life) lives are.1 end.1),
    )
