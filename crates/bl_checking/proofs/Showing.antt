-- What was written of a table.
use Rattle.std.proofs.Common.{◌≡◌, ℕ, zero, suc, List, [], ◌∷◌, ◌++◌, length, take, refl, sym, ap, subst, ◌∙◌, append-nil}
use Rattle.std.specs.Io.KnownBytes.{Appends}
use Rattle.bl_rights_text.specs.Fronts.{IsFrontPut}
use Rattle.bl_wire.specs.Watch.{EndState, Puts}
use Rattle.bl_wire.proofs.PutLaws.{puts-append, puts-is}

front-of : (n : ℕ) (a b : List ℕ) → take (length (take n a)) (a ++ b) ≡ take n a
front-of zero a b = refl
front-of (suc n) [] b = refl
front-of (suc n) (x ∷ a) b = ap (λ l. x ∷ l) (front-of n a b)

module _ (text : List ℕ) (old mid new : EndState) where
  -- of a first part that was put a first part was written
  pub part-of-front : IsFrontPut text old new → (much : ℕ) × Appends old.bytes new.bytes (take much text)
  part-of-front f =
      let much = length (take f.puts.much f.front) in (
        much,
        subst (Appends old.bytes new.bytes) (sym (ap (take much) f.all ∙ front-of f.puts.much f.front f.rest)) f.puts.bytes,
      )

  -- what was put stays so when it is handed on
  pub handed-on : Puts text old mid → Puts [] mid new → Puts text old new
  handed-on p q = puts-is (text ++ []) text old new (append-nil text) (puts-append text [] old mid new p q)

  pub part-of-all : Puts text old mid → Puts [] mid new → (much : ℕ) × Appends old.bytes new.bytes (take much text)
  part-of-all p q = let r = handed-on p q in (r.much, r.bytes)
