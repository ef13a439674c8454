-- What may be given at once.
use Rattle.std.proofs.Common.{◌≡◌, ◌<◌, ◌≤◌, ◌∙◌, ◌⊎◌, Bool, true, false, ℕ, List, [], length, take, inl, inr, refl, sym, ap, subst, arith}
use Rattle.std.proofs.Math.Seq.{take-length}
use Rattle.bl_allowance.specs.Lines.{AreWhole, EndsLine, GivesLast, GivesLines, GivesLong, MayGive, lines_in}
use Rattle.bl_allowance.proofs.Counting.{whole_ends}

pub gives_whole : (bytes : List ℕ) (most count lines : ℕ) → most ≤ 128 → 0 < lines → AreWhole bytes most count lines
    → GivesLines lines (take count bytes)
gives_whole bytes most count lines small some whole = record {
  ends = whole_ends bytes most count lines some whole;
  room = whole.counted;
  few = omega (arith, whole.longest, small);
}

-- where no whole line is found no line ends
pub no_line : (bytes : List ℕ) (most count lines : ℕ) → 0 < most → (0 < lines → ⊥) → AreWhole bytes most count lines
    → lines_in bytes ≡ 0
no_line bytes most count lines some none whole = omega (arith, whole.longest, none, some)

pub long_end : (bytes : List ℕ) (count lines : ℕ) → 0 < lines → AreWhole bytes 1 count lines
    → GivesLong true false 0 (take count bytes)
long_end bytes count lines some whole =
    let one : lines ≡ 1 = omega (arith, whole.longest, some) in
    record {
      room = refl;
      long = inl refl;
      ends = inr (refl, refl, whole_ends bytes 1 count lines some whole, sym whole.counted ∙ one);
    }

pub long_on : (before : Bool) (bytes : List ℕ) → (before ≡ true) ⊎ (8193 < length bytes) → lines_in bytes ≡ 0
    → GivesLong before true 0 (take (length bytes) bytes)
long_on before bytes long none = record {
  room = refl;
  long = subst (λ l. (before ≡ true) ⊎ (8193 < length l)) (sym (take-length bytes)) long;
  ends = inl (refl, ap lines_in (take-length bytes) ∙ none);
}

pub last_given : (bytes : List ℕ) → lines_in bytes ≡ 0 → GivesLast 1 (take (length bytes) bytes)
last_given bytes none = record { room = refl; ends = ap lines_in (take-length bytes) ∙ none }
