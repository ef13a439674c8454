-- A piece that occurs at some place stands in the text, and the other way round.
use Rattle.std.proofs.Common.{◌≡◌, ℕ, zero, suc, ◌+◌, ◌<◌, ◌≤◌, Bool, true, false, List, [], ◌∷◌, ◌++◌, length, get_or, drop, refl, ap, sym, ◌∙◌, arith, length-append, zero-add}
use Rattle.bstr.specs.Find.{OccursAt}
use Rattle.bl_work.specs.Piece.{StandsIn}

front : (hay needle : List ℕ) → length needle ≤ length hay → ((j : ℕ) → j < length needle → get_or hay j 0 ≡ get_or needle j 0) → hay ≡ needle ++ drop (length needle) hay
front hay [] le reads = refl
front [] (n ∷ needle) le reads = absurd (omega arith)
front (h ∷ hay) (n ∷ needle) le reads =
    ap (λ b. b ∷ hay) (reads 0 (omega arith)) ∙ ap (λ l. n ∷ l) (front hay needle (omega arith) (λ j lt. reads (suc j) (omega arith)))

stands : (hay needle : List ℕ) (k : ℕ) → k + length needle ≤ length hay → ((j : ℕ) → j < length needle → get_or hay (k + j) 0 ≡ get_or needle j 0) → StandsIn needle hay
stands hay needle zero le reads =
    record { before = []; after = drop (length needle) hay; split = front hay needle (omega arith) (λ j lt. ap (λ m. get_or hay m 0) (sym (zero-add j)) ∙ reads j lt) }
stands [] needle (suc k) le reads = absurd (omega arith)
stands (h ∷ hay) needle (suc k) le reads =
    let s = stands hay needle k (omega arith) (λ j lt. let e : suc (k + j) ≡ suc k + j = omega arith in ap (λ m. get_or (h ∷ hay) m 0) e ∙ reads j lt) in
    record { before = h ∷ s.before; after = s.after; split = ap (λ l. h ∷ l) s.split }

pub stands_where : (hay needle : List ℕ) (k : ℕ) → OccursAt hay needle k → StandsIn needle hay
stands_where hay needle k at = stands hay needle k at.fits at.reads

get-behind : (before rest : List ℕ) (j : ℕ) → get_or (before ++ rest) (length before + j) 0 ≡ get_or rest j 0
get-behind [] rest j = ap (λ m. get_or rest m 0) (zero-add j)
get-behind (b ∷ before) rest j = let e : suc (length before) + j ≡ suc (length before + j) = omega arith in ap (λ m. get_or (b ∷ (before ++ rest)) m 0) e ∙ get-behind before rest j

get-front : (piece rest : List ℕ) (j : ℕ) → j < length piece → get_or (piece ++ rest) j 0 ≡ get_or piece j 0
get-front [] rest j lt = absurd (omega arith)
get-front (b ∷ piece) rest zero lt = refl
get-front (b ∷ piece) rest (suc j) lt = get-front piece rest j (omega arith)

pub occurs_where : (hay needle : List ℕ) (s : StandsIn needle hay) → OccursAt hay needle (length s.before)
occurs_where hay needle s =
    record {
      fits = omega (arith, ap length s.split, length-append s.before (needle ++ s.after), length-append needle s.after);
      reads = λ j lt. ap (λ l. get_or l (length s.before + j) 0) s.split ∙ get-behind s.before (needle ++ s.after) j ∙ get-front needle s.after j lt;
    }

pub same_tests : (a b : Bool) → (a ≡ true → b ≡ true) → (b ≡ true → a ≡ true) → a ≡ b
same_tests true b f g = sym (f refl)
same_tests false true f g = g refl
same_tests false false f g = refl
