-- What is kept of a line tells what the line is.
use Rattle.std.proofs.Common.{◌≡◌, ◌≢◌, ℕ, zero, suc, ◌+◌, ◌≤◌, Bool, true, false, cond, ◌||◌, ◌&&◌, ◌==◌, List, [], ◌∷◌, length, refl, sym, ap, arith, take, get_or, eq-eqb, ne_eqb, fold}
use Rattle.bl_wire.specs.Lines.{without_cr, is_blank}
use Rattle.bl_wire.specs.Look.{look_after, look_of}
use Rattle.bl_wire.specs.declared.held.Look.{Look}
use Rattle.bl_wire.specs.declared.held.Look.TheVariants.{Blank, BlankThenCr, Filled}

abbrev pub is_empty_look : Look → Bool
is_empty_look Blank = true
is_empty_look BlankThenCr = true
is_empty_look Filled = false

pub filled-stays : (line : List ℕ) → fold look_after Filled line ≡ Filled
filled-stays [] = refl
filled-stays (b ∷ line) = filled-stays line

last_cr : (t : Bool) → true ≡ is_empty_look (cond t Blank BlankThenCr)
last_cr true = refl
last_cr false = refl

last_other : (t : Bool) → (t && true) ≡ is_empty_look (cond t Blank Filled)
last_other true = refl
last_other false = refl

more_bytes : (t u : Bool) (c : ℕ) (line : List ℕ) → is_blank (without_cr (c ∷ line)) ≡ is_empty_look (look_of (c ∷ line))
    → (t && is_blank (without_cr (c ∷ line))) ≡ is_empty_look (fold look_after (cond t Blank (cond u BlankThenCr Filled)) (c ∷ line))
more_bytes true u c line e = e
more_bytes false true c line e = sym (ap is_empty_look (filled-stays line))
more_bytes false false c line e = sym (ap is_empty_look (filled-stays line))

-- the look tells whether the line is one of blanks alone
pub look-tells : (line : List ℕ) → is_blank (without_cr line) ≡ is_empty_look (look_of line)
look-tells [] = refl
look-tells (b ∷ []) =
    elim (b == 13) as (λ u. is_blank (cond u [] (b ∷ [])) ≡ is_empty_look (cond ((b == 32) || (b == 9)) Blank (cond u BlankThenCr Filled)))
    [ true ↦ last_cr ((b == 32) || (b == 9)) | false ↦ last_other ((b == 32) || (b == 9)) ]
look-tells (b ∷ c ∷ line) = more_bytes ((b == 32) || (b == 9)) (b == 13) c line (look-tells (c ∷ line))

pub cut_cr : (bs : List ℕ) (n : ℕ) → length bs ≡ suc n → get_or bs n 0 ≡ 13 → without_cr bs ≡ take n bs
cut_cr [] n long last = absurd (omega arith)
cut_cr (b ∷ []) zero long last = ap (λ t. cond t [] (b ∷ [])) (eq-eqb b 13 last)
cut_cr (b ∷ []) (suc n) long last = absurd (omega arith)
cut_cr (b ∷ c ∷ bs) zero long last = absurd (omega arith)
cut_cr (b ∷ c ∷ bs) (suc n) long last = ap (λ l. b ∷ l) (cut_cr (c ∷ bs) n (omega arith) last)

pub keep_cr : (bs : List ℕ) (n : ℕ) → length bs ≡ suc n → get_or bs n 0 ≢ 13 → without_cr bs ≡ bs
keep_cr [] n long last = refl
keep_cr (b ∷ []) zero long last = ap (λ t. cond t [] (b ∷ [])) (ne_eqb b 13 last)
keep_cr (b ∷ []) (suc n) long last = absurd (omega arith)
keep_cr (b ∷ c ∷ bs) zero long last = absurd (omega arith)
keep_cr (b ∷ c ∷ bs) (suc n) long last = ap (λ l. b ∷ l) (keep_cr (c ∷ bs) n (omega arith) last)

pub keep_nil : (bs : List ℕ) → length bs ≤ 0 → without_cr bs ≡ bs
keep_nil [] h = refl
keep_nil (b ∷ bs) h = absurd (omega arith)

-- at most one byte is dropped
pub long_without : (line : List ℕ) → length line ≤ length (without_cr line) + 1
long_without [] = omega arith
long_without (b ∷ []) = go (b == 13)
  where
    go : (t : Bool) → 1 ≤ length (cond t [] (b ∷ [])) + 1
    go true = omega arith
    go false = omega arith
long_without (b ∷ c ∷ line) = omega (arith, long_without (c ∷ line))
