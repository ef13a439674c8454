-- Runs of bytes of one class.
use Rattle.std.proofs.Common.{◌≡◌, ℕ, zero, suc, ◌+◌, ◌≤◌, Bool, true, false, cond, ◌&&◌, List, [], ◌∷◌, ◌++◌, length, take, drop, refl, ap, ◌∙◌, arith, length-drop, one-add}
use Rattle.std.specs.List.{list_all}
use Rattle.bl_name.specs.declared.lexer.Class.{Class}
use Rattle.bl_name.specs.Lexing.{is_in, is_letter, run_len, past}

-- no byte of the class stands at the front
abbrev pub StopsAt : Class → List ℕ → Type 0
StopsAt c [] = Unit {0}
StopsAt c (b ∷ bs) = is_in c b ≡ false

-- a letter stands at the front
abbrev pub LetterAt : List ℕ → Type 0
LetterAt [] = ⊥
LetterAt (b ∷ bs) = is_letter b ≡ true

pub drop_more : (n b : ℕ) (bs : List ℕ) → drop (1 + n) (b ∷ bs) ≡ drop n bs
drop_more n b bs = rw one-add refl

pub take_more : (n b : ℕ) (bs : List ℕ) → take (1 + n) (b ∷ bs) ≡ b ∷ take n bs
take_more n b bs = rw one-add refl

-- behind the longest run no byte of the class stands
pub stops_past : (c : Class) (bs : List ℕ) → StopsAt c (past c bs)
stops_past c [] = tt
stops_past c (b ∷ bs) = go (is_in c b) refl (stops_past c bs)
  where
    go : (x : Bool) → is_in c b ≡ x → StopsAt c (past c bs) → StopsAt c (drop (cond (is_in c b) (1 + run_len c bs) 0) (b ∷ bs))
    go true e h = rw (e, drop_more (run_len c bs) b bs) h
    go false e h = rw e e

-- all bytes of the longest run are of the class
pub run_is_all : (c : Class) (bs : List ℕ) → list_all (is_in c) (take (run_len c bs) bs) ≡ true
run_is_all c [] = refl
run_is_all c (b ∷ bs) = go (is_in c b) refl (run_is_all c bs)
  where
    go : (x : Bool) → is_in c b ≡ x → list_all (is_in c) (take (run_len c bs) bs) ≡ true → list_all (is_in c) (take (cond x (1 + run_len c bs) 0) (b ∷ bs)) ≡ true
    go true e h = rw (take_more (run_len c bs) b bs, e) h
    go false e h = refl

-- the longest run is the bytes of the class up to the first that is not
pub run_all : (c : Class) (w rest : List ℕ) → list_all (is_in c) w ≡ true → StopsAt c rest → run_len c (w ++ rest) ≡ length w
run_all c [] [] all stops = refl
run_all c [] (b ∷ rest) all stops = rw stops refl
run_all c (b ∷ w) rest all stops = go (is_in c b) refl all (run_all c w rest)
  where
    go : (x : Bool) → is_in c b ≡ x → (x && list_all (is_in c) w) ≡ true → (list_all (is_in c) w ≡ true → StopsAt c rest → run_len c (w ++ rest) ≡ length w)
        → cond (is_in c b) (1 + run_len c (w ++ rest)) 0 ≡ suc (length w)
    go true e h more = rw e (one-add (run_len c (w ++ rest)) ∙ ap suc (more h stops))
    go false e h more = absurd (cc)

pub past_none : (c : Class) (bs : List ℕ) → StopsAt c bs → past c bs ≡ bs
past_none c [] stops = refl
past_none c (b ∷ bs) stops = rw stops refl

pub past_le : (c : Class) (bs : List ℕ) → length (past c bs) ≤ length bs
past_le c bs = omega (arith, length-drop (run_len c bs) bs)

-- bytes that are all of the class stand at the front of a longest run
pub run_of_all : (c : Class) (n : ℕ) (bs : List ℕ) → n ≤ length bs → list_all (is_in c) (take n bs) ≡ true → run_len c bs ≡ n + run_len c (drop n bs)
run_of_all c zero bs le all = omega arith
run_of_all c (suc n) [] le all = absurd (omega (arith, le))
run_of_all c (suc n) (b ∷ bs) le all = go (is_in c b) refl all (run_of_all c n bs (omega (arith, le)))
  where
    go : (x : Bool) → is_in c b ≡ x → (x && list_all (is_in c) (take n bs)) ≡ true → (list_all (is_in c) (take n bs) ≡ true → run_len c bs ≡ n + run_len c (drop n bs))
        → cond (is_in c b) (1 + run_len c bs) 0 ≡ suc n + run_len c (drop n bs)
    go true e h more = rw e (omega (arith, more h))
    go false e h more = absurd (cc)
