-- Texts that are put one behind the other.
use Rattle.std.proofs.Common.{◌≡◌, ◌<◌, ◌≤◌, ◌+◌, ◌-◌, ℕ, List, [], ◌++◌, refl, sym, ◌∙◌, ap, subst, append_assoc, append-nil, flat_map, arith}
use Rattle.std.specs.List.{range_with_len}
use Rattle.bl_wire.specs.Watch.{EndState, Puts}
use Rattle.bl_wire.proofs.PutLaws.{puts-append, puts-nil}
use Rattle.bl_rights.proofs.Numbers.{first-of-them, none-of-them}
use Rattle.bl_rights_text.specs.Fronts.{IsFrontPut}

-- of a whole text all was put but what is left
pub record HasPut (left whole : List ℕ) (old new : EndState) : Type 0 where
  pub done : List ℕ
  pub all : done ++ left ≡ whole
  pub puts : Puts done old new

pub put-none : (whole : List ℕ) (old : EndState) → HasPut whole whole old old
put-none whole old = record { done = []; all = refl; puts = puts-nil old old refl }

-- nothing was put of all pieces
pub put-start : (piece : ℕ → List ℕ) (n : ℕ) (old : EndState)
    → HasPut (flat_map piece (range_with_len 0 (n - 0))) (flat_map piece (range_with_len 0 n)) old old
put-start piece n old =
    let all : n - 0 ≡ n = omega arith in
    subst (λ k. HasPut (flat_map piece (range_with_len 0 k)) (flat_map piece (range_with_len 0 n)) old old) (sym all) (put-none (flat_map piece (range_with_len 0 n)) old)

module _ (whole : List ℕ) (old : EndState) where
  pub put-next : (left piece rest : List ℕ) (mid new : EndState) → left ≡ piece ++ rest → HasPut left whole old mid → Puts piece mid new
      → HasPut rest whole old new
  put-next left piece rest mid new is so_far more = record {
    done = so_far.done ++ piece;
    all = append_assoc so_far.done piece rest ∙ ap (λ l. so_far.done ++ l) (sym is) ∙ so_far.all;
    puts = puts-append so_far.done piece old mid new so_far.puts more;
  }

  pub put-over : (left : List ℕ) (new : EndState) → left ≡ [] → HasPut left whole old new → Puts whole old new
  put-over left new is so_far =
      subst (λ l. Puts l old new) (sym (append-nil so_far.done) ∙ ap (λ l. so_far.done ++ l) (sym is) ∙ so_far.all) so_far.puts

  pub front-here : (left : List ℕ) (new : EndState) → HasPut left whole old new → IsFrontPut whole old new
  front-here left new so_far = record { front = so_far.done; rest = left; all = sym so_far.all; puts = so_far.puts }

  pub front-within : (left piece rest : List ℕ) (mid new : EndState) → left ≡ piece ++ rest → HasPut left whole old mid → IsFrontPut piece mid new
      → IsFrontPut whole old new
  front-within left piece rest mid new is so_far f = record {
    front = so_far.done ++ f.front;
    rest = f.rest ++ rest;
    all = sym so_far.all
        ∙ ap (λ l. so_far.done ++ l) (is ∙ ap (λ l. l ++ rest) f.all ∙ append_assoc f.front f.rest rest)
        ∙ sym (append_assoc so_far.done f.front (f.rest ++ rest));
    puts = puts-append so_far.done f.front old mid new so_far.puts f.puts;
  }

-- the pieces from a place on begin with its own
pub from-here : (piece : ℕ → List ℕ) (a n : ℕ) → a < n
    → flat_map piece (range_with_len a (n - a)) ≡ piece a ++ flat_map piece (range_with_len (a + 1) (n - (a + 1)))
from-here piece a n within = ap (flat_map piece) (first-of-them a n within)

pub from-end : (piece : ℕ → List ℕ) (a n : ℕ) → n ≤ a → flat_map piece (range_with_len a (n - a)) ≡ []
from-end piece a n over = ap (flat_map piece) (none-of-them a n over)
