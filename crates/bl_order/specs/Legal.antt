-- Which orders may come about.
use Rattle.std.specs.Prelude.{◌≡◌, ℕ, suc, ◌+◌, ◌<◌, ◌≤◌, Bool, IsTrue, List, length, Some, slice_get}
use Rattle.bl_work.specs.Effects.{children}
use Rattle.bl_work.specs.declared.work.Work.{Work}
use Rattle.bl_setup.specs.Setup.{Setup}
use Rattle.bl_order.specs.Order.{Entry, Line, Child}
use Rattle.bl_order.specs.Past.{place, is_done}

-- how many children a place spawned
abbrev pub child_count : Setup → (ℕ → Bool) → List Entry → ℕ → ℕ
child_count setup lost order n = length (children (place setup lost order n).effects)

-- the which-th child of a parent stands at place n: behind its parent, which was done with so many children at least, among
-- all of its children, which stand together and in order from the place `first` on
pub record HasPlace (setup : Setup) (lost : ℕ → Bool) (order : List Entry) (n parent which : ℕ) : Type 0 where
  pub behind : parent < n
  pub done : IsTrue (is_done (place setup lost order parent).answer)
  pub from_one : 1 ≤ which
  pub spawned : which ≤ child_count setup lost order parent
  pub first : ℕ
  pub stands : n + 1 ≡ first + which
  pub together : (i : ℕ) → i < child_count setup lost order parent → slice_get order (first + i) ≡ Some (Child parent (suc i))

-- Legal (own choice: children enter together, at their parent's end): the ordinals of a session rise, each child has its
-- place, and none stands twice
pub record IsLegal (setup : Setup) (lost : ℕ → Bool) (order : List Entry) : Type 0 where
  pub rising : (m n session k l s t : ℕ) (v w : Work) → m < n → slice_get order m ≡ Some (Line session k s v)
      → slice_get order n ≡ Some (Line session l t w) → k < l
  pub placed : (n parent which : ℕ) → slice_get order n ≡ Some (Child parent which) → HasPlace setup lost order n parent which
  pub once : (m n parent which : ℕ) → slice_get order m ≡ Some (Child parent which) → slice_get order n ≡ Some (Child parent which) → m ≡ n
