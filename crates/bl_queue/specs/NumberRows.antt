-- What the code keeps of a set of numbers.
use Rattle.std.specs.Prelude.{◌≡◌, length}
use Rattle.bl_queue.specs.Numbers.{IsOver}
use Rattle.bl_queue.specs.declared.numbers.Numbers.TheInside.{Inside}

-- each row is over the one below it, and the uppermost is one word
pub record AreRows (n : Inside) : Type 0 where
  pub low : IsOver n.low.items n.middle.items
  pub middle : IsOver n.middle.items n.top.items
  pub top : length n.top.items ≡ 1
