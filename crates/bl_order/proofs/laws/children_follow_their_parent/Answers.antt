use Rattle.bl_order.proofs.PlaceLaws.{subject-child, task-child, carried-child, carried-nothing}
use Rattle.bl_order.proofs.laws.children_follow_their_parent.Goals as goal

pub returns : goal.returns
returns c setup lost order n parent which lt stands = record {
  subject = subject-child setup lost order n parent which lt stands;
  task = task-child setup lost order n parent which lt stands;
  carried = λ two. carried-child setup lost order n parent which two lt stands;
  carries_nothing = λ one. carried-nothing setup lost order n one;
}
