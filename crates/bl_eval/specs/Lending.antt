-- What each value of an evaluation keeps.
use Rattle.std.specs.Prelude.{◌≡◌, ◌<◌, length, map}
use Rattle.bl_work.specs.Effects.{outputs, children}
use Rattle.bl_grant.specs.Loaned.{as_lent, back_of}
use Rattle.bl_grant.specs.Loans.{lent_of}
use Rattle.bl_eval.specs.Loan.{Loan, part_of, effects_on, backs, AreFor}
use Rattle.bl_eval.specs.declared.lent.Lent.TheInside as lent
use Rattle.bl_eval.specs.declared.lent.Done.TheInside as done
use Rattle.bl_eval.specs.declared.lent.Unrun.TheInside as unrun

abbrev pub lent_view : lent.Inside → Loan
lent_view l = record { entry = l.entry; script = l.script; index = l.index; inputs = lent_of l.grants }

abbrev pub unrun_view : unrun.Inside → Loan
unrun_view u = record { entry = u.entry; script = u.script; index = u.index; inputs = lent_of u.grants }

abbrev pub done_view : done.Inside → Loan
done_view d = record { entry = d.entry; script = d.script; index = d.index; inputs = lent_of d.grants }

-- the behaviour is there, and the grants are its accesses' as they were lent
pub record IsLent (l : lent.Inside) : Type 0 where
  pub there : l.index < length l.script
  pub grants : AreFor l.entry (part_of (lent_view l)).accesses l.grants

pub record IsUnrun (u : unrun.Inside) : Type 0 where
  pub there : u.index < length u.script
  pub grants : AreFor u.entry (part_of (unrun_view u)).accesses u.grants

-- the behaviour is there, the grants are those that were lent for its accesses, and what was done is what it does on what was lent
pub record IsDone (d : done.Inside) : Type 0 where
  pub there : d.index < length d.script
  pub grants : AreFor d.entry (part_of (done_view d)).accesses (map as_lent d.grants)
  pub outputs : d.outputs ≡ outputs (effects_on (done_view d))
  pub spawned : d.spawned.items ≡ children (effects_on (done_view d))
  pub returned : map back_of d.grants ≡ backs d.entry (part_of (done_view d)).accesses (lent_of d.grants) (effects_on (done_view d))
