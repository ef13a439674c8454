-- Which results are which error.
use Rattle.std.proofs.Common.{◌≡◌, ap}
use Rattle.std.specs.Prelude.{Result, Ok, Err}
use Rattle.bl_monitor.specs.declared.monitor.MonitorFault.{MonitorFault}
use Rattle.bl_monitor.specs.declared.monitor.MonitorFault.TheVariants.{NoChild, Memory}

-- an error is the same beside any other value
pub moved : {A B : Type 0} (e f : MonitorFault) → ◌≡◌ {A = Result A MonitorFault} (Err e) (Err f) → ◌≡◌ {A = Result B MonitorFault} (Err e) (Err f)
moved e f same = let inside : e ≡ f = cc in ap Err inside

pub not_memory : {A : Type 0} → ◌≡◌ {A = Result A MonitorFault} (Err Memory) (Err NoChild) → ⊥
not_memory same = cc

pub not_ok : {A : Type 0} (a : A) → ◌≡◌ {A = Result A MonitorFault} (Ok a) (Err NoChild) → ⊥
not_ok a same = cc
