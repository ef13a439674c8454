-- Want of memory as a fault of the monitor.
use Rattle.std.specs.Prelude.{◌≡◌}
use Rattle.std.specs.declared.alloc.AllocError.{AllocError}
use Rattle.bl_monitor.specs.declared.monitor.MonitorFault.{MonitorFault}
use Rattle.bl_monitor.specs.declared.monitor.MonitorFault.TheVariants.{Memory}

abbrev pub IsMemory : AllocError → MonitorFault → Type 0
IsMemory error fault = fault ≡ Memory
