-- The numbers of the faults.
use Rattle.std.specs.Prelude.{ℕ}
use Rattle.rewrites.specs.declared.fault.ApplyFault.{ApplyFault}
use Rattle.rewrites.specs.declared.fault.ApplyFault.TheVariants.{NotApplicable, TooDeep, Memory}

-- the number of a fault, from 1 in the order of the variants
abbrev pub fault_number : ApplyFault → ℕ
fault_number NotApplicable = 1
fault_number TooDeep = 2
fault_number Memory = 3
