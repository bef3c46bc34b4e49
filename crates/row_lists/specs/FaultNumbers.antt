-- The numbers of the faults of a load, in the order in which a load looks for the faults.
use Rattle.std.specs.Prelude.{ℕ}
use Rattle.row_lists.specs.declared.fault.LoadFault.{LoadFault}
use Rattle.row_lists.specs.declared.fault.LoadFault.TheVariants.{NoConceptFile, Header, Row, Conflict, TooMany, Cycle}
use Rattle.row_lists.specs.declared.fault.LoadFault.TheVariants.{Device, Memory}

-- the number of a fault of a load
abbrev pub fault_number : LoadFault → ℕ
fault_number NoConceptFile = 1
fault_number (Header file) = 2
fault_number (Row file line fault) = 3
fault_number (Conflict file line) = 4
fault_number (TooMany file line) = 5
fault_number (Cycle concept) = 6
fault_number (Device file) = 7
fault_number Memory = 8
