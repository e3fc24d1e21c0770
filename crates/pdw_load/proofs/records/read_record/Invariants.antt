use Rattle.std.proofs.Common.{◌≡◌, ◌+◌, ◌++◌, drop}
use Rattle.csv.specs.Records.{fields_of}
use Rattle.pdw_load.specs.Records.{faults_along, row_of}
use Rattle.pdw_load.proofs.records.read_record.Given as goal

-- the values so far and those of the fields that are left are the row, and no field so far has a fault
abbrev pub invariant-loop-at : goal.invariant-loop-at
invariant-loop-at l = (l.values.items ++ row_of (drop l.at l.columns) (drop l.at (fields_of l.fields)) ≡ row_of l.columns (fields_of l.fields))
    × (faults_along l.rec (l.at + 1) (drop l.at l.columns) (drop l.at (fields_of l.fields)) ≡ faults_along l.rec 1 l.columns (fields_of l.fields))
