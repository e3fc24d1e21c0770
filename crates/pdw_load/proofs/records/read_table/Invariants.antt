use Rattle.std.proofs.Common.{◌≡◌, ◌+◌, ◌++◌, ℕ, List, Some, true, false, vec_len}
use Rattle.csv.specs.Machine.{ends_at_end}
use Rattle.csv.specs.Reading.{Ready, default_config, source_of}
use Rattle.csv.specs.declared.reader.Trim.TheVariants as trim
use Rattle.pdw_load.specs.Records.{faults_from, faults_of, records_of, rows_of}
use Rattle.pdw_load.proofs.ReadLemmas.{records_left, size_left}
use Rattle.pdw_load.proofs.records.read_table.Given as goal

-- the rows so far and those of the records that are left are all rows, and no record so far has a fault; records may have any length
abbrev pub invariant-loop-rows : goal.invariant-loop-rows
invariant-loop-rows l = (l.reader.trim ≡ trim.None) × Ready l.reader × (l.reader.flexible ≡ true) × (l.reader.config ≡ default_config) × (ends_at_end l.reader.state ≡ false)
    × (y : List ℕ) × (source_of (λ s. Some s.now) l.reader ≡ Some y)
    × (l.rows.items ++ rows_of l.t (records_left l.reader.state y) ≡ rows_of l.t (records_of l.bytes))
    × (faults_from l.t.columns (vec_len l.rows + 1) (records_left l.reader.state y) ≡ faults_of l.t (records_of l.bytes))

abbrev pub decreases-loop-rows : goal.decreases-loop-rows
decreases-loop-rows l = size_left (source_of (λ s. Some s.now) l.reader)
