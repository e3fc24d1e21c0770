use Rattle.std.proofs.Common.{Bor, rules, ℕ, List, Some, sym, inl, ◌∙◌, append-nil, vec_len}
use Rattle.csv.specs.Records.{fields_of}
use Rattle.pdw_load.specs.LoadError.{IsFirstFault}
use Rattle.pdw_load.specs.Records.{faults_of, records_of}
use Rattle.pdw_load.proofs.FaultLemmas.{fault-of-next, faults-after, rows-after}
use Rattle.pdw_load.proofs.FitLemmas.{records-fit}
use Rattle.pdw_load.proofs.ReadLemmas.{read-more, read-none}
use Rattle.pdw_load.proofs.records.read_table.Goals as goal

pub returns-in_err-read_record-clause-fault : goal.returns-in_err-read_record-clause-fault
returns-in_err-read_record-clause-fault c =
    let (trim, ready, flexible, config, between, y, source, rows, faults) = c.loop-rows.invariant in
    let (z, source_after, left, between_after, less) =
    read-more (λ (s : Bor (List ℕ)). Some s.now) c.loop-rows.reader c.read_next.new.reader (fields_of c.read_next.new.fields) y config source between
    (rw c.if-branch.true at c.in_ok-read_next.ensures.read) in
    let whole : IsFirstFault c.in_err-read_record.field-0.0 (faults_of c.args.t.now (records_of c.args.bytes.now)) =
    fault-of-next c.args.t.now.columns c.as_slice.result.now (vec_len c.loop-rows.rows) c.len.result _ _ _ _ _ c.as_slice.ensures c.len.ensures left faults c.in_err-read_record.ensures.fault in
    search (rules, whole)

pub loop-rows-smaller : goal.loop-rows-smaller
loop-rows-smaller c =
    let (trim, ready, flexible, config, between, y, source, rows, faults) = c.loop-rows.invariant in
    let (z, source_after, left, between_after, less) =
    read-more (λ (s : Bor (List ℕ)). Some s.now) c.loop-rows.reader c.read_next.new.reader (fields_of c.read_next.new.fields) y config source between
    (rw c.if-branch.true at c.in_ok-read_next.ensures.read) in
    rw (source, source_after) less

pub loop-rows-preserved : goal.loop-rows-preserved
loop-rows-preserved c =
    let (trim, ready, flexible, config, between, y, source, rows, faults) = c.loop-rows.invariant in
    let reads = rw c.if-branch.true at c.in_ok-read_next.ensures.read in
    let (z, source_after, left, between_after, less) =
    read-more (λ (s : Bor (List ℕ)). Some s.now) c.loop-rows.reader c.read_next.new.reader (fields_of c.read_next.new.fields) y config source between reads in
    let row = c.in_ok-read_record.ensures.row in (
      reads.3 ∙ trim,
      inl c.in_ok-read_next.ensures.ready,
      c.in_ok-read_next.ensures.flexible,
      reads.2 ∙ config,
      between_after,
      z,
      source_after,
      rw c.in_ok-push.ensures.items (rows-after c.args.t.now.columns c.as_slice.result.now c.loop-rows.rows.items _ _ _ _ _ c.as_slice.ensures left rows row.1),
      rw c.in_ok-push.ensures.len (faults-after c.args.t.now.columns c.as_slice.result.now (vec_len c.loop-rows.rows) c.len.result _ _ _ _ c.as_slice.ensures c.len.ensures left faults row.0),
    )

pub returns-clause-faultless : goal.returns-clause-faultless
returns-clause-faultless c =
    let (trim, ready, flexible, config, between, y, source, rows, faults) = c.loop-rows.invariant in
    let none = read-none (λ (s : Bor (List ℕ)). Some s.now) c.loop-rows.reader c.read_next.new.reader (fields_of c.read_next.new.fields) y config source
    (rw c.if-branch.false at c.in_ok-read_next.ensures.read) in
    sym (rw none at faults)

pub returns-clause-rows : goal.returns-clause-rows
returns-clause-rows c =
    let (trim, ready, flexible, config, between, y, source, rows, faults) = c.loop-rows.invariant in
    let none = read-none (λ (s : Bor (List ℕ)). Some s.now) c.loop-rows.reader c.read_next.new.reader (fields_of c.read_next.new.fields) y config source
    (rw c.if-branch.false at c.in_ok-read_next.ensures.read) in
    sym (append-nil c.loop-rows.rows.items) ∙ rw none at rows

pub returns-clause-fits : goal.returns-clause-fits
returns-clause-fits c =
    let items = returns-clause-rows c in
    let none = returns-clause-faultless c in
    rw items (records-fit c.args.t.now.columns 1 (records_of c.args.bytes.now) none)
