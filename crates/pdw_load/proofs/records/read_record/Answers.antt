use Rattle.std.proofs.Common.{rules, ◌≡◌, ◌<◌, length, sym, ◌∙◌, arith}
use Rattle.csv.specs.Records.{fields_of}
use Rattle.csv.proofs.RecordFacts.{field-there}
use Rattle.pdw_load.specs.LoadError.{IsFirstFault}
use Rattle.pdw_load.specs.Records.{record_faults}
use Rattle.pdw_load.proofs.FaultLemmas.{faults-more, first-of, left-columns, left-fields, record-faults, values-more}
use Rattle.pdw_load.proofs.records.read_record.Goals as goal

pub returns-in_default-clause-fault : goal.returns-in_default-clause-fault
returns-in_default-clause-fault c =
    let within : c.loop-at.at < length (fields_of c.args.fields.now) = omega arith in
    absurd (field-there _ _ within (sym (rw c.in_default.is at c.get.ensures.value)))

pub returns-in_err-read_field-clause-fault : goal.returns-in_err-read_field-clause-fault
returns-in_err-read_field-clause-fault c =
    let columns = c.args.columns.now in
    let fields = fields_of c.args.fields.now in
    let same : length fields ≡ length columns = omega arith in
    let in_columns = left-columns columns c.loop-at.at c.index-columns-at.result (omega arith) (sym c.index-columns-at.is) in
    let in_fields = left-fields fields c.loop-at.at c.in-Some.bytes.now (omega arith) (sym c.in-Some.ensures.value) in
    let whole : IsFirstFault c.in_err-read_field.field-0.0 (record_faults columns c.args.rec fields) =
    first-of _ _ _ _ c.in_err-read_field.ensures.fault
    (faults-more c.args.rec c.loop-at.at columns fields c.index-columns-at.result c.in-Some.bytes.now in_columns in_fields
    ∙ c.loop-at.invariant.1 ∙ sym (record-faults columns c.args.rec fields same)) in
    search (rules, whole)

pub loop-at-preserved : goal.loop-at-preserved
loop-at-preserved c =
    let columns = c.args.columns.now in
    let fields = fields_of c.args.fields.now in
    let same : length fields ≡ length columns = omega arith in
    let in_columns = left-columns columns c.loop-at.at c.index-columns-at.result (omega arith) (sym c.index-columns-at.is) in
    let in_fields = left-fields fields c.loop-at.at c.in-Some.bytes.now (omega arith) (sym c.in-Some.ensures.value) in
    let read = c.in_ok-read_field.ensures.value in (
      rw (c.in_ok-push.ensures.items, read.1) (
          values-more c.loop-at.at columns fields c.index-columns-at.result c.in-Some.bytes.now c.loop-at.values.items in_columns in_fields
          ∙ c.loop-at.invariant.0
          ),
      rw read.0 at (faults-more c.args.rec c.loop-at.at columns fields c.index-columns-at.result c.in-Some.bytes.now in_columns in_fields)
          ∙ c.loop-at.invariant.1,
    )
