use Rattle.std.proofs.Common.{◌≡◌, ◌≤◌, Some, sym, ap, subst, ◌∙◌, arith}
use Rattle.serde_json.specs.Data.{Data, depth}
use Rattle.serde_json.specs.Read.{max_depth, read}
use Rattle.serde_json.specs.Written.{compact_text, has_float}
use Rattle.pdw_planjson.proofs.FileBack.{file-back}
use Rattle.pdw_planjson.proofs.TextLaws.{no-float, shallow}
use Rattle.pdw_planjson.specs.Written.{file_data}
use Rattle.pdw_planjson.proofs.writing.to_text.Goals as goal

pub returns-clause-compact : goal.returns-clause-compact
returns-clause-compact c =
    let file = c.args.file.now in
    subst (λ (d : Data). c.in_ok-to_vec.field-0.items ≡ compact_text d) c.in_ok-value.ensures.value (c.in_ok-to_vec.ensures.text (ap has_float c.in_ok-value.ensures.value ∙ no-float file))

pub returns-clause-reads : goal.returns-clause-reads
returns-clause-reads c =
    let file = c.args.file.now in
    let low : depth (file_data file) ≤ max_depth = omega (arith, shallow file) in
    subst (λ (d : Data). read c.in_ok-to_vec.field-0.items ≡ Some d) c.in_ok-value.ensures.value (c.in_ok-to_vec.ensures.reads_back (subst (λ (d : Data). depth d ≤ max_depth) (sym c.in_ok-value.ensures.value) low))

pub returns-clause-back : goal.returns-clause-back
returns-clause-back c = λ is. file-back c.args.file.now is c.in_ok-value.ensures.numbers
