use Rattle.std.proofs.Common.{◌∙◌, sym}
use Rattle.pdw_load.proofs.NumberLemmas.{number_of-not_utf8, number_of-parsed}
use Rattle.pdw_load.proofs.field.number.Goals as goal

pub returns-in-Ok : goal.returns-in-Ok
returns-in-Ok c =
    let parsed = rw c.in-Ok.ensures.cases.0 at c.parse.ensures.value.0 in
    c.ok.ensures.value ∙ number_of-parsed c.args.bytes.now c.parse.result parsed

pub returns-in-Err : goal.returns-in-Err
returns-in-Err c = sym (number_of-not_utf8 c.args.bytes.now c.in-Err.ensures.cases.0)
