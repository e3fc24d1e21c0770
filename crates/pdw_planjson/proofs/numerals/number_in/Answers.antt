use Rattle.std.proofs.Common.{sym, ap, ◌∙◌}
use Rattle.pdw_planjson.proofs.NumeralLaws.{no-numeral, not-refused, parsed}
use Rattle.pdw_planjson.specs.Numerals as spec
use Rattle.pdw_planjson.proofs.numerals.number_in.Goals as goal

pub returns-then-not-is_numeral : goal.returns-then-not-is_numeral
returns-then-not-is_numeral c =
    let same = c.is_numeral.ensures ∙ ap spec.is_numeral c.as_bytes.ensures.value in
    no-numeral c.args.text.now (sym same ∙ c.if-not-is_numeral.true)

pub returns-in-Ok : goal.returns-in-Ok
returns-in-Ok c =
    let same = c.is_numeral.ensures ∙ ap spec.is_numeral c.as_bytes.ensures.value in
    parsed c.args.text.now c.in-Ok.number (sym same ∙ c.if-not-is_numeral.false) c.in-Ok.ensures.value.0.1

pub returns-in-Err : goal.returns-in-Err
returns-in-Err c =
    let same = c.is_numeral.ensures ∙ ap spec.is_numeral c.as_bytes.ensures.value in
    absurd (not-refused c.args.text.now c.in-Err.field-0 (sym same ∙ c.if-not-is_numeral.false) c.in-Err.ensures.value.0)
