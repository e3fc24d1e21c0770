use Rattle.std.proofs.Common.{Some, ap, sym, ◌∙◌}
use Rattle.pdw_base.proofs.TextLemmas.{text_of-IsUtf8, text_of-not_utf8}
use Rattle.pdw_base.proofs.text.Str.from_bytes.Goals as goal

pub returns-in_ok-from_str-in-Ok : goal.returns-in_ok-from_str-in-Ok
returns-in_ok-from_str-in-Ok c =
    ap Some (c.in_ok-from_str-in-Ok.ensures.ok ∙ c.in-Ok.ensures.cases.0) ∙ sym (text_of-IsUtf8 _ c.in-Ok.ensures.cases.1)

pub returns-in-Err : goal.returns-in-Err
returns-in-Err c = sym (text_of-not_utf8 _ c.in-Err.ensures.cases.0)
