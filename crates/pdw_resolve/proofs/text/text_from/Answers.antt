use Rattle.std.proofs.Common.{refl, sym, ◌∙◌, subst}
use Rattle.std.specs.Option.{IsSome}
use Rattle.pdw_base.proofs.TextLemmas.{text_of-IsUtf8}
use Rattle.pdw_resolve.proofs.text.text_from.Goals as goal

pub unwrap-requires : goal.unwrap-requires
unwrap-requires c = subst IsSome (sym (c.in_ok-from_bytes.ensures ∙ text_of-IsUtf8 c.as_bytes.result.now c.as_bytes.ensures.utf8)) refl
