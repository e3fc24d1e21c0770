use Rattle.std.proofs.Common.{◌∷◌, sym, ap, ◌∙◌}
use Rattle.std.proofs.lemmas.Str.{chars_past_char}
use Rattle.std.specs.Str.{chars}
use Rattle.pdw_expr.proofs.like.split_first.Goals as goal

pub returns : goal.returns
returns c =
    let first = c.in_ok-first.first in
    let before = chars_past_char c.args.text.now c.next.new.self.rest.now first c.utf8.text (sym c.chars-left.ensures.rest ∙ c.in_ok-first.ensures.steps.0) in
    (before ∙ ap (λ left. first ∷ chars left) (sym c.as_str.ensures), c.as_str.utf8)
