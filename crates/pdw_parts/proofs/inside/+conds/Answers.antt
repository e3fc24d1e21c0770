use Rattle.std.proofs.Common.{sym, ap, ◌∙◌}
use Rattle.std.specs.List.{list_all}
use Rattle.pdw_parts.proofs.InsideLemmas.{inside-all, inside-any, inside-null}
use Rattle.pdw_parts.specs.Part.{is_inside}
use Rattle.pdw_parts.proofs.inside.+conds.Goals as goal

pub is_inside-returns-in-IsNull : goal.is_inside-returns-in-IsNull
is_inside-returns-in-IsNull t c =
    c.scalar_inside.ensures ∙ sym (inside-null c.args.columns.now c.in-IsNull.e) ∙ sym (ap (is_inside c.args.columns.now) c.in-IsNull.is)

pub is_inside-returns-in-All : goal.is_inside-returns-in-All
is_inside-returns-in-All t c =
    c.parts_inside.ensures
    ∙ ap (list_all (is_inside c.args.columns.now)) c.as_slice.ensures
    ∙ sym (inside-all c.args.columns.now c.in-All.parts)
    ∙ sym (ap (is_inside c.args.columns.now) c.in-All.is)

pub is_inside-returns-in-Any : goal.is_inside-returns-in-Any
is_inside-returns-in-Any t c =
    c.parts_inside-in-Any.ensures
    ∙ ap (list_all (is_inside c.args.columns.now)) c.as_slice-in-Any.ensures
    ∙ sym (inside-any c.args.columns.now c.in-Any.parts)
    ∙ sym (ap (is_inside c.args.columns.now) c.in-Any.is)
