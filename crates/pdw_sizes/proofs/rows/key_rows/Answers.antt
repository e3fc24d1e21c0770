use Rattle.std.proofs.Common.{min, sym, ap, ◌∙◌}
use Rattle.pdw_memo.specs.Laws.{meanings_in}
use Rattle.pdw_sizes.proofs.MadeLaws.{key-rows}
use Rattle.pdw_sizes.specs.Numbered.{columns_at}
use Rattle.pdw_sizes.proofs.rows.key_rows.Goals as goal

pub returns-else-is_empty : goal.returns-else-is_empty
returns-else-is_empty c = λ of.
    c.min.ensures
    ∙ ap (min c.args.rows) (c.key_lists.ensures of)
    ∙ key-rows (columns_at c.args.book.now (meanings_in c.args.memo.now of) c.args.g.0) c.args.rows c.args.keys.now (sym c.is_empty.ensures ∙ c.if-is_empty.false)
