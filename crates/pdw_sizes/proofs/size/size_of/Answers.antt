use Rattle.std.proofs.Common.{sym, ap, ◌∙◌}
use Rattle.pdw_groups.specs.declared.group.Group.{Group}
use Rattle.pdw_memo.specs.Laws.{meanings_in}
use Rattle.pdw_sizes.proofs.ReadLaws.{size-is}
use Rattle.pdw_sizes.specs.Numbered.{rows_at}
use Rattle.pdw_sizes.proofs.size.size_of.Goals as goal

pub returns : goal.returns
returns c = λ of.
    size-is c.args.memo.now c.args.g.0 c.groups.result.now c.groups.ensures.groups c.index-groups-g.result c.index-groups-g.is c.requires c.args.book.now c.args.n of c.rows_at.result c.width_of.result
    c.cols-schema.result.now (c.cols-schema.ensures.columns ∙ ap (λ (group : Group). group.schema) (sym c.index-groups-g.is))
    (c.rows_at.ensures of ∙ ap (λ n. rows_at c.args.book.now (meanings_in c.args.memo.now of) n c.args.g.0) (c.from.ensures ∙ c.get.ensures.value)) (c.width_of.ensures of)
