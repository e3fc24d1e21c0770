use Rattle.std.proofs.Common.{◌∙◌, ap, ap₂}
use Rattle.pdw_groups.specs.Memo.{all_written}
use Rattle.pdw_memo.specs.Building.{with_tree}
use Rattle.pdw_memo.specs.declared.building.Building.{Building}
use Rattle.pdw_memo.proofs.making.initial.Goals as goal

pub from_parts-requires : goal.from_parts-requires
from_parts-requires c = record {
  tables = c.args.catalog.now;
  levels = all_written;
  tree = c.args.tree.now;
  plannable = c.requires;
  is =
      ap (λ (b : Building). record { groups = b.groups; blocks = b.blocks })
      (c.in_ok-add_tree.ensures ∙ ap₂ (λ useful start. with_tree c.args.catalog.now useful start c.args.tree.now) (c.as_slice.ensures.value ∙ c.in_ok-useful.ensures) c.new-building.ensures);
}
