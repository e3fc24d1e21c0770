use Rattle.pdw_memo.specs.Laws.{meanings_in}
use Rattle.pdw_sizes.proofs.RowsLemmas.{sizes-in}
use Rattle.pdw_sizes.proofs.laws.sizes_are_in_range.Goals as goal

pub returns : goal.returns
returns c contents memo book n range few = sizes-in book n memo.tables range few (meanings_in contents memo)
