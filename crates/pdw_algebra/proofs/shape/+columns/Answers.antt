use Rattle.pdw_algebra.proofs.PartLemmas.{columns-block}
use Rattle.pdw_algebra.proofs.shape.+columns.Goals as goal

pub columns_of-returns-in-Block : goal.columns_of-returns-in-Block
columns_of-returns-in-Block t c = rw (c.in-Block.is, columns-block, ← c.as_slice-in-Block.ensures) c.leaf_columns.ensures
