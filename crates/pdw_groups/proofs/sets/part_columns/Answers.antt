use Rattle.std.proofs.Common.{[], ◌++◌, take, sym, ap, ap₂, ◌∙◌, if◌then◌else◌}
use Rattle.pdw_groups.proofs.SetLemmas.{columns-one_more}
use Rattle.pdw_groups.specs.Level.{set_of}
use Rattle.pdw_groups.specs.Sets.{schemas}
use Rattle.pdw_parts.specs.Part.{columns_in}
use Rattle.pdw_groups.proofs.sets.part_columns.Goals as goal

pub loop-leaf-preserved : goal.loop-leaf-preserved
loop-leaf-preserved c =
    c.in_ok-add_if.ensures
    ∙ ap (λ some. some ++ (if c.has_leaf.result then c.cols.result.now else [])) c.loop-leaf.invariant
    ∙ ap₂ (λ there more. columns_in (set_of c.args.mask) (schemas (take c.loop-leaf.leaf c.args.sides.now)) ++ (if there then more else [])) c.has_leaf.ensures c.cols.ensures.columns
    ∙ sym (columns-one_more (set_of c.args.mask) c.args.sides.now c.loop-leaf.leaf c.index-sides-leaf.result c.loop-leaf-test.true c.index-sides-leaf.is)
