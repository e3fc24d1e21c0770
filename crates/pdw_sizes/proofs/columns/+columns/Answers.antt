use Rattle.std.proofs.Common.{◌<◌, Option, get_or, sym, ap, subst, ◌∙◌, arith, if◌then◌else◌}
use Rattle.std.proofs.lemmas.List.{take_all}
use Rattle.std.specs.List.{find}
use Rattle.std.specs.Map.{lookup}
use Rattle.std.specs.Option.{option_and_then, option_copied, option_or}
use Rattle.pdw_expr.specs.declared.agg.Agg.{Agg}
use Rattle.pdw_expr.specs.declared.scalar.Scalar.{Scalar}
use Rattle.pdw_groups.specs.Level.{set_of}
use Rattle.pdw_groups.specs.declared.key.GroupId.{GroupId}
use Rattle.pdw_memo.specs.Laws.{meanings_in}
use Rattle.pdw_parts.specs.Part.{chosen}
use Rattle.pdw_sizes.proofs.EstimateFolds.{expression_width-column}
use Rattle.pdw_sizes.proofs.FirstLaws.{filter-is, filter-smaller, filter-there, final-not, group-is, group-smaller, group-there, join-is, join-left, join-right, join-there, partial-is, partial-smaller, partial-there, project-is, project-smaller, project-there, scan-is, set-columns, set-few, set-smaller}
use Rattle.pdw_sizes.proofs.LoopLaws.{chosen-at, columns-more}
use Rattle.pdw_sizes.proofs.MadeLaws.{least-width, made-none, made-some, or-column}
use Rattle.pdw_sizes.specs.Estimate.{ColStats, Estimate, aggregate_columns, aggregate_width, argument_width, computed, expression_width, is_number, item_columns, known, scanned_columns}
use Rattle.pdw_sizes.specs.Numbered.{columns_at, set_columns}
use Rattle.pdw_sizes.specs.Reading.{IsRead, IsSet}
use Rattle.pdw_sizes.specs.declared.reading.Source.{Source}
use Rattle.pdw_stats.specs.Book.{stats_of}
use Rattle.pdw_stats.specs.declared.stats.ColStat.{ColStat}
use Rattle.pdw_sizes.proofs.columns.+columns.Goals as goal

pub aggregate_column-returns-in-Some : goal.aggregate_column-returns-in-Some
aggregate_column-returns-in-Some t c =
    λ of.
    made-some (λ (agg : Agg). computed (aggregate_width c.args.count agg.kind (argument_width (columns_at c.args.book.now (meanings_in c.args.memo.now of) c.args.child.0) agg.arg))) (columns_at c.args.book.now (meanings_in c.args.memo.now of) c.args.child.0 c.args.c) (find (λ (agg : Agg). is_number c.args.c agg.out) c.args.aggs.now)
    c.in-Some.agg.now c.computed.result (ap option_copied (sym c.in-Some.is) ∙ c.aggregate_of.ensures) (c.computed.ensures ∙ ap computed (c.aggregate_width.ensures of))

pub aggregate_column-returns-in-None : goal.aggregate_column-returns-in-None
aggregate_column-returns-in-None t c =
    λ of.
    made-none (λ (agg : Agg). computed (aggregate_width c.args.count agg.kind (argument_width (columns_at c.args.book.now (meanings_in c.args.memo.now of) c.args.child.0) agg.arg))) (columns_at c.args.book.now (meanings_in c.args.memo.now of) c.args.child.0 c.args.c) (find (λ (agg : Agg). is_number c.args.c agg.out) c.args.aggs.now)
    c.column_at.result (ap option_copied (sym c.in-None.is) ∙ c.aggregate_of.ensures) (c.column_at.ensures of)

pub aggregate_width-returns-in-Some : goal.aggregate_width-returns-in-Some
aggregate_width-returns-in-Some t c =
    λ of. c.expression_width.ensures of ∙ least-width (columns_at c.args.book.now (meanings_in c.args.memo.now of) c.args.child.0) c.args.count c.args.agg.now.kind c.args.agg.now.arg c.in-Some.argument c.in-Min.is c.in-Some.is

pub column_at-set_column-requires : goal.column_at-set_column-requires
column_at-set_column-requires t c =
    let read : IsSet c.args.memo.now c.args.g.0 c.in-Set.part.now c.in-Set.leaves c.in-Set.schema.now = subst (λ (s : Source). IsRead c.args.memo.now c.args.g.0 s) c.in-Set.is c.read.ensures in
    (omega (arith, c.decreases), (c.requires, (set-few c.args.memo.now c.args.g.0 c.in-Set.part.now c.in-Set.leaves c.in-Set.schema.now read c.as_slice.result.now c.as_slice.ensures, set-smaller c.args.memo.now c.args.g.0 c.in-Set.part.now c.in-Set.leaves c.in-Set.schema.now read c.as_slice.result.now c.as_slice.ensures)))

pub column_at-returns-in-Set : goal.column_at-returns-in-Set
column_at-returns-in-Set t c =
    λ of.
    let read : IsSet c.args.memo.now c.args.g.0 c.in-Set.part.now c.in-Set.leaves c.in-Set.schema.now = subst (λ (s : Source). IsRead c.args.memo.now c.args.g.0 s) c.in-Set.is c.read.ensures in
    c.set_column.ensures of ∙ sym (ap (λ (columns : ColStats). columns c.args.c) (set-columns c.args.memo.now c.args.g.0 c.in-Set.part.now c.in-Set.leaves c.in-Set.schema.now read c.as_slice.result.now c.as_slice.ensures c.args.book.now 0 of))

pub column_or-returns-in-None : goal.column_or-returns-in-None
column_or-returns-in-None t c =
    λ of.
    c.column_at.ensures of ∙ or-column c.args.is_in c.args.found (columns_at c.args.book.now (meanings_in c.args.memo.now of) c.args.leaf.0 c.args.c) c.if-not-is_in.false c.in-None.is

pub expression_width-returns-in-Col : goal.expression_width-returns-in-Col
expression_width-returns-in-Col t c =
    λ of.
    ap (λ (column : ColStat). column.width) (c.known.ensures ∙ ap known (c.column_at.ensures of))
    ∙ sym (ap (expression_width (columns_at c.args.book.now (meanings_in c.args.memo.now of) c.args.child.0)) c.in-Col.is ∙ expression_width-column (columns_at c.args.book.now (meanings_in c.args.memo.now of) c.args.child.0) c.in-Col.c)

pub item_column-returns-in-Some : goal.item_column-returns-in-Some
item_column-returns-in-Some t c =
    λ of.
    made-some (λ (made : Scalar). computed (expression_width (columns_at c.args.book.now (meanings_in c.args.memo.now of) c.args.child.0) made)) (columns_at c.args.book.now (meanings_in c.args.memo.now of) c.args.child.0 c.args.c) (option_and_then {T = Option Scalar} {U = Scalar} (λ item. item) (lookup (is_number c.args.c) c.args.items.now))
    c.in-Some.made.now c.computed.result (ap option_copied (sym c.in-Some.is) ∙ c.item_of.ensures) (c.computed.ensures ∙ ap computed (c.expression_width.ensures of))

pub item_column-returns-in-None : goal.item_column-returns-in-None
item_column-returns-in-None t c =
    λ of.
    made-none (λ (made : Scalar). computed (expression_width (columns_at c.args.book.now (meanings_in c.args.memo.now of) c.args.child.0) made)) (columns_at c.args.book.now (meanings_in c.args.memo.now of) c.args.child.0 c.args.c) (option_and_then {T = Option Scalar} {U = Scalar} (λ item. item) (lookup (is_number c.args.c) c.args.items.now))
    c.column_at.result (ap option_copied (sym c.in-None.is) ∙ c.item_of.ensures) (c.column_at.ensures of)

pub made_column-child_at-requires : goal.made_column-child_at-requires
made_column-child_at-requires t c =
    filter-there c.args.memo.now c.args.g.0 c.args.expr.now c.requires.read c.as_slice-children.result.now c.as_slice-children.ensures c.in-Filter.conds c.in-Filter.is

pub made_column-child_at-requires-in-Project : goal.made_column-child_at-requires-in-Project
made_column-child_at-requires-in-Project t c =
    project-there c.args.memo.now c.args.g.0 c.args.expr.now c.requires.read c.as_slice-children.result.now c.as_slice-children.ensures c.in-Project.items c.in-Project.is

pub made_column-child_at-requires-in-Join : goal.made_column-child_at-requires-in-Join
made_column-child_at-requires-in-Join t c =
    let two = join-there c.args.memo.now c.args.g.0 c.args.expr.now c.requires.read c.as_slice-children.result.now c.as_slice-children.ensures c.in-Join.kind c.in-Join.conds c.in-Join.is in
    omega (arith, two)

pub made_column-child_at-requires-in-Join-2 : goal.made_column-child_at-requires-in-Join-2
made_column-child_at-requires-in-Join-2 t c =
    join-there c.args.memo.now c.args.g.0 c.args.expr.now c.requires.read c.as_slice-children.result.now c.as_slice-children.ensures c.in-Join.kind c.in-Join.conds c.in-Join.is

pub made_column-child_at-requires-in-GroupBy : goal.made_column-child_at-requires-in-GroupBy
made_column-child_at-requires-in-GroupBy t c =
    group-there c.args.memo.now c.args.g.0 c.args.expr.now c.requires.read c.as_slice-children.result.now c.as_slice-children.ensures c.in-GroupBy.keys c.in-GroupBy.aggs c.in-GroupBy.is

pub made_column-child_at-requires-in-Partial : goal.made_column-child_at-requires-in-Partial
made_column-child_at-requires-in-Partial t c =
    partial-there c.args.memo.now c.args.g.0 c.args.expr.now c.requires.read c.as_slice-children.result.now c.as_slice-children.ensures c.in-Partial.keys c.in-Partial.aggs c.in-Partial.is

pub made_column-column_at-requires : goal.made_column-column_at-requires
made_column-column_at-requires t c =
    let less = filter-smaller c.args.memo.now c.args.g.0 c.args.expr.now c.requires.read c.as_slice-children.result.now c.as_slice-children.ensures c.in-Filter.conds c.in-Filter.is c.child_at.result c.child_at.ensures in
    (omega (arith, less, c.decreases), omega (arith, less, c.requires.inside))

pub made_column-item_column-requires : goal.made_column-item_column-requires
made_column-item_column-requires t c =
    let less = project-smaller c.args.memo.now c.args.g.0 c.args.expr.now c.requires.read c.as_slice-children.result.now c.as_slice-children.ensures c.in-Project.items c.in-Project.is c.child_at-in-Project.result c.child_at-in-Project.ensures in
    (omega (arith, less, c.decreases), omega (arith, less, c.requires.inside))

pub made_column-column_at-left-requires : goal.made_column-column_at-left-requires
made_column-column_at-left-requires t c =
    let less = join-left c.args.memo.now c.args.g.0 c.args.expr.now c.requires.read c.as_slice-children.result.now c.as_slice-children.ensures c.in-Join.kind c.in-Join.conds c.in-Join.is c.child_at-in-Join.result c.child_at-in-Join.ensures in
    (omega (arith, less, c.decreases), omega (arith, less, c.requires.inside))

pub made_column-aggregate_column-requires : goal.made_column-aggregate_column-requires
made_column-aggregate_column-requires t c =
    let less = group-smaller c.args.memo.now c.args.g.0 c.args.expr.now c.requires.read c.as_slice-children.result.now c.as_slice-children.ensures c.in-GroupBy.keys c.in-GroupBy.aggs c.in-GroupBy.is c.child_at-in-GroupBy.result c.child_at-in-GroupBy.ensures in
    (omega (arith, less, c.decreases), omega (arith, less, c.requires.inside))

pub made_column-aggregate_column-requires-in-Partial : goal.made_column-aggregate_column-requires-in-Partial
made_column-aggregate_column-requires-in-Partial t c =
    let less = partial-smaller c.args.memo.now c.args.g.0 c.args.expr.now c.requires.read c.as_slice-children.result.now c.as_slice-children.ensures c.in-Partial.keys c.in-Partial.aggs c.in-Partial.is c.child_at-in-Partial.result c.child_at-in-Partial.ensures in
    (omega (arith, less, c.decreases), omega (arith, less, c.requires.inside))

pub made_column-column_or-requires : goal.made_column-column_or-requires
made_column-column_or-requires t c =
    (omega (arith, c.decreases), (c.requires.inside, λ is. join-right c.args.memo.now c.args.g.0 c.args.expr.now c.requires.read c.as_slice-children.result.now c.as_slice-children.ensures c.in-Join.kind c.in-Join.conds c.in-Join.is c.child_at-in-Join-2.result c.child_at-in-Join-2.ensures))

pub made_column-returns-in-Scan : goal.made_column-returns-in-Scan
made_column-returns-in-Scan t c =
    λ of.
    c.scanned_column.ensures
    ∙ ap (λ cols. scanned_columns (stats_of c.in-Scan.table c.args.book.now) cols c.args.c) c.as_slice.ensures
    ∙ sym (ap (λ (e : Estimate). e.columns c.args.c) (scan-is c.args.memo.now c.args.g.0 c.args.expr.now c.requires.read c.as_slice-children.result.now c.as_slice-children.ensures c.args.book.now 0 of c.in-Scan.table c.in-Scan.alias c.in-Scan.cols c.in-Scan.hash c.in-Scan.replicated c.in-Scan.is))

pub made_column-returns-in-Filter : goal.made_column-returns-in-Filter
made_column-returns-in-Filter t c =
    λ of. c.column_at.ensures of ∙ sym (ap (λ (e : Estimate). e.columns c.args.c) (filter-is c.args.memo.now c.args.g.0 c.args.expr.now c.requires.read c.as_slice-children.result.now c.as_slice-children.ensures c.args.book.now 0 of c.in-Filter.conds c.in-Filter.is c.child_at.result c.child_at.ensures))

pub made_column-returns-in-Project : goal.made_column-returns-in-Project
made_column-returns-in-Project t c =
    λ of.
    c.item_column.ensures of
    ∙ ap (λ items. item_columns (columns_at c.args.book.now (meanings_in c.args.memo.now of) c.child_at-in-Project.result.0) items c.args.c) c.as_slice-in-Project.ensures
    ∙ sym (ap (λ (e : Estimate). e.columns c.args.c) (project-is c.args.memo.now c.args.g.0 c.args.expr.now c.requires.read c.as_slice-children.result.now c.as_slice-children.ensures c.args.book.now 0 of c.in-Project.items c.in-Project.is c.child_at-in-Project.result c.child_at-in-Project.ensures))

pub made_column-returns-in-Join : goal.made_column-returns-in-Join
made_column-returns-in-Join t c =
    λ of.
    c.column_or.ensures of
    ∙ ap (λ found. option_or found (columns_at c.args.book.now (meanings_in c.args.memo.now of) c.child_at-in-Join-2.result.0 c.args.c)) (c.column_at-left.ensures of)
    ∙ sym (ap (λ (e : Estimate). e.columns c.args.c) (join-is c.args.memo.now c.args.g.0 c.args.expr.now c.requires.read c.as_slice-children.result.now c.as_slice-children.ensures c.args.book.now 0 of c.in-Join.kind c.in-Join.conds c.in-Join.is c.child_at-in-Join.result c.child_at-in-Join-2.result c.child_at-in-Join.ensures c.child_at-in-Join-2.ensures))

pub made_column-returns-in-GroupBy : goal.made_column-returns-in-GroupBy
made_column-returns-in-GroupBy t c =
    λ of.
    c.aggregate_column.ensures of
    ∙ ap (λ aggs. aggregate_columns 8 (columns_at c.args.book.now (meanings_in c.args.memo.now of) c.child_at-in-GroupBy.result.0) aggs c.args.c) c.as_slice-in-GroupBy.ensures
    ∙ sym (ap (λ (e : Estimate). e.columns c.args.c) (group-is c.args.memo.now c.args.g.0 c.args.expr.now c.requires.read c.as_slice-children.result.now c.as_slice-children.ensures c.args.book.now 0 of c.in-GroupBy.keys c.in-GroupBy.aggs c.in-GroupBy.is c.child_at-in-GroupBy.result c.child_at-in-GroupBy.ensures))

pub made_column-returns-in-Partial : goal.made_column-returns-in-Partial
made_column-returns-in-Partial t c =
    λ of.
    c.aggregate_column-in-Partial.ensures of
    ∙ ap (λ aggs. aggregate_columns 16 (columns_at c.args.book.now (meanings_in c.args.memo.now of) c.child_at-in-Partial.result.0) aggs c.args.c) c.as_slice-in-Partial.ensures
    ∙ sym (ap (λ (e : Estimate). e.columns c.args.c) (partial-is c.args.memo.now c.args.g.0 c.args.expr.now c.requires.read c.as_slice-children.result.now c.as_slice-children.ensures c.args.book.now 0 of c.in-Partial.keys c.in-Partial.aggs c.in-Partial.is c.child_at-in-Partial.result c.child_at-in-Partial.ensures))

pub made_column-returns-in-Final : goal.made_column-returns-in-Final
made_column-returns-in-Final t c =
    λ of. absurd (final-not c.args.memo.now c.args.g.0 c.args.expr.now c.requires.read c.as_slice-children.result.now c.as_slice-children.ensures c.in-Final.keys c.in-Final.aggs c.in-Final.is)

pub set_column-column_or-found-requires : goal.set_column-column_or-found-requires
set_column-column_or-found-requires t c = (
  omega (arith, c.decreases),
  (
    c.requires.inside,
    λ is. chosen-at (λ (leaf : GroupId). leaf.0 < c.args.g.0) (set_of c.args.leaves) c.args.all.now c.loop-place.place (record { 0 = 0 }) c.requires.smaller c.loop-place-test.true (sym c.has_leaf.ensures ∙ is),
  ),
)

pub set_column-loop-place-preserved : goal.set_column-loop-place-preserved
set_column-loop-place-preserved t c =
    λ of.
    c.column_or-found.ensures of
    ∙ (λ i. if c.has_leaf.ensures i then option_or (c.loop-place.invariant of i) (columns_at c.args.book.now (meanings_in c.args.memo.now of) (get_or c.args.all.now c.loop-place.place (record { 0 = 0 })).0 c.args.c) else c.loop-place.invariant of i)
    ∙ sym (columns-more c.args.book.now (meanings_in c.args.memo.now of) (set_of c.args.leaves) c.args.all.now c.loop-place.place (record { 0 = 0 }) c.loop-place-test.true c.args.c)

pub set_column-returns : goal.set_column-returns
set_column-returns t c =
    λ of.
    c.loop-place.invariant of ∙ ap (λ all. set_columns c.args.book.now (meanings_in c.args.memo.now of) (chosen (set_of c.args.leaves) all) c.args.c) (take_all c.loop-place.place c.args.all.now c.loop-place-test.false)
