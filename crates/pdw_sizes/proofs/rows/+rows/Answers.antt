use Rattle.std.proofs.Common.{◌<◌, get_or, sym, ap, ap₂, subst, ◌∙◌, arith, if◌then◌else◌}
use Rattle.std.proofs.lemmas.List.{take_all}
use Rattle.pdw_groups.specs.Level.{set_of}
use Rattle.pdw_groups.specs.declared.key.GroupId.{GroupId}
use Rattle.pdw_memo.specs.Laws.{meanings_in}
use Rattle.pdw_parts.specs.Part.{chosen}
use Rattle.pdw_sizes.proofs.FirstLaws.{filter-rows, filter-smaller, filter-there, final-not, group-is, group-smaller, group-there, join-left, join-right, join-rows, join-there, partial-is, partial-smaller, partial-there, project-is, project-smaller, project-there, scan-is, set-few, set-rows, set-smaller}
use Rattle.pdw_sizes.proofs.LoopLaws.{chosen-at, rows-more}
use Rattle.pdw_sizes.specs.Estimate.{Estimate, join_rows, key_rows, rows_left, times}
use Rattle.pdw_sizes.specs.Numbered.{columns_at, rows_at, set_rows}
use Rattle.pdw_sizes.specs.Reading.{IsRead, IsSet}
use Rattle.pdw_sizes.specs.Sizes.{partial_rows}
use Rattle.pdw_sizes.specs.declared.reading.Source.{Source}
use Rattle.pdw_sizes.proofs.rows.+rows.Goals as goal

pub made_rows-child_at-requires : goal.made_rows-child_at-requires
made_rows-child_at-requires t c =
    filter-there c.args.memo.now c.args.g.0 c.args.expr.now c.requires.read c.as_slice-children.result.now c.as_slice-children.ensures c.in-Filter.conds c.in-Filter.is

pub made_rows-child_at-requires-in-Project : goal.made_rows-child_at-requires-in-Project
made_rows-child_at-requires-in-Project t c =
    project-there c.args.memo.now c.args.g.0 c.args.expr.now c.requires.read c.as_slice-children.result.now c.as_slice-children.ensures c.in-Project.items c.in-Project.is

pub made_rows-child_at-requires-in-Join : goal.made_rows-child_at-requires-in-Join
made_rows-child_at-requires-in-Join t c =
    let two = join-there c.args.memo.now c.args.g.0 c.args.expr.now c.requires.read c.as_slice-children.result.now c.as_slice-children.ensures c.in-Join.kind c.in-Join.conds c.in-Join.is in
    omega (arith, two)

pub made_rows-child_at-requires-in-Join-2 : goal.made_rows-child_at-requires-in-Join-2
made_rows-child_at-requires-in-Join-2 t c =
    join-there c.args.memo.now c.args.g.0 c.args.expr.now c.requires.read c.as_slice-children.result.now c.as_slice-children.ensures c.in-Join.kind c.in-Join.conds c.in-Join.is

pub made_rows-child_at-child-requires : goal.made_rows-child_at-child-requires
made_rows-child_at-child-requires t c =
    group-there c.args.memo.now c.args.g.0 c.args.expr.now c.requires.read c.as_slice-children.result.now c.as_slice-children.ensures c.in-GroupBy.keys c.in-GroupBy.aggs c.in-GroupBy.is

pub made_rows-child_at-child-requires-in-Partial : goal.made_rows-child_at-child-requires-in-Partial
made_rows-child_at-child-requires-in-Partial t c =
    partial-there c.args.memo.now c.args.g.0 c.args.expr.now c.requires.read c.as_slice-children.result.now c.as_slice-children.ensures c.in-Partial.keys c.in-Partial.aggs c.in-Partial.is

pub made_rows-rows_at-rows-requires : goal.made_rows-rows_at-rows-requires
made_rows-rows_at-rows-requires t c =
    let less = filter-smaller c.args.memo.now c.args.g.0 c.args.expr.now c.requires.read c.as_slice-children.result.now c.as_slice-children.ensures c.in-Filter.conds c.in-Filter.is c.child_at.result c.child_at.ensures in
    (omega (arith, less, c.decreases), omega (arith, less, c.requires.inside))

pub made_rows-rows_at-requires : goal.made_rows-rows_at-requires
made_rows-rows_at-requires t c =
    let less = project-smaller c.args.memo.now c.args.g.0 c.args.expr.now c.requires.read c.as_slice-children.result.now c.as_slice-children.ensures c.in-Project.items c.in-Project.is c.child_at-in-Project.result c.child_at-in-Project.ensures in
    (omega (arith, less, c.decreases), omega (arith, less, c.requires.inside))

pub made_rows-rows_at-left-requires : goal.made_rows-rows_at-left-requires
made_rows-rows_at-left-requires t c =
    let less = join-left c.args.memo.now c.args.g.0 c.args.expr.now c.requires.read c.as_slice-children.result.now c.as_slice-children.ensures c.in-Join.kind c.in-Join.conds c.in-Join.is c.child_at-in-Join.result c.child_at-in-Join.ensures in
    (omega (arith, less, c.decreases), omega (arith, less, c.requires.inside))

pub made_rows-rows_at-right-requires : goal.made_rows-rows_at-right-requires
made_rows-rows_at-right-requires t c =
    let less = join-right c.args.memo.now c.args.g.0 c.args.expr.now c.requires.read c.as_slice-children.result.now c.as_slice-children.ensures c.in-Join.kind c.in-Join.conds c.in-Join.is c.child_at-in-Join-2.result c.child_at-in-Join-2.ensures in
    (omega (arith, less, c.decreases), omega (arith, less, c.requires.inside))

pub made_rows-rows_at-rows-requires-in-GroupBy : goal.made_rows-rows_at-rows-requires-in-GroupBy
made_rows-rows_at-rows-requires-in-GroupBy t c =
    let less = group-smaller c.args.memo.now c.args.g.0 c.args.expr.now c.requires.read c.as_slice-children.result.now c.as_slice-children.ensures c.in-GroupBy.keys c.in-GroupBy.aggs c.in-GroupBy.is c.child_at-child.result c.child_at-child.ensures in
    (omega (arith, less, c.decreases), omega (arith, less, c.requires.inside))

pub made_rows-rows_at-rows-requires-in-Partial : goal.made_rows-rows_at-rows-requires-in-Partial
made_rows-rows_at-rows-requires-in-Partial t c =
    let less = partial-smaller c.args.memo.now c.args.g.0 c.args.expr.now c.requires.read c.as_slice-children.result.now c.as_slice-children.ensures c.in-Partial.keys c.in-Partial.aggs c.in-Partial.is c.child_at-child-in-Partial.result c.child_at-child-in-Partial.ensures in
    (omega (arith, less, c.decreases), omega (arith, less, c.requires.inside))

pub made_rows-key_rows-requires : goal.made_rows-key_rows-requires
made_rows-key_rows-requires t c =
    let less = group-smaller c.args.memo.now c.args.g.0 c.args.expr.now c.requires.read c.as_slice-children.result.now c.as_slice-children.ensures c.in-GroupBy.keys c.in-GroupBy.aggs c.in-GroupBy.is c.child_at-child.result c.child_at-child.ensures in
    omega (arith, less, c.requires.inside)

pub made_rows-key_rows-requires-in-Partial : goal.made_rows-key_rows-requires-in-Partial
made_rows-key_rows-requires-in-Partial t c =
    let less = partial-smaller c.args.memo.now c.args.g.0 c.args.expr.now c.requires.read c.as_slice-children.result.now c.as_slice-children.ensures c.in-Partial.keys c.in-Partial.aggs c.in-Partial.is c.child_at-child-in-Partial.result c.child_at-child-in-Partial.ensures in
    omega (arith, less, c.requires.inside)

pub made_rows-returns-in-Scan : goal.made_rows-returns-in-Scan
made_rows-returns-in-Scan t c =
    λ of. c.table_rows.ensures ∙ sym (ap (λ (e : Estimate). e.rows) (scan-is c.args.memo.now c.args.g.0 c.args.expr.now c.requires.read c.as_slice-children.result.now c.as_slice-children.ensures c.args.book.now c.args.n of c.in-Scan.table c.in-Scan.alias c.in-Scan.cols c.in-Scan.hash c.in-Scan.replicated c.in-Scan.is))

pub made_rows-returns-in-Filter : goal.made_rows-returns-in-Filter
made_rows-returns-in-Filter t c =
    λ of.
    c.rows_left.ensures of ∙ filter-rows c.args.memo.now c.args.g.0 c.args.expr.now c.requires.read c.as_slice-children.result.now c.as_slice-children.ensures c.args.book.now c.args.n of c.in-Filter.conds c.in-Filter.is c.child_at.result c.child_at.ensures c.rows_at-rows.result c.as_slice.result.now (c.rows_at-rows.ensures of) c.as_slice.ensures

pub made_rows-returns-in-Project : goal.made_rows-returns-in-Project
made_rows-returns-in-Project t c =
    λ of. c.rows_at.ensures of ∙ sym (ap (λ (e : Estimate). e.rows) (project-is c.args.memo.now c.args.g.0 c.args.expr.now c.requires.read c.as_slice-children.result.now c.as_slice-children.ensures c.args.book.now c.args.n of c.in-Project.items c.in-Project.is c.child_at-in-Project.result c.child_at-in-Project.ensures))

pub made_rows-returns-in-Join : goal.made_rows-returns-in-Join
made_rows-returns-in-Join t c =
    λ of.
    c.join_rows.ensures
    ∙ ap (λ joined. join_rows c.in-Join.kind joined c.rows_at-left.result c.rows_at-right.result) (c.rows_left-joined.ensures of ∙ ap (λ pairs. rows_left (columns_at c.args.book.now (meanings_in c.args.memo.now of) c.args.g.0) pairs c.as_slice-in-Join.result.now) c.times.ensures)
    ∙ join-rows c.args.memo.now c.args.g.0 c.args.expr.now c.requires.read c.as_slice-children.result.now c.as_slice-children.ensures c.args.book.now c.args.n of c.in-Join.kind c.in-Join.conds c.in-Join.is c.child_at-in-Join.result c.child_at-in-Join-2.result c.child_at-in-Join.ensures c.child_at-in-Join-2.ensures c.rows_at-left.result c.rows_at-right.result c.as_slice-in-Join.result.now
    (c.rows_at-left.ensures of) (c.rows_at-right.ensures of) c.as_slice-in-Join.ensures

pub made_rows-returns-in-GroupBy : goal.made_rows-returns-in-GroupBy
made_rows-returns-in-GroupBy t c =
    λ of.
    c.key_rows.ensures of
    ∙ ap₂ (key_rows (columns_at c.args.book.now (meanings_in c.args.memo.now of) c.child_at-child.result.0)) (c.rows_at-rows-in-GroupBy.ensures of) c.as_slice-in-GroupBy.ensures
    ∙ sym (ap (λ (e : Estimate). e.rows) (group-is c.args.memo.now c.args.g.0 c.args.expr.now c.requires.read c.as_slice-children.result.now c.as_slice-children.ensures c.args.book.now c.args.n of c.in-GroupBy.keys c.in-GroupBy.aggs c.in-GroupBy.is c.child_at-child.result c.child_at-child.ensures))

pub made_rows-returns-in-Partial : goal.made_rows-returns-in-Partial
made_rows-returns-in-Partial t c =
    λ of.
    let groups = c.key_rows-in-Partial.ensures of ∙ ap₂ (key_rows (columns_at c.args.book.now (meanings_in c.args.memo.now of) c.child_at-child-in-Partial.result.0)) (c.rows_at-rows-in-Partial.ensures of) c.as_slice-keys.ensures in
    c.partial_rows.ensures
    ∙ (λ i. partial_rows c.args.n (groups i) (c.rows_at-rows-in-Partial.ensures of i) (c.as_slice-keys.ensures i))
    ∙ sym (ap (λ (e : Estimate). e.rows) (partial-is c.args.memo.now c.args.g.0 c.args.expr.now c.requires.read c.as_slice-children.result.now c.as_slice-children.ensures c.args.book.now c.args.n of c.in-Partial.keys c.in-Partial.aggs c.in-Partial.is c.child_at-child-in-Partial.result c.child_at-child-in-Partial.ensures))

pub made_rows-returns-in-Final : goal.made_rows-returns-in-Final
made_rows-returns-in-Final t c =
    λ of. absurd (final-not c.args.memo.now c.args.g.0 c.args.expr.now c.requires.read c.as_slice-children.result.now c.as_slice-children.ensures c.in-Final.keys c.in-Final.aggs c.in-Final.is)

pub rows_at-set_rows-rows-requires : goal.rows_at-set_rows-rows-requires
rows_at-set_rows-rows-requires t c =
    let read : IsSet c.args.memo.now c.args.g.0 c.in-Set.part.now c.in-Set.leaves c.in-Set.schema.now = subst (λ (s : Source). IsRead c.args.memo.now c.args.g.0 s) c.in-Set.is c.read.ensures in
    (omega (arith, c.decreases), (c.requires, (set-few c.args.memo.now c.args.g.0 c.in-Set.part.now c.in-Set.leaves c.in-Set.schema.now read c.as_slice.result.now c.as_slice.ensures, set-smaller c.args.memo.now c.args.g.0 c.in-Set.part.now c.in-Set.leaves c.in-Set.schema.now read c.as_slice.result.now c.as_slice.ensures)))

pub rows_at-returns-in-Set : goal.rows_at-returns-in-Set
rows_at-returns-in-Set t c =
    λ of.
    let read : IsSet c.args.memo.now c.args.g.0 c.in-Set.part.now c.in-Set.leaves c.in-Set.schema.now = subst (λ (s : Source). IsRead c.args.memo.now c.args.g.0 s) c.in-Set.is c.read.ensures in
    c.rows_inside.ensures of ∙ set-rows c.args.memo.now c.args.g.0 c.in-Set.part.now c.in-Set.leaves c.in-Set.schema.now read c.as_slice.result.now c.as_slice.ensures c.args.book.now c.args.n of c.set_rows-rows.result c.as_slice-in-Set.result.now (c.set_rows-rows.ensures of) c.as_slice-in-Set.ensures

pub rows_times-returns-then-is_in : goal.rows_times-returns-then-is_in
rows_times-returns-then-is_in t c =
    λ of.
    c.times.ensures
    ∙ ap (times c.args.rows) (c.rows_at.ensures of)
    ∙ sym (ap (λ b. if b then times c.args.rows (rows_at c.args.book.now (meanings_in c.args.memo.now of) c.args.n c.args.leaf.0) else c.args.rows) c.if-is_in.true)

pub set_rows-rows_times-rows-requires : goal.set_rows-rows_times-rows-requires
set_rows-rows_times-rows-requires t c = (
  omega (arith, c.decreases),
  (
    c.requires.inside,
    λ is. chosen-at (λ (leaf : GroupId). leaf.0 < c.args.g.0) (set_of c.args.leaves) c.args.all.now c.loop-place.place (record { 0 = 0 }) c.requires.smaller c.loop-place-test.true (sym c.has_leaf.ensures ∙ is),
  ),
)

pub set_rows-loop-place-preserved : goal.set_rows-loop-place-preserved
set_rows-loop-place-preserved t c =
    λ of.
    c.rows_times-rows.ensures of
    ∙ (λ i. if c.has_leaf.ensures i then times (c.loop-place.invariant of i) (rows_at c.args.book.now (meanings_in c.args.memo.now of) c.args.n (get_or c.args.all.now c.loop-place.place (record { 0 = 0 })).0) else c.loop-place.invariant of i)
    ∙ sym (rows-more c.args.book.now (meanings_in c.args.memo.now of) (set_of c.args.leaves) c.args.all.now c.loop-place.place (record { 0 = 0 }) c.loop-place-test.true c.args.n)

pub set_rows-returns : goal.set_rows-returns
set_rows-returns t c =
    λ of.
    c.loop-place.invariant of ∙ ap (λ all. set_rows c.args.book.now (meanings_in c.args.memo.now of) c.args.n (chosen (set_of c.args.leaves) all)) (take_all c.loop-place.place c.args.all.now c.loop-place-test.false)
