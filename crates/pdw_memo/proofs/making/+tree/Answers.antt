use Rattle.std.proofs.Common.{◌∙◌, arith}
use Rattle.pdw_groups.proofs.ColumnLemmas.{OnOk-map}
use Rattle.pdw_memo.proofs.LeafStep.{leaf-less, nodes-next, room-leaf, room-next, room-none, sides-next, some-next, sound-leaf, sound-rest}
use Rattle.pdw_memo.proofs.TreeStep.{after-child, after-right, block-made, block-room, child-part, few-sides, filter-has, filter-made, group-has, group-made, join-made, leaves-less, leaves-room, leaves-sound, left-few, left-part, left-some, project-has, project-made, right-part}
use Rattle.pdw_memo.proofs.making.+tree.Goals as goal

pub add_leaves-last_side-requires-clause-some : goal.add_leaves-last_side-requires-clause-some
add_leaves-last_side-requires-clause-some t c =
    some-next c.args.catalog.now c.args.leaves.now c.loop-leaf.leaf-index c.leaf-item.result c.loop-leaf-test.true c.leaf-item.is c.loop-leaf.building c.args.useful.now c.loop-leaf.invariant.sound c.add_tree.new.building c.in_ok-add_tree.ensures

pub add_leaves-last_side-requires-clause-room : goal.add_leaves-last_side-requires-clause-room
add_leaves-last_side-requires-clause-room t c =
    room-none c.args.catalog.now c.args.leaves.now c.loop-leaf.leaf-index c.leaf-item.result c.loop-leaf-test.true c.leaf-item.is c.loop-leaf.building c.args.useful.now c.loop-leaf.invariant.sound c.add_tree.new.building c.in_ok-add_tree.ensures
    c.loop-leaf.invariant.room

pub add_leaves-loop-leaf-preserved : goal.add_leaves-loop-leaf-preserved
add_leaves-loop-leaf-preserved t c = record {
  nodes =
      nodes-next c.args.catalog.now c.args.leaves.now c.loop-leaf.leaf-index c.leaf-item.result c.loop-leaf-test.true c.leaf-item.is c.loop-leaf.building c.args.useful.now c.loop-leaf.invariant.sound c.add_tree.new.building
      c.in_ok-add_tree.ensures _ c.loop-leaf.invariant.nodes;
  sides =
      sides-next c.args.catalog.now c.args.leaves.now c.loop-leaf.leaf-index c.leaf-item.result c.loop-leaf-test.true c.leaf-item.is c.loop-leaf.building c.args.useful.now c.loop-leaf.invariant.sound c.add_tree.new.building
      c.in_ok-add_tree.ensures c.in_ok-last_side.field-0 c.loop-leaf.sides.items _ _ c.in_ok-last_side.ensures c.loop-leaf.invariant.sides c.in_ok-push.ensures.items;
  room =
      room-next c.args.catalog.now c.args.leaves.now c.loop-leaf.leaf-index c.leaf-item.result c.loop-leaf-test.true c.leaf-item.is c.loop-leaf.building c.args.useful.now c.loop-leaf.invariant.sound c.add_tree.new.building
      c.in_ok-add_tree.ensures c.loop-leaf.invariant.room;
  sound = sound-rest c.args.catalog.now c.args.leaves.now c.loop-leaf.leaf-index c.leaf-item.result c.loop-leaf-test.true c.leaf-item.is c.loop-leaf.building c.loop-leaf.invariant.sound;
}

pub add_tree-add_filter-requires-clause-some : goal.add_tree-add_filter-requires-clause-some
add_tree-add_filter-requires-clause-some t c =
    (after-child c.args.catalog.now c.args.useful.now c.args.building.now c.args.tree.now c.in-Filter.child c.get.result.now c.add_tree.new.building
    (filter-has c.args.catalog.now c.args.tree.now c.in-Filter.conds c.in-Filter.child c.in-Filter.is c.requires.sound) c.get.ensures c.in_ok-add_tree-in-Filter.ensures c.requires.room).some

pub add_tree-add_filter-requires-clause-room : goal.add_tree-add_filter-requires-clause-room
add_tree-add_filter-requires-clause-room t c =
    (after-child c.args.catalog.now c.args.useful.now c.args.building.now c.args.tree.now c.in-Filter.child c.get.result.now c.add_tree.new.building
    (filter-has c.args.catalog.now c.args.tree.now c.in-Filter.conds c.in-Filter.child c.in-Filter.is c.requires.sound) c.get.ensures c.in_ok-add_tree-in-Filter.ensures c.requires.room).room

pub add_tree-returns-in_ok-add_tree-in-Filter : goal.add_tree-returns-in_ok-add_tree-in-Filter
add_tree-returns-in_ok-add_tree-in-Filter t c =
    OnOk-map c.add_filter.result (λ added.
    filter-made c.args.catalog.now c.args.useful.now c.args.building.now c.args.tree.now c.in-Filter.conds c.as_slice.result.now c.in-Filter.child c.get.result.now c.add_tree.new.building _
    c.in-Filter.is c.requires.sound c.as_slice.ensures c.get.ensures c.in_ok-add_tree-in-Filter.ensures added)
    c.add_filter.ensures

pub add_tree-add_project-requires-clause-some : goal.add_tree-add_project-requires-clause-some
add_tree-add_project-requires-clause-some t c =
    (after-child c.args.catalog.now c.args.useful.now c.args.building.now c.args.tree.now c.in-Project.child c.get-in-Project.result.now c.add_tree-in-Project.new.building
    (project-has c.args.catalog.now c.args.tree.now c.in-Project.items c.in-Project.child c.in-Project.is c.requires.sound) c.get-in-Project.ensures c.in_ok-add_tree-in-Project.ensures c.requires.room).some

pub add_tree-add_project-requires-clause-room : goal.add_tree-add_project-requires-clause-room
add_tree-add_project-requires-clause-room t c =
    (after-child c.args.catalog.now c.args.useful.now c.args.building.now c.args.tree.now c.in-Project.child c.get-in-Project.result.now c.add_tree-in-Project.new.building
    (project-has c.args.catalog.now c.args.tree.now c.in-Project.items c.in-Project.child c.in-Project.is c.requires.sound) c.get-in-Project.ensures c.in_ok-add_tree-in-Project.ensures c.requires.room).room

pub add_tree-returns-in_ok-add_tree-in-Project : goal.add_tree-returns-in_ok-add_tree-in-Project
add_tree-returns-in_ok-add_tree-in-Project t c =
    OnOk-map c.add_project.result (λ added.
    project-made c.args.catalog.now c.args.useful.now c.args.building.now c.args.tree.now c.in-Project.items c.as_slice-in-Project.result.now c.in-Project.child c.get-in-Project.result.now c.add_tree-in-Project.new.building _
    c.in-Project.is c.requires.sound c.as_slice-in-Project.ensures c.get-in-Project.ensures c.in_ok-add_tree-in-Project.ensures added)
    c.add_project.ensures

pub add_tree-add_joins-requires-clause-few : goal.add_tree-add_joins-requires-clause-few
add_tree-add_joins-requires-clause-few t c =
    few-sides c.args.catalog.now c.args.useful.now c.args.building.now c.args.tree.now c.in-Block.leaves c.in-Block.conds c.in-Block.is c.requires.sound c.as_slice-in-Block-2.result.now c.as_slice-in-Block.result.now
    c.as_slice-in-Block.ensures (c.as_slice-in-Block-2.ensures.value ∙ c.in_ok-sides-in-Block.ensures.sides)

pub add_tree-add_joins-requires-clause-room : goal.add_tree-add_joins-requires-clause-room
add_tree-add_joins-requires-clause-room t c =
    block-room c.args.catalog.now c.args.useful.now c.args.building.now c.args.tree.now c.in-Block.leaves c.in-Block.conds c.in-Block.is c.requires.sound c.as_slice-in-Block.result.now c.add_leaves.new.building
    c.as_slice-in-Block.ensures c.in_ok-sides-in-Block.ensures.nodes c.requires.room

pub add_tree-returns-in_ok-sides-in-Block : goal.add_tree-returns-in_ok-sides-in-Block
add_tree-returns-in_ok-sides-in-Block t c =
    OnOk-map c.add_joins.result (λ added.
    block-made c.args.catalog.now c.args.useful.now c.args.building.now c.args.tree.now c.in-Block.leaves c.in-Block.conds c.in-Block.is c.requires.sound c.as_slice-in-Block-3.result.now c.as_slice-in-Block-2.result.now
    c.as_slice-in-Block.result.now c.add_leaves.new.building _ c.as_slice-in-Block-3.ensures c.as_slice-in-Block.ensures (c.as_slice-in-Block-2.ensures.value ∙ c.in_ok-sides-in-Block.ensures.sides)
    c.in_ok-sides-in-Block.ensures.nodes added)
    c.add_joins.ensures

pub add_tree-last_group-first-requires-clause-some : goal.add_tree-last_group-first-requires-clause-some
add_tree-last_group-first-requires-clause-some t c =
    left-some c.args.catalog.now c.args.useful.now c.args.building.now c.args.tree.now c.in-Join.kind c.in-Join.conds c.in-Join.left c.in-Join.right c.in-Join.is c.requires.sound c.get-in-Join.result.now c.add_tree-in-Join.new.building
    c.get-in-Join.ensures c.in_ok-add_tree-in-Join.ensures c.requires.room

pub add_tree-last_group-first-requires-clause-few : goal.add_tree-last_group-first-requires-clause-few
add_tree-last_group-first-requires-clause-few t c =
    left-few c.args.catalog.now c.args.useful.now c.args.building.now c.args.tree.now c.in-Join.kind c.in-Join.conds c.in-Join.left c.in-Join.right c.in-Join.is c.requires.sound c.get-in-Join.result.now c.add_tree-in-Join.new.building
    c.get-in-Join.ensures c.in_ok-add_tree-in-Join.ensures c.requires.room

pub add_tree-add_join-requires-clause-some : goal.add_tree-add_join-requires-clause-some
add_tree-add_join-requires-clause-some t c =
    (after-right c.args.catalog.now c.args.useful.now c.args.building.now c.args.tree.now c.in-Join.kind c.in-Join.conds c.in-Join.left c.in-Join.right c.in-Join.is c.requires.sound c.get-in-Join.result.now c.add_tree-in-Join.new.building
    c.get-in-Join.ensures c.in_ok-add_tree-in-Join.ensures c.requires.room c.get-in-Join-2.result.now c.add_tree-in-Join-2.new.building c.get-in-Join-2.ensures c.in_ok-add_tree-in-Join-2.ensures).0

pub add_tree-add_join-requires-clause-room : goal.add_tree-add_join-requires-clause-room
add_tree-add_join-requires-clause-room t c =
    (after-right c.args.catalog.now c.args.useful.now c.args.building.now c.args.tree.now c.in-Join.kind c.in-Join.conds c.in-Join.left c.in-Join.right c.in-Join.is c.requires.sound c.get-in-Join.result.now c.add_tree-in-Join.new.building
    c.get-in-Join.ensures c.in_ok-add_tree-in-Join.ensures c.requires.room c.get-in-Join-2.result.now c.add_tree-in-Join-2.new.building c.get-in-Join-2.ensures c.in_ok-add_tree-in-Join-2.ensures).1

pub add_tree-returns-in_ok-add_tree-in-Join-2 : goal.add_tree-returns-in_ok-add_tree-in-Join-2
add_tree-returns-in_ok-add_tree-in-Join-2 t c =
    OnOk-map c.add_join.result (λ added.
    join-made c.args.catalog.now c.args.useful.now c.args.building.now c.args.tree.now c.in-Join.kind c.in-Join.conds c.in-Join.left c.in-Join.right c.in-Join.is c.requires.sound c.get-in-Join.result.now c.add_tree-in-Join.new.building
    c.get-in-Join.ensures c.in_ok-add_tree-in-Join.ensures c.requires.room
    c.as_slice-conds.result.now c.last_group-first.result c.get-in-Join-2.result.now c.add_tree-in-Join-2.new.building _ c.as_slice-conds.ensures c.last_group-first.ensures c.get-in-Join-2.ensures c.in_ok-add_tree-in-Join-2.ensures added)
    c.add_join.ensures

pub add_tree-add_grouping-requires-clause-some : goal.add_tree-add_grouping-requires-clause-some
add_tree-add_grouping-requires-clause-some t c =
    (after-child c.args.catalog.now c.args.useful.now c.args.building.now c.args.tree.now c.in-GroupBy.child c.get-child.result.now c.add_tree-in-GroupBy.new.building
    (group-has c.args.catalog.now c.args.tree.now c.in-GroupBy.keys c.in-GroupBy.aggs c.in-GroupBy.child c.in-GroupBy.is c.requires.sound) c.get-child.ensures c.in_ok-add_tree-in-GroupBy.ensures c.requires.room).some

pub add_tree-add_grouping-requires-clause-room : goal.add_tree-add_grouping-requires-clause-room
add_tree-add_grouping-requires-clause-room t c =
    (after-child c.args.catalog.now c.args.useful.now c.args.building.now c.args.tree.now c.in-GroupBy.child c.get-child.result.now c.add_tree-in-GroupBy.new.building
    (group-has c.args.catalog.now c.args.tree.now c.in-GroupBy.keys c.in-GroupBy.aggs c.in-GroupBy.child c.in-GroupBy.is c.requires.sound) c.get-child.ensures c.in_ok-add_tree-in-GroupBy.ensures c.requires.room).room

pub add_tree-returns-in_ok-add_tree-in-GroupBy : goal.add_tree-returns-in_ok-add_tree-in-GroupBy
add_tree-returns-in_ok-add_tree-in-GroupBy t c =
    OnOk-map c.add_grouping.result (λ added.
    group-made c.args.catalog.now c.args.useful.now c.args.building.now c.args.tree.now c.in-GroupBy.keys c.as_slice-keys.result.now c.in-GroupBy.aggs c.as_slice-aggs.result.now c.in-GroupBy.child c.get-child.result.now
    c.add_tree-in-GroupBy.new.building _ c.in-GroupBy.is c.requires.sound c.as_slice-keys.ensures c.as_slice-aggs.ensures c.get-child.ensures c.in_ok-add_tree-in-GroupBy.ensures added)
    c.add_grouping.ensures

pub add_tree-add_tree-requires : goal.add_tree-add_tree-requires
add_tree-add_tree-requires t c =
    let part =
    child-part c.args.catalog.now c.args.building.now c.args.tree.now c.in-Filter.child c.get.result.now
    (filter-has c.args.catalog.now c.args.tree.now c.in-Filter.conds c.in-Filter.child c.in-Filter.is c.requires.sound) c.get.ensures c.requires.room in
    (omega (arith, part.less, c.decreases), (part.sound, part.room))

pub add_tree-add_tree-requires-in-Project : goal.add_tree-add_tree-requires-in-Project
add_tree-add_tree-requires-in-Project t c =
    let part =
    child-part c.args.catalog.now c.args.building.now c.args.tree.now c.in-Project.child c.get-in-Project.result.now
    (project-has c.args.catalog.now c.args.tree.now c.in-Project.items c.in-Project.child c.in-Project.is c.requires.sound) c.get-in-Project.ensures c.requires.room in
    (omega (arith, part.less, c.decreases), (part.sound, part.room))

pub add_tree-add_tree-requires-in-GroupBy : goal.add_tree-add_tree-requires-in-GroupBy
add_tree-add_tree-requires-in-GroupBy t c =
    let part =
    child-part c.args.catalog.now c.args.building.now c.args.tree.now c.in-GroupBy.child c.get-child.result.now
    (group-has c.args.catalog.now c.args.tree.now c.in-GroupBy.keys c.in-GroupBy.aggs c.in-GroupBy.child c.in-GroupBy.is c.requires.sound) c.get-child.ensures c.requires.room in
    (omega (arith, part.less, c.decreases), (part.sound, part.room))

pub add_tree-add_tree-requires-in-Join : goal.add_tree-add_tree-requires-in-Join
add_tree-add_tree-requires-in-Join t c =
    let part = left-part c.args.catalog.now c.args.useful.now c.args.building.now c.args.tree.now c.in-Join.kind c.in-Join.conds c.in-Join.left c.in-Join.right c.in-Join.is c.requires.sound c.get-in-Join.result.now c.get-in-Join.ensures c.requires.room in
    (omega (arith, part.less, c.decreases), (part.sound, part.room))

pub add_tree-add_tree-requires-in-Join-2 : goal.add_tree-add_tree-requires-in-Join-2
add_tree-add_tree-requires-in-Join-2 t c =
    let part =
    right-part c.args.catalog.now c.args.useful.now c.args.building.now c.args.tree.now c.in-Join.kind c.in-Join.conds c.in-Join.left c.in-Join.right c.in-Join.is c.requires.sound c.get-in-Join.result.now c.add_tree-in-Join.new.building
    c.get-in-Join.ensures c.in_ok-add_tree-in-Join.ensures c.requires.room c.get-in-Join-2.result.now c.get-in-Join-2.ensures in
    (omega (arith, part.less, c.decreases), (part.sound, part.room))

pub add_tree-add_leaves-requires : goal.add_tree-add_leaves-requires
add_tree-add_leaves-requires t c =
    let less = leaves-less c.args.catalog.now c.args.useful.now c.args.building.now c.args.tree.now c.in-Block.leaves c.in-Block.conds c.in-Block.is c.requires.sound c.as_slice-in-Block.result.now c.as_slice-in-Block.ensures in
    (omega (arith, less, c.decreases), (leaves-sound c.args.catalog.now c.args.useful.now c.args.building.now c.args.tree.now c.in-Block.leaves c.in-Block.conds c.in-Block.is c.requires.sound c.as_slice-in-Block.result.now c.as_slice-in-Block.ensures, leaves-room c.args.catalog.now c.args.useful.now c.args.building.now c.args.tree.now c.in-Block.leaves c.in-Block.conds c.in-Block.is c.requires.sound c.as_slice-in-Block.result.now c.as_slice-in-Block.ensures c.requires.room))

pub add_leaves-add_tree-requires : goal.add_leaves-add_tree-requires
add_leaves-add_tree-requires t c =
    let less = leaf-less c.args.catalog.now c.args.leaves.now c.loop-leaf.leaf-index c.leaf-item.result c.loop-leaf-test.true c.leaf-item.is c.loop-leaf.building in
    (omega (arith, less, c.decreases), (sound-leaf c.args.catalog.now c.args.leaves.now c.loop-leaf.leaf-index c.leaf-item.result c.loop-leaf-test.true c.leaf-item.is c.loop-leaf.building c.loop-leaf.invariant.sound, room-leaf c.args.catalog.now c.args.leaves.now c.loop-leaf.leaf-index c.leaf-item.result c.loop-leaf-test.true c.leaf-item.is c.loop-leaf.building c.loop-leaf.invariant.room))
