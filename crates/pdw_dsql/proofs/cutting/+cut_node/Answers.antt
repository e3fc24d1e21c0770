use Rattle.std.proofs.Common.{length, arith, tests, inl, inr}
use Rattle.std.proofs.lemmas.Result.{on_ok_weaker}
use Rattle.pdw_dsql.proofs.NodeSteps.{if-done, moved-group, moved-room, moved-steps, moved-tree, one-steps, one-tree, one-way, one_item, op-counted, right-called, left-called, one-called, free-called, moved-called, same-tree, two-steps, two-tree, two-way, two_items}
use Rattle.pdw_dsql.proofs.cutting.+cut_node.Goals.{in_default-via-then-as_slice-lt1, in_default-via-else-as_slice-lt1+else-this-lt2+else-this-lt3}
use Rattle.pdw_dsql.proofs.cutting.+cut_node.Goals as goal

pub over_one-requires : goal.over_one-requires
over_one-requires t c =
    one-way c.args.memo.now.groups c.args.plan.now c.in-Op.group c.in-Op.prop c.in-Op.children c.in-Op.is c.as_slice.result.now c.as_slice.ensures c.only-item.result
    (one_item c.as_slice.result.now c.only-item.result c.in-len1.len_at_least c.in-len1.len_below c.only-item.is) c.requires.well c.in_ok-child-in-len1.child.made c.in_ok-child-in-len1.ensures.made

pub returns-in_ok-child-in-len1-clause-steps : goal.returns-in_ok-child-in-len1-clause-steps
returns-in_ok-child-in-len1-clause-steps t c =
    if-done _ c.over_one.result
    (one-steps c.args.memo.now.groups c.args.plan.now c.in-Op.group c.in-Op.prop c.in-Op.children c.in-Op.is c.as_slice.result.now c.as_slice.ensures c.only-item.result
    (one_item c.as_slice.result.now c.only-item.result c.in-len1.len_at_least c.in-len1.len_below c.only-item.is) c.args.steps.now c.cut_node.new.steps c.in_ok-child-in-len1.ensures.steps)

pub returns-in_ok-child-in-len1-clause-tree : goal.returns-in_ok-child-in-len1-clause-tree
returns-in_ok-child-in-len1-clause-tree t c =
    same-tree c.over_one.result _ _
    (one-tree c.args.memo.now.groups c.args.plan.now c.in-Op.group c.in-Op.prop c.in-Op.children c.in-Op.is c.as_slice.result.now c.as_slice.ensures c.only-item.result
    (one_item c.as_slice.result.now c.only-item.result c.in-len1.len_at_least c.in-len1.len_below c.only-item.is) (length c.args.steps.now) c.in_ok-child-in-len1.child c.in_ok-child-in-len1.ensures.made c.in_ok-child-in-len1.ensures.tree)
    c.over_one.ensures.tree

pub cut_node-requires-in-len2-2 : goal.cut_node-requires-in-len2-2
cut_node-requires-in-len2-2 t c =
    let two = two_items c.as_slice.result.now c.left-item.result c.right-item.result c.in-len2.len_at_least c.in-len2.len_below c.left-item.is c.right-item.is in
    let called = right-called c.args.memo.now.groups c.args.plan.now c.in-Op.group c.in-Op.prop c.in-Op.children c.in-Op.is c.as_slice.result.now c.as_slice.ensures c.left-item.result c.right-item.result two c.requires.well c.args.steps.now c.cut_node-in-len2.new.steps
    c.requires.room c.in_ok-left-in-len2.ensures.steps in
    (omega (arith, called.less, c.decreases), (called.well, called.room))

pub cut_node-requires-in-len2 : goal.cut_node-requires-in-len2
cut_node-requires-in-len2 t c =
    let two = two_items c.as_slice.result.now c.left-item.result c.right-item.result c.in-len2.len_at_least c.in-len2.len_below c.left-item.is c.right-item.is in
    let called = left-called c.args.memo.now.groups c.args.plan.now c.in-Op.group c.in-Op.prop c.in-Op.children c.in-Op.is c.as_slice.result.now c.as_slice.ensures c.left-item.result c.right-item.result two c.requires.well (length c.args.steps.now) c.requires.room in
    (omega (arith, called.less, c.decreases), (called.well, called.room))

pub cut_node-requires : goal.cut_node-requires
cut_node-requires t c =
    let called = one-called c.args.memo.now.groups c.args.plan.now c.in-Op.group c.in-Op.prop c.in-Op.children c.in-Op.is c.as_slice.result.now c.as_slice.ensures c.only-item.result
    (one_item c.as_slice.result.now c.only-item.result c.in-len1.len_at_least c.in-len1.len_below c.only-item.is) c.requires.well (length c.args.steps.now) c.requires.room in
    (omega (arith, called.less, c.decreases), (called.well, called.room))

pub cut_node-requires-in-Moved : goal.cut_node-requires-in-Moved
cut_node-requires-in-Moved t c =
    let called = moved-called c.args.memo.now.groups c.args.plan.now c.in-Moved.mv c.in-Moved.child c.in-Moved.is c.get.result.now c.get.ensures c.requires.well (length c.args.steps.now) c.requires.room in
    (omega (arith, called.less, c.decreases), (called.well, called.room))

pub cut_node-requires-in-Free : goal.cut_node-requires-in-Free
cut_node-requires-in-Free t c =
    let called = free-called c.args.memo.now.groups c.args.plan.now c.in-Free.to c.in-Free.child c.in-Free.is c.get-in-Free.result.now c.get-in-Free.ensures c.requires.well (length c.args.steps.now) c.requires.room in
    (omega (arith, called.less, c.decreases), (called.well, called.room))

pub over_two-requires : goal.over_two-requires
over_two-requires t c =
    let two = two_items c.as_slice.result.now c.left-item.result c.right-item.result c.in-len2.len_at_least c.in-len2.len_below c.left-item.is c.right-item.is in
    two-way c.args.memo.now.groups c.args.plan.now c.in-Op.group c.in-Op.prop c.in-Op.children c.in-Op.is c.as_slice.result.now c.as_slice.ensures c.left-item.result c.right-item.result two c.requires.well
    c.in_ok-left-in-len2.left.made c.in_ok-right-in-len2.right.made c.in_ok-left-in-len2.ensures.made c.in_ok-right-in-len2.ensures.made

pub returns-in_ok-right-in-len2-clause-steps : goal.returns-in_ok-right-in-len2-clause-steps
returns-in_ok-right-in-len2-clause-steps t c =
    let two = two_items c.as_slice.result.now c.left-item.result c.right-item.result c.in-len2.len_at_least c.in-len2.len_below c.left-item.is c.right-item.is in
    if-done _ c.over_two.result
    (two-steps c.args.memo.now.groups c.args.plan.now c.in-Op.group c.in-Op.prop c.in-Op.children c.in-Op.is c.as_slice.result.now c.as_slice.ensures c.left-item.result c.right-item.result two c.args.steps.now
    c.cut_node-in-len2.new.steps c.cut_node-in-len2-2.new.steps c.in_ok-left-in-len2.ensures.steps c.in_ok-right-in-len2.ensures.steps)

pub returns-in_ok-right-in-len2-clause-tree : goal.returns-in_ok-right-in-len2-clause-tree
returns-in_ok-right-in-len2-clause-tree t c =
    let two = two_items c.as_slice.result.now c.left-item.result c.right-item.result c.in-len2.len_at_least c.in-len2.len_below c.left-item.is c.right-item.is in
    same-tree c.over_two.result _ _
    (two-tree c.args.memo.now.groups c.args.plan.now c.in-Op.group c.in-Op.prop c.in-Op.children c.in-Op.is c.as_slice.result.now c.as_slice.ensures c.left-item.result c.right-item.result two c.args.steps.now
    c.cut_node-in-len2.new.steps c.cut_node-in-len2-2.new.steps c.in_ok-left-in-len2.ensures.steps c.in_ok-left-in-len2.left c.in_ok-right-in-len2.right c.in_ok-left-in-len2.ensures.made
    c.in_ok-right-in-len2.ensures.made c.in_ok-left-in-len2.ensures.tree c.in_ok-right-in-len2.ensures.tree)
    c.over_two.ensures.tree

pub unreachable-requires : goal.unreachable-requires
unreachable-requires t c =
    let none = op-counted c.args.memo.now.groups c.args.plan.now c.in-Op.group c.in-Op.prop c.in-Op.children c.in-Op.is c.as_slice.result.now c.as_slice.ensures c.requires.well in
    elim c.in_default.branch [ in_default-via-then-as_slice-lt1 w ↦ none (inl (grind (arith, tests))) | in_default-via-else-as_slice-lt1+else-this-lt2+else-this-lt3 w ↦ none (inr (grind (arith, tests))) ]

pub moved-requires-clause-group : goal.moved-requires-clause-group
moved-requires-clause-group t c =
    moved-group c.args.memo.now.groups c.args.plan.now c.in-Moved.mv c.in-Moved.child c.in-Moved.is c.get.result.now c.get.ensures c.requires.well c.in_ok-child-in-Moved.child.made c.in_ok-child-in-Moved.ensures.made

pub moved-requires-clause-room : goal.moved-requires-clause-room
moved-requires-clause-room t c =
    moved-room c.args.memo.now.groups c.args.plan.now c.in-Moved.mv c.in-Moved.child c.in-Moved.is c.get.result.now c.get.ensures c.args.steps.now c.cut_node-in-Moved.new.steps
    c.in_ok-child-in-Moved.ensures.steps c.requires.room

pub returns-in_ok-child-in-Moved-clause-steps : goal.returns-in_ok-child-in-Moved-clause-steps
returns-in_ok-child-in-Moved-clause-steps t c =
    on_ok_weaker c.moved.result
    (moved-steps c.args.memo.now.groups c.args.plan.now c.in-Moved.mv c.in-Moved.child c.in-Moved.is c.get.result.now c.get.ensures c.args.steps.now c.cut_node-in-Moved.new.steps c.in_ok-child-in-Moved.ensures.steps
    c.in_ok-child-in-Moved.child c.in_ok-child-in-Moved.ensures.made c.in_ok-child-in-Moved.ensures.tree c.moved.new.steps)
    c.moved.ensures.steps

pub returns-in_ok-child-in-Moved-clause-tree : goal.returns-in_ok-child-in-Moved-clause-tree
returns-in_ok-child-in-Moved-clause-tree t c =
    same-tree c.moved.result _ _
    (moved-tree c.args.memo.now.groups c.args.plan.now c.in-Moved.mv c.in-Moved.child c.in-Moved.is c.get.result.now c.get.ensures c.args.steps.now c.cut_node-in-Moved.new.steps c.in_ok-child-in-Moved.ensures.steps)
    c.moved.ensures.tree
