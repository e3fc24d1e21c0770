-- The steps of a plan for the query are well-typed, by induction over plans.
use Rattle.std.proofs.Common.{◌≡◌, suc, ◌-◌, true, List, [], ◌∷◌, ◌++◌, length, map, Option, Some, None, refl, sym, ap, subst, ◌∙◌, append-nil, arith, eqb-true}
use Rattle.std.specs.List.{AllByRecursion, slice_get}
use Rattle.pdw_algebra.specs.Shape.{are_apart}
use Rattle.pdw_base.specs.Schema.{Columns}
use Rattle.pdw_catalog.specs.Catalog.{Tables}
use Rattle.pdw_dsql.proofs.Applied.{IsApplied, op-applied, scan-applied}
use Rattle.pdw_dsql.proofs.ExprTypes.{Types}
use Rattle.pdw_dsql.proofs.MemoTypes.{TypedAt, memo-typed}
use Rattle.pdw_dsql.proofs.PlainColumns.{known-stored}
use Rattle.pdw_dsql.proofs.PlanSteps.{cut-made, cuts-made, freed, op-covers}
use Rattle.pdw_dsql.proofs.TypedParts.{TypedCut, TypedCuts, columns_of_all, control-return, free-typed, more-typed, moved-typed, none-typed, tree-typed}
use Rattle.pdw_dsql.proofs.TypedTrees.{AllMake, Makes, ReadsNone, SidesApart, operator-makes, operator-reads, types-other}
use Rattle.pdw_dsql.specs.Sites.{return_site}
use Rattle.pdw_dsql.specs.Steps.{Cutting, cut_step, cutting, fragments_after, made_of, root_schema, schema_at, schema_of_some, steps_of}
use Rattle.pdw_dsql.specs.Trees.{tree_of}
use Rattle.pdw_dsql.specs.Typed.{AreStored, AreWellTyped, HasTablesOf, schemas_of}
use Rattle.pdw_groups.specs.Memo.{Contents}
use Rattle.pdw_groups.specs.declared.group.Expr.{Expr}
use Rattle.pdw_groups.specs.declared.group.Group.{Group}
use Rattle.pdw_groups.specs.declared.key.GroupId.{GroupId}
use Rattle.pdw_groups.specs.declared.op.Op.TheVariants as op
use Rattle.pdw_groups.specs.declared.op.Op.{Op}
use Rattle.pdw_memo.proofs.EachGroup.{all-at}
use Rattle.pdw_memo.proofs.MemoColumns.{memo-interesting}
use Rattle.pdw_memo.proofs.MemoScans.{memo-scans}
use Rattle.pdw_memo.proofs.MemoSides.{memo-sides}
use Rattle.pdw_memo.specs.Laws.{AreApartAt, HasApartSides, ReadsItsTable}
use Rattle.pdw_memo.specs.Memo.{IsMemo}
use Rattle.pdw_move.specs.declared.kinds.Prop.{Prop}
use Rattle.pdw_plan.proofs.PlanLaw.{query-none}
use Rattle.pdw_plan.proofs.PlanParts.{children-none, fault-none, one-none}
use Rattle.pdw_plan.specs.Covers.{Covers}
use Rattle.pdw_ways.proofs.PlanFolds.{Inductive, by_plans, fold-free, fold-moved, fold-op, fold-scan}
use Rattle.pdw_ways.specs.Shape.{Shape, is_root, made_in, query_fault, shape_of, shape_step}
use Rattle.pdw_ways.specs.Ways.{Costs, is_at, is_freed, is_moved, is_operated, is_scanned}
use Rattle.pdw_ways.specs.declared.made.Made.{Made}
use Rattle.pdw_ways.specs.declared.plan.Plan.TheOpen.{Plan-F}
use Rattle.pdw_ways.specs.declared.plan.Plan.TheVariants as plan
use Rattle.pdw_ways.specs.declared.plan.Plan.{Plan}

module _ (memo : Contents) (is : IsMemo memo) (tables : Tables) (has : HasTablesOf is.tables tables) (stored : AreStored tables) where
  abbrev groups : List Group
  groups = memo.groups

  -- the schemas of groups by number have no column in common; a number without group has no column
  numbers-apart : (left right : GroupId) → AreApartAt groups left right → are_apart (schema_at groups left) (schema_at groups right) ≡ true
  numbers-apart left right apart = by (slice_get groups left.0) (slice_get groups right.0) refl refl
    where
      by : (l r : Option Group) → slice_get groups left.0 ≡ l → slice_get groups right.0 ≡ r → are_apart (schema_of_some l) (schema_of_some r) ≡ true
      by None r first second = refl
      by (Some l) None first second = none-right l.schema
        where
          none-right : (columns : Columns) → are_apart columns [] ≡ true
          none-right [] = refl
          none-right (column ∷ columns) = none-right columns
      by (Some l) (Some r) first second = apart l r first second

  sides-apart : (o : Op) (numbers : List GroupId) → HasApartSides groups o numbers → SidesApart o (map (schema_at groups) numbers)
  sides-apart (op.Join kind conds) [] apart = absurd apart
  sides-apart (op.Join kind conds) (left ∷ []) apart = absurd apart
  sides-apart (op.Join kind conds) (left ∷ right ∷ []) apart = numbers-apart left right apart
  sides-apart (op.Join kind conds) (left ∷ right ∷ third ∷ rest) apart = absurd apart
  sides-apart (op.Scan table alias cols hash replicated) numbers apart = tt
  sides-apart (op.Filter conds) numbers apart = tt
  sides-apart (op.Project items) numbers apart = tt
  sides-apart (op.GroupBy keys aggs) numbers apart = tt
  sides-apart (op.Partial keys aggs) numbers apart = tt
  sides-apart (op.Final keys aggs) numbers apart = tt

  module _ (group : GroupId) (result : Prop) (below : List Made) (applied : IsApplied memo group below result) where
    abbrev expr : Expr
    expr = applied.expr

    abbrev children : List Columns
    children = map (schema_at groups) expr.children

    own-schema : schema_at groups group ≡ applied.own.schema
    own-schema = ap schema_of_some applied.there

    same-children : columns_of_all tables groups below ≡ children
    same-children = ap (map (schema_at groups)) applied.children

    own-types : Types tables (schema_at groups group) expr.op children
    own-types =
        types-other is.tables tables has (schema_at groups group) expr.op expr.children children
        (all-at (λ (e : Expr). ReadsItsTable is.tables e.op e.children) applied.own.exprs (memo-scans memo is group.0 applied.own applied.there) applied.place expr applied.at)
        (subst (λ schema. Types is.tables schema expr.op children) (sym own-schema)
        (all-at (TypedAt is.tables groups applied.own.schema) applied.own.exprs (memo-typed memo is (known-stored is.tables tables has stored) group.0 applied.own applied.there) applied.place expr applied.at))

    own-apart : SidesApart expr.op children
    own-apart =
        sides-apart expr.op expr.children
        (all-at (λ (e : Expr). HasApartSides groups e.op e.children) applied.own.exprs (memo-sides memo is group.0 applied.own applied.there) applied.place expr applied.at)

  pub operator-typed : (group : GroupId) (result : Prop) (cuts : List Cutting) → IsApplied memo group (made_of cuts) result → TypedCuts tables groups result cuts → TypedCut tables groups (cut_step groups (Plan-F.Op group result cuts))
  operator-typed group result cuts applied all = record {
    steps = all.steps;
    tree = λ schemas later.
        let trees = (fragments_after cuts (length schemas)).trees in
        let before = schemas ++ (schemas_of (fragments_after cuts (length schemas)).steps ++ later) in
        subst (λ expr. Makes tables before (tree_of expr trees) (schema_at groups group)) (sym applied.found)
        (operator-makes tables before (schema_at groups group) applied.expr.op trees (children group result (made_of cuts) applied)
        (subst (λ some. AllMake tables before trees some) (same-children group result (made_of cuts) applied) (all.trees schemas later)) (own-apart group result (made_of cuts) applied) (own-types group result (made_of cuts) applied));
    reads = λ before control.
        subst (λ expr. ReadsNone (tree_of expr (fragments_after cuts before).trees)) (sym applied.found)
        (operator-reads applied.expr.op (map (λ (m : Made). m.prop) (made_of cuts)) result applied.rule control (fragments_after cuts before).trees (all.reads before control));
  }

  -- ---- any plan

  module _ (costs : Costs) where
    abbrev shape : Plan → Shape
    shape = shape_of groups costs

    abbrev cut : Plan → Cutting
    cut = cutting groups

    abbrev Good : Plan → Type 0
    Good p = (shape p).fault ≡ None → TypedCut tables groups (cut p)

    all-typed : (result : Prop) (plans : List Plan) → AllByRecursion Good plans → AllByRecursion (λ (s : Shape). s.fault ≡ None) (map shape plans)
        → AllByRecursion (Covers result) (map (λ (m : Made). m.prop) (made_in (map shape plans))) → TypedCuts tables groups result (map cut plans)
    all-typed result [] good faults covers = none-typed tables groups result
    all-typed result (p ∷ plans) good faults covers =
        more-typed tables groups (cut p) (good.0 faults.0) result (map cut plans) (subst (λ (m : Made). Covers result m.prop) (sym (cut-made groups costs p)) covers.0)
        (all-typed result plans good.1 faults.1 covers.1)

    from_layer : (p : Plan) (c : Cutting) (s : Shape) → cut p ≡ c → shape p ≡ s → (s.fault ≡ None → TypedCut tables groups c) → Good p
    from_layer p c s is_cut is_shape holds fault = subst (TypedCut tables groups) (sym is_cut) (holds (ap (λ (s : Shape). s.fault) (sym is_shape) ∙ fault))

    cases : Inductive Good
    cases = record {
      scan = λ group prop.
          from_layer (plan.Scan group prop) _ _ (fold-scan (cut_step groups) group prop) (fold-scan (shape_step groups costs) group prop)
          (λ fault.
          let way = (fault-none [] (is_at groups group (λ of. is_scanned of prop)) fault).1 in
          let typed = operator-typed group prop [] (scan-applied memo is group prop way) (none-typed tables groups prop) in
          record { steps = typed.steps; tree = typed.tree; reads = typed.reads });
      op = λ group prop children all.
          from_layer (plan.Op group prop children) _ _ (fold-op (cut_step groups) group prop children) (fold-op (shape_step groups costs) group prop children)
          (λ fault.
          let parts = fault-none (map shape children) (is_at groups group (λ of. is_operated of (made_in (map shape children)) prop)) fault in
          operator-typed group prop (map cut children)
          (op-applied memo is group prop (made_of (map cut children)) (subst (λ below. is_at groups group (λ of. is_operated of below prop) ≡ true) (sym (cuts-made groups costs children)) parts.1))
          (all-typed prop children all (children-none 0 (map shape children) parts.0) (op-covers groups group prop (made_in (map shape children)) parts.1)));
      moved = λ mv child holds.
          from_layer (plan.Moved mv child) _ _ (fold-moved (cut_step groups) mv child) (fold-moved (shape_step groups costs) mv child)
          (λ fault.
          let parts = fault-none (shape child ∷ []) (is_at groups (shape child).made.group (λ of. is_moved of mv (shape child).made.prop)) fault in
          moved-typed tables groups (cut child) (holds (one-none (shape child) parts.0)) mv (memo-interesting memo is)
          (subst (λ (m : Made). is_at groups m.group (λ of. is_moved of mv m.prop) ≡ true) (sym (cut-made groups costs child)) parts.1));
      free = λ to child holds.
          from_layer (plan.Free to child) _ _ (fold-free (cut_step groups) to child) (fold-free (shape_step groups costs) to child)
          (λ fault.
          let parts = fault-none (shape child ∷ []) (is_at groups (shape child).made.group (λ of. is_freed of (shape child).made.prop to)) fault in
          free-typed tables groups (cut child) (holds (one-none (shape child) parts.0)) to
          (freed groups to (cut child).made (subst (λ (m : Made). is_at groups m.group (λ of. is_freed of m.prop to) ≡ true) (sym (cut-made groups costs child)) parts.1)));
    }

    plan-typed : (p : Plan) → Good p
    plan-typed = by_plans Good cases

root-number : (groups : List Group) (number : GroupId) → is_root groups number ≡ true → number ≡ record { 0 = length groups - 1 }
root-number groups number is =
    let same : suc number.0 ≡ length groups = eqb-true (suc number.0) (length groups) is in
    let n : number.0 ≡ length groups - 1 = omega (arith, same) in
    ap (λ n. record { 0 = n }) n

pub steps-typed : (memo : Contents) (is : IsMemo memo) (costs : Costs) (p : Plan) → query_fault memo.groups (shape_of memo.groups costs p) ≡ None
    → (tables : Tables) → HasTablesOf is.tables tables → AreStored tables → AreWellTyped tables (steps_of memo.groups p) (root_schema memo.groups)
steps-typed memo is costs p well tables has stored =
    let s = shape_of memo.groups costs p in
    let c = cutting memo.groups p in
    let known = query-none s.fault (is_root memo.groups s.made.group) (s.nodes - 1) well in
    let typed = plan-typed memo is tables has stored costs p known.0 in
    let group : c.made.group ≡ record { 0 = length memo.groups - 1 } = ap (λ (m : Made). m.group) (cut-made memo.groups costs p) ∙ root-number memo.groups s.made.group known.1 in
    record {
      moves = typed.steps [];
      last =
          tree-typed tables (schemas_of (c.fragment 0).steps) (c.fragment 0).tree (return_site c.made.prop) (root_schema memo.groups)
          (subst (λ number. Makes tables (schemas_of (c.fragment 0).steps) (c.fragment 0).tree (schema_at memo.groups number)) group
          (subst (λ some. Makes tables some (c.fragment 0).tree (schema_at memo.groups c.made.group)) (append-nil (schemas_of (c.fragment 0).steps)) (typed.tree [] [])))
          (λ control. typed.reads 0 (control-return c.made.prop control));
    }
