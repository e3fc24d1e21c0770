-- The expression that a node of a plan applies: where the node is a way, it is one of its group that keeps the local rule.
use Rattle.std.proofs.Common.{◌≡◌, ℕ, true, true≢false, List, [], ◌∷◌, length, map, Some, refl, sym, ap, ◌∙◌}
use Rattle.std.specs.List.{list_any, slice_get}
use Rattle.std.proofs.lemmas.Bool.{and_parts}
use Rattle.pdw_catalog.specs.Catalog.{Tables}
use Rattle.pdw_dsql.specs.Trees.{arity}
use Rattle.pdw_groups.specs.Memo.{Contents}
use Rattle.pdw_groups.specs.declared.group.Expr.{Expr}
use Rattle.pdw_groups.specs.declared.group.Group.{Group}
use Rattle.pdw_groups.specs.declared.key.GroupId.{GroupId}
use Rattle.pdw_groups.specs.declared.op.Op.TheVariants as op
use Rattle.pdw_groups.specs.declared.op.Op.{Op}
use Rattle.pdw_memo.proofs.EachGroup.{all-at}
use Rattle.pdw_memo.proofs.MemoDiffers.{memo-differ}
use Rattle.pdw_memo.proofs.MemoScans.{memo-scans}
use Rattle.pdw_memo.specs.Laws.{HasDifferentChildren, ReadsItsTable}
use Rattle.pdw_memo.specs.Memo.{IsMemo}
use Rattle.pdw_move.specs.declared.kinds.Prop.{Prop}
use Rattle.pdw_plan.proofs.PlanParts.{any-over, at-some, groups-are, operates-parts}
use Rattle.pdw_plan.specs.Given.{expr_among, expr_over}
use Rattle.pdw_rules.specs.Rules.{leaf_rule, local_rule, may_have}
use Rattle.pdw_ways.specs.Ways.{are_groups_of, is_at, is_operated, is_scanned, operates}
use Rattle.pdw_ways.specs.declared.made.Made.{Made}

-- the expression of a group over children that make these, under a rule that gives this
pub record IsApplied (memo : Contents) (group : GroupId) (below : List Made) (result : Prop) : Type 0 where
  pub own : Group
  pub there : slice_get memo.groups group.0 ≡ Some own
  pub expr : Expr
  pub place : ℕ
  pub at : slice_get own.exprs place ≡ Some expr
  pub found : expr_over memo.groups group below ≡ Some expr
  pub children : map (λ (m : Made). m.group) below ≡ expr.children
  pub rule : local_rule expr.op (map (λ (m : Made). m.prop) below) result ≡ true

-- no operator has a rule over another number of children
pub rule-arity : (o : Op) (props : List Prop) (result : Prop) → local_rule o props result ≡ true → arity o ≡ length props
rule-arity (op.Scan table alias cols hash replicated) [] result rule = refl
rule-arity (op.Filter conds) [] result rule = absurd (true≢false (sym rule))
rule-arity (op.Project items) [] result rule = absurd (true≢false (sym rule))
rule-arity (op.Join kind conds) [] result rule = absurd (true≢false (sym rule))
rule-arity (op.GroupBy keys aggs) [] result rule = absurd (true≢false (sym rule))
rule-arity (op.Partial keys aggs) [] result rule = absurd (true≢false (sym rule))
rule-arity (op.Final keys aggs) [] result rule = absurd (true≢false (sym rule))
rule-arity (op.Scan table alias cols hash replicated) (p ∷ []) result rule = absurd (true≢false (sym rule))
rule-arity (op.Filter conds) (p ∷ []) result rule = refl
rule-arity (op.Project items) (p ∷ []) result rule = refl
rule-arity (op.Join kind conds) (p ∷ []) result rule = absurd (true≢false (sym rule))
rule-arity (op.GroupBy keys aggs) (p ∷ []) result rule = refl
rule-arity (op.Partial keys aggs) (p ∷ []) result rule = refl
rule-arity (op.Final keys aggs) (p ∷ []) result rule = refl
rule-arity (op.Scan table alias cols hash replicated) (p ∷ q ∷ []) result rule = absurd (true≢false (sym rule))
rule-arity (op.Filter conds) (p ∷ q ∷ []) result rule = absurd (true≢false (sym rule))
rule-arity (op.Project items) (p ∷ q ∷ []) result rule = absurd (true≢false (sym rule))
rule-arity (op.Join kind conds) (p ∷ q ∷ []) result rule = refl
rule-arity (op.GroupBy keys aggs) (p ∷ q ∷ []) result rule = absurd (true≢false (sym rule))
rule-arity (op.Partial keys aggs) (p ∷ q ∷ []) result rule = absurd (true≢false (sym rule))
rule-arity (op.Final keys aggs) (p ∷ q ∷ []) result rule = absurd (true≢false (sym rule))
rule-arity o (p ∷ q ∷ r ∷ rest) result rule = absurd (true≢false (sym rule))

module _ (memo : Contents) (is : IsMemo memo) (group : GroupId) (result : Prop) where
  differ : (own : Group) → slice_get memo.groups group.0 ≡ Some own → HasDifferentChildren own
  differ own there = all-at HasDifferentChildren memo.groups (memo-differ memo is) group.0 own there

  -- a scan is over no child
  scan-alone : (tables : Tables) (o : Op) (children : List GroupId) → leaf_rule o result ≡ true → ReadsItsTable tables o children → children ≡ []
  scan-alone tables (op.Scan table alias cols hash replicated) children rule reads = reads.alone
  scan-alone tables (op.Filter conds) children rule reads = absurd (true≢false (sym rule))
  scan-alone tables (op.Project items) children rule reads = absurd (true≢false (sym rule))
  scan-alone tables (op.Join kind conds) children rule reads = absurd (true≢false (sym rule))
  scan-alone tables (op.GroupBy keys aggs) children rule reads = absurd (true≢false (sym rule))
  scan-alone tables (op.Partial keys aggs) children rule reads = absurd (true≢false (sym rule))
  scan-alone tables (op.Final keys aggs) children rule reads = absurd (true≢false (sym rule))

  pub scan-applied : is_at memo.groups group (λ of. is_scanned of result) ≡ true → IsApplied memo group [] result
  scan-applied way =
      let found = at-some memo.groups group (λ of. is_scanned of result) way in
      let some = (and_parts (may_have found.group.interesting result) (list_any (λ (expr : Expr). leaf_rule expr.op result) found.group.exprs) found.passes).1 in
      let over = any-over [] (λ (expr : Expr). leaf_rule expr.op result) found.group.exprs (differ found.group found.there)
      (λ place expr there rule. ap (are_groups_of []) (scan-alone is.tables expr.op expr.children rule
      (all-at (λ (expr : Expr). ReadsItsTable is.tables expr.op expr.children) found.group.exprs (memo-scans memo is group.0 found.group found.there) place expr there))) some in
      record {
        own = found.group;
        there = found.there;
        expr = over.expr;
        place = over.place;
        at = over.there;
        found = ap (expr_among []) found.there ∙ over.found;
        children = groups-are [] over.expr.children over.over;
        rule = over.passes;
      }

  pub op-applied : (below : List Made) → is_at memo.groups group (λ of. is_operated of below result) ≡ true → IsApplied memo group below result
  op-applied below way =
      let found = at-some memo.groups group (λ of. is_operated of below result) way in
      let some = (and_parts (may_have found.group.interesting result) (list_any (operates below result) found.group.exprs) found.passes).1 in
      let over = any-over below (operates below result) found.group.exprs (differ found.group found.there) (λ place expr there passes. (operates-parts below result expr passes).0) some in
      record {
        own = found.group;
        there = found.there;
        expr = over.expr;
        place = over.place;
        at = over.there;
        found = ap (expr_among below) found.there ∙ over.found;
        children = groups-are below over.expr.children over.over;
        rule = (operates-parts below result over.expr over.passes).1;
      }
