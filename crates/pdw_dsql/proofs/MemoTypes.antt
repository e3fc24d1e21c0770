-- Each expression of a memo is well-typed over the schemas of its children's groups, and gives that of its own.
use Rattle.std.proofs.Common.{◌≡◌, ℕ, List, [], ◌∷◌, map, Some, refl, sym, ap, ap₂, subst, ◌∙◌}
use Rattle.std.specs.List.{AllByRecursion, slice_get}
use Rattle.std.specs.Option.{option_map}
use Rattle.std.proofs.lemmas.Option.{slice_get-map}
use Rattle.pdw_algebra.proofs.WellFormedParts.{sound-tree}
use Rattle.pdw_algebra.specs.Schema.{rising}
use Rattle.pdw_base.specs.Schema.{Columns}
use Rattle.pdw_base.specs.declared.schema.ColId.{ColId}
use Rattle.pdw_catalog.specs.Catalog.{Tables}
use Rattle.pdw_dsql.proofs.BlockTypes.{ExprTyped, GroupTyped, child_schema}
use Rattle.pdw_dsql.proofs.ExprTypes.{Types}
use Rattle.pdw_dsql.proofs.PlainColumns.{AreStoredNamed}
use Rattle.pdw_dsql.proofs.TreeTypes.{tree-typed}
use Rattle.pdw_dsql.specs.Steps.{schema_at, schema_of_some}
use Rattle.pdw_groups.proofs.NodeOrder.{tree-ordered}
use Rattle.pdw_groups.proofs.OrderLaws.{found}
use Rattle.pdw_groups.specs.Columns.{useful_columns}
use Rattle.pdw_groups.specs.Group.{Child, ExprOf, GroupOf, IsAmong, id_of, kept_expr, kept_group}
use Rattle.pdw_groups.specs.Memo.{Contents, at_first, groups_of}
use Rattle.pdw_groups.specs.declared.group.Expr.{Expr}
use Rattle.pdw_groups.specs.declared.group.Group.{Group}
use Rattle.pdw_memo.proofs.EachGroup.{all-at, some-same}
use Rattle.pdw_memo.proofs.MemoRows.{Names, columns_by, tree-named}
use Rattle.pdw_memo.proofs.MemoSides.{all-among}
use Rattle.pdw_memo.specs.Memo.{IsMemo}

-- an expression over groups by number
abbrev pub TypedAt : Tables → List Group → Columns → Expr → Type 0
TypedAt tables groups schema expr = Types tables schema expr.op (map (schema_at groups) expr.children)

abbrev pub AllTyped : Tables → List Group → List Group → Type 0
AllTyped tables all groups = (number : ℕ) (group : Group) → slice_get groups number ≡ Some group → AllByRecursion (TypedAt tables all group.schema) group.exprs

module _ (tables : Tables) (useful : List ColId) (groups : List GroupOf) (named : AllByRecursion (Names tables) groups) where
  abbrev kept : List Group
  kept = map (kept_group useful) groups

  child-schema : (child : Child) → IsAmong groups child → schema_at kept (id_of child) ≡ child_schema tables child
  child-schema child among =
      let at = found (λ (g : GroupOf). g.means) (slice_get groups child.number) child.means among in
      let means : at.0.means ≡ child.means = some-same at.0.means child.means (sym (ap (option_map (λ (g : GroupOf). g.means)) at.1) ∙ among) in
      ap schema_of_some (slice_get-map (kept_group useful) groups child.number ∙ ap (option_map (kept_group useful)) at.1)
      ∙ all-at (Names tables) groups named child.number at.0 at.1
      ∙ ap (λ m. rising (columns_by tables m)) means

  children-schemas : (children : List Child) → AllByRecursion (IsAmong groups) children → map (child_schema tables) children ≡ map (schema_at kept) (map id_of children)
  children-schemas [] among = refl
  children-schemas (child ∷ children) among = ap₂ (λ first rest. first ∷ rest) (sym (child-schema child among.0)) (children-schemas children among.1)

  exprs-typed : (schema : Columns) (exprs : List ExprOf) → AllByRecursion (ExprTyped tables schema) exprs → AllByRecursion (λ expr. AllByRecursion (IsAmong groups) expr.children) exprs
      → AllByRecursion (TypedAt tables kept schema) (map kept_expr exprs)
  exprs-typed schema [] typed among = tt
  exprs-typed schema (expr ∷ exprs) typed among =
      (subst (Types tables schema expr.operator) (children-schemas expr.children among.0) typed.0, exprs-typed schema exprs typed.1 among.1)

  groups-typed : AllByRecursion (GroupTyped tables) groups → AllByRecursion (λ group. AllByRecursion (λ expr. AllByRecursion (IsAmong groups) expr.children) group.exprs) groups → AllTyped tables kept kept
  groups-typed typed among number group there =
      let at : option_map (kept_group useful) (slice_get groups number) ≡ Some group = sym (slice_get-map (kept_group useful) groups number) ∙ there in
      let own = found (kept_group useful) (slice_get groups number) group at in
      let same : kept_group useful own.0 ≡ group = some-same (kept_group useful own.0) group (sym (ap (option_map (kept_group useful)) own.1) ∙ at) in
      subst (λ (g : Group). AllByRecursion (TypedAt tables kept g.schema) g.exprs) same
      (exprs-typed own.0.schema own.0.exprs (all-at (GroupTyped tables) groups typed number own.0 own.1)
      (all-at (λ (group : GroupOf). AllByRecursion (λ (expr : ExprOf). AllByRecursion (IsAmong groups) expr.children) group.exprs) groups among number own.0 own.1))

pub memo-typed : (contents : Contents) (memo : IsMemo contents) → AreStoredNamed memo.tables → AllTyped memo.tables contents.groups contents.groups
memo-typed contents memo stored =
    let groups = groups_of memo.tables memo.levels memo.tree in
    let useful = useful_columns memo.tables memo.tree in
    let well = memo.plannable.well_formed in
    subst (λ (c : Contents). AllTyped memo.tables c.groups c.groups) (sym memo.is)
    (groups-typed memo.tables useful groups (tree-named memo.tables memo.levels memo.tree at_first)
    (tree-typed memo.tables stored memo.levels memo.tree (sound-tree memo.tables memo.tree well) at_first)
    (all-among [] groups (tree-ordered memo.tables memo.levels memo.tree well [] at_first refl).order))
