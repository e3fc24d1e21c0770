-- In every memo a group of partial rows admits those of any parts of a bag that its child admits.
use Rattle.std.proofs.Common.{◌≡◌, ℕ, List, [], ◌∷◌, ◌++◌, map, Some, refl, sym, ap, subst, ◌∙◌, append_assoc}
use Rattle.std.specs.Bool.{⊤}
use Rattle.std.specs.List.{AllByRecursion, slice_get}
use Rattle.std.specs.Option.{option_map}
use Rattle.std.proofs.lemmas.Option.{slice_get-map}
use Rattle.pdw_algebra.proofs.WellFormedParts.{sound-tree}
use Rattle.pdw_algebra.specs.declared.tree.Tree.{Tree}
use Rattle.pdw_base.proofs.SameBagLaws.{SameBag-trans}
use Rattle.pdw_base.specs.Schema.{Env}
use Rattle.pdw_base.specs.declared.schema.ColId.{ColId}
use Rattle.pdw_catalog.specs.Catalog.{Tables}
use Rattle.pdw_catalog.specs.Database.{Database}
use Rattle.pdw_expr.specs.declared.cond.Cond.{Cond}
use Rattle.pdw_groups.proofs.NodeOrder.{tree-ordered}
use Rattle.pdw_groups.proofs.OrderLaws.{among-more, found}
use Rattle.pdw_groups.specs.Block.{BlockLeaf, second_group, set_group}
use Rattle.pdw_groups.specs.Columns.{useful_columns}
use Rattle.pdw_groups.specs.Group.{Child, ExprOf, GroupOf, InOrder, IsAmong, id_of, kept_expr, kept_group}
use Rattle.pdw_groups.specs.Meaning.{Meaning, exactly, partial_of}
use Rattle.pdw_groups.specs.Memo.{AdmitEachAt, AdmitsAt, AdmitsIf, Contents, at_first, groups_of}
use Rattle.pdw_groups.specs.Node.{block_leaves, node_of, passed_all}
use Rattle.pdw_groups.specs.declared.block.Level.{Level}
use Rattle.pdw_groups.specs.declared.group.Expr.{Expr}
use Rattle.pdw_groups.specs.declared.group.Group.{Group}
use Rattle.pdw_groups.specs.declared.key.GroupId.{GroupId}
use Rattle.pdw_groups.specs.declared.op.Op.{Op}
use Rattle.pdw_groups.specs.declared.op.Op.TheVariants as op
use Rattle.pdw_memo.proofs.EachGroup.{OfOwnGroups, all-at, each-join, each-of_block, each-of_tree, some-same}
use Rattle.pdw_memo.specs.Laws.{meanings_in}
use Rattle.pdw_memo.specs.Memo.{IsMemo}
use Rattle.pdw_partial.specs.Partial.{IsPartial}

-- ---- with meanings

abbrev MeansTree : Tree → List Child → Type 0
MeansTree t (child ∷ []) = child.means ≡ exactly t
MeansTree t _ = ⊥

-- a group of partial rows means those of a grouping, whose tree its child means
record IsParted (of parts : Meaning) (t : Tree) (children : List Child) : Type 0 where
  means : of ≡ parts
  child : MeansTree t children

abbrev MakesParts : Meaning → Op → List Child → Type 0
MakesParts means (op.Partial keys aggs) children = (t : Tree) × IsParted means (partial_of keys aggs t) t children
MakesParts means _ children = ⊤

abbrev Parted : GroupOf → Type 0
Parted group = AllByRecursion (λ (expr : ExprOf). MakesParts group.means expr.operator expr.children) group.exprs

second-parted : (block place : ℕ) (leaf : BlockLeaf) (some : List Cond) → AllByRecursion Parted (second_group block place leaf some)
second-parted block place leaf [] = tt
second-parted block place leaf (first ∷ rest) = ((tt, tt), tt)

own-parted : (tables : Tables) (levels : ℕ → Level) → OfOwnGroups Parted tables levels
own-parted tables levels = record {
  scan = λ number table alias cols sound. (tt, tt);
  filter = λ number t conds child. (tt, tt);
  project = λ number t items child. (tt, tt);
  block = λ leaves conds before parts.
      let after = passed_all before (map (node_of tables levels) leaves) in
      let sides = block_leaves tables levels (map (node_of tables levels) leaves) before in
      each-of_block Parted after.blocks conds (second-parted after.blocks) (levels after.blocks) sides after.groups
      (λ mask inside has.
      each-join (λ (expr : ExprOf). MakesParts (set_group after.blocks (levels after.blocks) conds sides after.groups mask).means expr.operator expr.children) after.blocks (levels after.blocks) conds sides after.groups mask (λ left less is. tt));
  join = λ number t kind conds left right before sound. (tt, tt);
  group = λ keys aggs child before sound. ((((node_of tables levels child).tree, record { means = refl; child = refl }), tt), ((tt, (tt, tt)), tt));
}

-- ---- by numbers

module _ (database : Database) (means : List Meaning) (number : ℕ) where
  -- the group admits the partial rows of any parts of what its child admits
  abbrev pub AdmitsParts : Op → List GroupId → Type 0
  AdmitsParts (op.Partial keys aggs) children = (input partials : List Env) → AdmitEachAt database means children (input ∷ []) → IsPartial keys aggs input partials → AdmitsAt database means number partials
  AdmitsParts _ children = ⊤

abbrev EachAmong : List GroupOf → List ExprOf → Type 0
EachAmong groups exprs = AllByRecursion (λ (expr : ExprOf). AllByRecursion (IsAmong groups) expr.children) exprs

-- children that come before their groups are among all
children-among : (before more : List GroupOf) (children : List Child) → AllByRecursion (IsAmong before) children → AllByRecursion (IsAmong (before ++ more)) children
children-among before more [] all = tt
children-among before more (child ∷ children) all = (among-more before more child all.0, children-among before more children all.1)

exprs-among : (before more : List GroupOf) (exprs : List ExprOf) → EachAmong before exprs → EachAmong (before ++ more) exprs
exprs-among before more [] all = tt
exprs-among before more (expr ∷ exprs) all = (children-among before more expr.children all.0, exprs-among before more exprs all.1)

groups-among : (before groups : List GroupOf) → InOrder before groups → AllByRecursion (λ (group : GroupOf). EachAmong (before ++ groups) group.exprs) groups
groups-among before [] order = tt
groups-among before (group ∷ groups) order = (
  exprs-among before (group ∷ groups) group.exprs order.0,
  subst (λ all. AllByRecursion (λ (g : GroupOf). EachAmong all g.exprs) groups) (append_assoc before (group ∷ []) groups) (groups-among (before ++ group ∷ []) groups order.1),
)

module _ (database : Database) (groups : List GroupOf) where
  abbrev by_number : List Meaning
  by_number = map (λ (group : GroupOf). group.means) groups

  means-at : (child : Child) → IsAmong groups child → slice_get by_number child.number ≡ Some child.means
  means-at child among = slice_get-map (λ (group : GroupOf). group.means) groups child.number ∙ among

  parts-admitted : (number : ℕ) (m : Meaning) → slice_get by_number number ≡ Some m → (operator : Op) (children : List Child) → MakesParts m operator children → AllByRecursion (IsAmong groups) children
      → AdmitsParts database by_number number operator (map id_of children)
  parts-admitted number m here (op.Partial keys aggs) [] makes among = absurd makes.1.child
  parts-admitted number m here (op.Partial keys aggs) (child ∷ []) makes among = λ input partials admits partial.
      subst (λ of. AdmitsIf database of partials) (sym (here ∙ ap (λ m. Some m) makes.1.means))
      (record {
        parts = partial.parts;
        some = partial.some;
        whole = SameBag-trans partial.whole (subst (λ of. AdmitsIf database of input) (means-at child among.0 ∙ ap (λ m. Some m) makes.1.child) admits.0);
        rows = partial.rows;
      })
  parts-admitted number m here (op.Partial keys aggs) (child ∷ second ∷ rest) makes among = absurd makes.1.child
  parts-admitted number m here _ children makes among = tt

  each-admitted : (number : ℕ) (m : Meaning) → slice_get by_number number ≡ Some m → (exprs : List ExprOf) → AllByRecursion (λ (expr : ExprOf). MakesParts m expr.operator expr.children) exprs → EachAmong groups exprs
      → AllByRecursion (λ (expr : Expr). AdmitsParts database by_number number expr.op expr.children) (map kept_expr exprs)
  each-admitted number m here [] makes among = tt
  each-admitted number m here (expr ∷ exprs) makes among = (parts-admitted number m here expr.operator expr.children makes.0 among.0, each-admitted number m here exprs makes.1 among.1)

  all-admitted : (useful : List ColId) → AllByRecursion Parted groups → AllByRecursion (λ (group : GroupOf). EachAmong groups group.exprs) groups → (number : ℕ) (group : Group) → slice_get (map (kept_group useful) groups) number ≡ Some group
      → AllByRecursion (λ (expr : Expr). AdmitsParts database by_number number expr.op expr.children) group.exprs
  all-admitted useful parted among number group there =
      let kept = kept_group useful in
      let at : option_map kept (slice_get groups number) ≡ Some group = sym (slice_get-map kept groups number) ∙ there in
      let own = found kept (slice_get groups number) group at in
      let same : kept own.0 ≡ group = some-same (kept own.0) group (sym (ap (option_map kept) own.1) ∙ at) in
      let here : slice_get by_number number ≡ Some own.0.means = slice_get-map (λ (group : GroupOf). group.means) groups number ∙ ap (option_map (λ (group : GroupOf). group.means)) own.1 in
      subst (λ (g : Group). AllByRecursion (λ (expr : Expr). AdmitsParts database by_number number expr.op expr.children) g.exprs) same
      (each-admitted number own.0.means here own.0.exprs (all-at Parted groups parted number own.0 own.1) (all-at (λ (group : GroupOf). EachAmong groups group.exprs) groups among number own.0 own.1))

pub memo-parts : (contents : Contents) (memo : IsMemo contents) (database : Database) (number : ℕ) (group : Group) → slice_get contents.groups number ≡ Some group
    → AllByRecursion (λ (expr : Expr). AdmitsParts database (meanings_in contents memo) number expr.op expr.children) group.exprs
memo-parts contents memo database number group there =
    let groups = groups_of memo.tables memo.levels memo.tree in
    let well = memo.plannable.well_formed in
    all-admitted database groups (useful_columns memo.tables memo.tree)
    (each-of_tree Parted memo.tables memo.levels (own-parted memo.tables memo.levels) memo.tree (sound-tree memo.tables memo.tree well) at_first)
    (groups-among [] groups (tree-ordered memo.tables memo.levels memo.tree well [] at_first refl).order)
    number group (ap (λ (c : Contents). slice_get c.groups number) (sym memo.is) ∙ there)
