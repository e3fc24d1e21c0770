-- The groups of a tree's memo by their numbers: each weighs at most what the tree does, and its interesting columns are different.
use Rattle.std.proofs.Common.{◌≡◌, ℕ, suc, ◌+◌, ◌^◌, ◌≤◌, List, [], ◌∷◌, map, sum_by, Option, Some, None, refl, sym, ap, ap₂, subst, ◌∙◌, arith}
use Rattle.std.specs.List.{AllByRecursion, slice_get}
use Rattle.std.specs.Option.{option_map}
use Rattle.std.proofs.lemmas.List.Sums.{sum_by-cons}
use Rattle.std.proofs.lemmas.Option.{slice_get-map}
use Rattle.pdw_algebra.proofs.AllLaws.{all-map}
use Rattle.pdw_algebra.specs.WellFormed.{IsWellFormed}
use Rattle.pdw_algebra.specs.declared.tree.Tree.{Tree}
use Rattle.pdw_base.specs.SameBag.{weigh}
use Rattle.pdw_base.specs.declared.schema.ColId.{ColId}
use Rattle.pdw_catalog.specs.Catalog.{Tables}
use Rattle.pdw_enum.specs.Root.{AreDifferent}
use Rattle.pdw_file_limits.proofs.Columns.{interesting-different}
use Rattle.pdw_file_limits.proofs.Weights.{Fits, fits-more, tree-fits}
use Rattle.pdw_groups.proofs.NodeOrder.{tree-ordered}
use Rattle.pdw_groups.proofs.NodeTree.{node-tree}
use Rattle.pdw_groups.proofs.OrderLaws.{found}
use Rattle.pdw_groups.specs.Columns.{useful_columns}
use Rattle.pdw_groups.specs.Group.{Child, ExprOf, GroupOf, IsAmong, id_of, kept_expr, kept_group}
use Rattle.pdw_groups.specs.Meaning.{Meaning}
use Rattle.pdw_groups.specs.Memo.{at_first, groups_of, memo_of}
use Rattle.pdw_groups.specs.Node.{node_of}
use Rattle.pdw_groups.specs.declared.block.Level.{Level}
use Rattle.pdw_groups.specs.declared.group.Expr.{Expr}
use Rattle.pdw_groups.specs.declared.group.Group.{Group}
use Rattle.pdw_groups.specs.declared.key.GroupId.{GroupId}
use Rattle.pdw_least.specs.Premises.{AreLight}
use Rattle.pdw_memo.proofs.EachGroup.{all-at, some-same}
use Rattle.pdw_memo.proofs.MemoSides.{all-among}
use Rattle.pdw_memo.proofs.Weights.{child_weight, meaning_weight, tree_weight}

-- groups of which each weighs at most so much, with different interesting columns
pub record AreWeighed (groups : List Group) (most : ℕ) : Type 0 where
  pub light : AreLight groups
  pub few : (number : ℕ) → light.weight number ≤ most
  pub different : (number : ℕ) (group : Group) → slice_get groups number ≡ Some group → AreDifferent group.interesting

abbrev weight_if : Option Meaning → ℕ
weight_if None = 0
weight_if (Some means) = meaning_weight means

abbrev HaveChildren : List GroupOf → List ExprOf → Type 0
HaveChildren groups exprs = AllByRecursion (λ expr. AllByRecursion (IsAmong groups) expr.children) exprs

abbrev IsUnder : (ℕ → ℕ) → ℕ → Expr → Type 0
IsUnder weight most expr = suc (sum_by (λ (child : GroupId). weight child.0) expr.children) ≤ most

module _ (groups : List GroupOf) where
  -- what the group of a number means weighs this
  abbrev weight_at : ℕ → ℕ
  weight_at number = weight_if (option_map (λ (group : GroupOf). group.means) (slice_get groups number))

  children-weight : (children : List Child) → AllByRecursion (IsAmong groups) children → sum_by (λ (child : GroupId). weight_at child.0) (map id_of children) ≡ weigh child_weight children
  children-weight [] among = refl
  children-weight (child ∷ children) among =
      sum_by-cons (λ (child : GroupId). weight_at child.0) (id_of child) (map id_of children) ∙ ap₂ (λ a b. a + b) (ap weight_if among.0) (children-weight children among.1)

  exprs-under : (most : ℕ) (exprs : List ExprOf) → AllByRecursion (λ expr. suc (weigh child_weight expr.children) ≤ most) exprs → HaveChildren groups exprs → AllByRecursion (IsUnder weight_at most) (map kept_expr exprs)
  exprs-under most [] light among = tt
  exprs-under most (expr ∷ exprs) light among =
      (let one = light.0 in let same = children-weight expr.children among.0 in omega (arith, one, same), exprs-under most exprs light.1 among.1)

  module _ (useful : List ColId) where
    -- the group of a number as the memo keeps it
    record IsKept (number : ℕ) (group : Group) : Type 0 where
      own : GroupOf
      there : slice_get groups number ≡ Some own
      same : kept_group useful own ≡ group

    kept-at : (number : ℕ) (group : Group) → slice_get (map (kept_group useful) groups) number ≡ Some group → IsKept number group
    kept-at number group there =
        let kept = kept_group useful in
        let at : option_map kept (slice_get groups number) ≡ Some group = sym (slice_get-map kept groups number) ∙ there in
        let own = found kept (slice_get groups number) group at in
        record { own = own.0; there = own.1; same = some-same (kept own.0) group (sym (ap (option_map kept) own.1) ∙ at) }

    module _ (most : ℕ) (fits : AllByRecursion (Fits most) groups) (among : AllByRecursion (λ group. HaveChildren groups group.exprs) groups) where
      weight-most : (number : ℕ) → weight_at number ≤ most
      weight-most number = by (slice_get groups number) refl
        where
          by : (some : Option GroupOf) → slice_get groups number ≡ some → weight_if (option_map (λ (g : GroupOf). g.means) some) ≤ most
          by None is = omega arith
          by (Some group) is = (all-at (Fits most) groups fits number group is).light.few

      over : (number : ℕ) (group : Group) → slice_get (map (kept_group useful) groups) number ≡ Some group → AllByRecursion (IsUnder weight_at (weight_at number)) group.exprs
      over number group there =
          let kept = kept-at number group there in
          let weighs : weight_at number ≡ meaning_weight kept.own.means = ap (λ (o : Option GroupOf). weight_if (option_map (λ (g : GroupOf). g.means) o)) kept.there in
          subst (λ (g : Group). AllByRecursion (IsUnder weight_at (weight_at number)) g.exprs) kept.same
          (subst (λ (n : ℕ). AllByRecursion (IsUnder weight_at n) (map kept_expr kept.own.exprs)) (sym weighs)
          (exprs-under (meaning_weight kept.own.means) kept.own.exprs (all-at (Fits most) groups fits number kept.own kept.there).light.each
          (all-at (λ (group : GroupOf). HaveChildren groups group.exprs) groups among number kept.own kept.there)))

      kept-weighed : most ≤ 2 ^ 20 → AreWeighed (map (kept_group useful) groups) most
      kept-weighed little = record {
        light = record { weight = weight_at; most = λ number. (let here = weight-most number in omega (arith, here, little)); over = over };
        few = weight-most;
        different = λ number group there.
            let kept = kept-at number group there in
            subst (λ (g : Group). AreDifferent g.interesting) kept.same
            (interesting-different useful kept.own.schema (all-at (Fits most) groups fits number kept.own kept.there).ascending);
      }

pub memo-weighed : (tables : Tables) (levels : ℕ → Level) (t : Tree) → IsWellFormed tables t → (most : ℕ) → tree_weight t ≤ most → most ≤ 2 ^ 20 → AreWeighed (memo_of tables levels t).groups most
memo-weighed tables levels t well_formed most few little =
    let node = node_of tables levels t in
    let same : tree_weight node.tree ≡ tree_weight t = ap tree_weight (node-tree tables levels t) in
    let groups = groups_of tables levels t in
    kept-weighed groups (useful_columns tables t) most
    (all-map (Fits (tree_weight node.tree)) (Fits most) (fits-more (tree_weight node.tree) most (omega (arith, same, few))) groups (tree-fits tables levels t at_first))
    (all-among [] groups (tree-ordered tables levels t well_formed [] at_first refl).order) little
