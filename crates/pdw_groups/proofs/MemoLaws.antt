-- Each expression of a memo stands for its group, by numbers, and the last group means the tree.
use Rattle.std.proofs.Common.{◌≡◌, ℕ, zero, suc, ◌+◌, ◌-◌, ◌<◌, List, [], ◌∷◌, ◌++◌, length, map, take, Some, refl, sym, ap, subst, ◌∙◌, arith, append_assoc, append-nil, take-append-drop, length-take}
use Rattle.std.specs.List.{AllByRecursion, slice_get}
use Rattle.std.specs.Option.{option_map}
use Rattle.std.proofs.lemmas.List.{length-map}
use Rattle.std.proofs.lemmas.Option.{slice_get-map, slice_get_within}
use Rattle.pdw_algebra.specs.WellFormed.{IsWellFormed}
use Rattle.pdw_algebra.specs.declared.tree.Tree.{Tree}
use Rattle.pdw_base.specs.Schema.{Env}
use Rattle.pdw_base.specs.declared.schema.ColId.{ColId}
use Rattle.pdw_catalog.specs.Catalog.{Tables}
use Rattle.pdw_catalog.specs.Database.{Database}
use Rattle.pdw_groups.proofs.NodeOrder.{tree-ordered}
use Rattle.pdw_groups.proofs.NodeStands.{tree-stands}
use Rattle.pdw_groups.proofs.NodeTree.{node-tree}
use Rattle.pdw_groups.proofs.OrderLaws.{among-more, found}
use Rattle.pdw_groups.specs.Columns.{useful_columns}
use Rattle.pdw_groups.specs.Group.{Child, EachStands, ExprOf, GroupOf, InOrder, IsAmong, id_of, kept_expr, kept_group, meanings}
use Rattle.pdw_groups.specs.Meaning.{AdmitEach, Meaning, Stands, exactly, given}
use Rattle.pdw_groups.specs.Memo.{AdmitEachAt, AdmitsIf, EachExprStands, ExprStands, at_first, groups_of, meanings_of, memo_of}
use Rattle.pdw_groups.specs.declared.block.Level.{Level}
use Rattle.pdw_groups.specs.declared.group.Group.{Group}

-- ---- groups by their places

abbrev AllAmong : List GroupOf → GroupOf → Type 0
AllAmong before group = AllByRecursion (λ expr. AllByRecursion (IsAmong before) expr.children) group.exprs

some-same : {X : Type 0} (a b : X) → Some a ≡ Some b → a ≡ b
some-same a b same = cc

-- the children of a group are among those before it
order-at : (before groups : List GroupOf) → InOrder before groups → (i : ℕ) (group : GroupOf) → slice_get groups i ≡ Some group → AllAmong (before ++ take i groups) group
order-at before [] order i group there = absurd (omega (arith, slice_get_within [] i group there))
order-at before (first ∷ groups) order zero group there =
    subst (AllAmong (before ++ [])) (some-same first group there) (subst (λ all. AllAmong all first) (sym (append-nil before)) order.0)
order-at before (first ∷ groups) order (suc i) group there =
    subst (λ all. AllAmong all group) (append_assoc before (first ∷ []) (take i groups)) (order-at (before ++ first ∷ []) groups order.1 i group there)

all-at : {X : Type 0} (P : X → Type 0) (xs : List X) → AllByRecursion P xs → (i : ℕ) (x : X) → slice_get xs i ≡ Some x → P x
all-at P [] all i x there = absurd (omega (arith, slice_get_within [] i x there))
all-at P (y ∷ xs) all zero x there = subst P (some-same y x there) all.0
all-at P (y ∷ xs) all (suc i) x there = all-at P xs all.1 i x there

module _ (database : Database) (groups : List GroupOf) where
  abbrev by_number : List Meaning
  by_number = map (λ group. group.means) groups

  means-at : (child : Child) → IsAmong groups child → slice_get by_number child.number ≡ Some child.means
  means-at child among = slice_get-map (λ group. group.means) groups child.number ∙ among

  -- bags that the children admit by their numbers they admit by their meanings
  admit-each : (children : List Child) → AllByRecursion (IsAmong groups) children → (bags : List (List Env)) → AdmitEachAt database by_number (map id_of children) bags → AdmitEach database (meanings children) bags
  admit-each [] all [] each = tt
  admit-each [] all (bag ∷ bags) each = each
  admit-each (child ∷ children) all [] each = each
  admit-each (child ∷ children) all (bag ∷ bags) each =
      (subst (λ means. AdmitsIf database means bag) (means-at child all.0) each.0, admit-each children all.1 bags each.1)

  smaller-children : (number : ℕ) (children : List Child) → AllByRecursion (IsAmong (take number groups)) children → AllByRecursion (λ child. child.0 < number) (map id_of children)
  smaller-children number [] all = tt
  smaller-children number (child ∷ children) all =
      let at = found (λ (g : GroupOf). g.means) (slice_get (take number groups) child.number) child.means all.0 in
      let within = slice_get_within (take number groups) child.number at.0 at.1 in
      (omega (arith, within, length-take number groups), smaller-children number children all.1)

  more-children : (number : ℕ) (children : List Child) → AllByRecursion (IsAmong (take number groups)) children → AllByRecursion (IsAmong groups) children
  more-children number [] all = tt
  more-children number (child ∷ children) all =
      (subst (λ all. IsAmong all child) (take-append-drop number groups) (among-more (take number groups) _ child all.0), more-children number children all.1)

  expr-stands : (number : ℕ) (group : GroupOf) → slice_get groups number ≡ Some group → (exprs : List ExprOf)
      → AllByRecursion (λ expr. AllByRecursion (IsAmong (take number groups)) expr.children) exprs
      → AllByRecursion (λ expr. Stands database group.means expr.operator (meanings expr.children)) exprs
      → AllByRecursion (ExprStands database by_number number) (map kept_expr exprs)
  expr-stands number group there [] among stands = tt
  expr-stands number group there (expr ∷ exprs) among stands = (
    record {
      smaller = smaller-children number expr.children among.0;
      admitted = λ bags each.
          subst (λ means. AdmitsIf database means (given database expr.operator bags)) (sym (slice_get-map (λ group. group.means) groups number ∙ ap (option_map (λ (g : GroupOf). g.means)) there))
          ((stands.0).admitted bags (admit-each expr.children (more-children number expr.children among.0) bags each));
    },
    expr-stands number group there exprs among.1 stands.1,
  )

  pub all-stand : (useful : List ColId) → InOrder [] groups → AllByRecursion (EachStands database) groups → EachExprStands database by_number (map (kept_group useful) groups)
  all-stand useful order stands number kept there =
      let at = found (kept_group useful) (slice_get groups number) kept (sym (slice_get-map (kept_group useful) groups number) ∙ there) in
      let same : kept_group useful at.0 ≡ kept = some-same (kept_group useful at.0) kept (sym (ap (option_map (kept_group useful)) at.1) ∙ sym (slice_get-map (kept_group useful) groups number) ∙ there) in
      subst (λ (k : Group). AllByRecursion (ExprStands database by_number number) k.exprs) same
      (expr-stands number at.0 at.1 at.0.exprs (order-at [] groups order number at.0 at.1) (all-at (EachStands database) groups stands number at.0 at.1))

-- ---- the memo of a tree

module _ (tables : Tables) (levels : ℕ → Level) (tree : Tree) (well : IsWellFormed tables tree) where
  pub memo-stands : (database : Database) → EachExprStands database (meanings_of tables levels tree) (memo_of tables levels tree).groups
  memo-stands database =
      all-stand database (groups_of tables levels tree) (useful_columns tables tree)
      (tree-ordered tables levels tree well [] at_first refl).order (tree-stands database tables levels tree well at_first)

  -- the last group means the tree
  pub root-means : slice_get (meanings_of tables levels tree) (length (memo_of tables levels tree).groups - 1) ≡ Some (exactly tree)
  root-means =
      ap (λ n. slice_get (meanings_of tables levels tree) (n - 1)) (length-map (groups_of tables levels tree) (kept_group (useful_columns tables tree)) ∙ zero-more (length (groups_of tables levels tree)))
      ∙ means-at (record { tables = tables; rows = λ name. [] }) (groups_of tables levels tree) _ (tree-ordered tables levels tree well [] at_first refl).own
      ∙ ap (λ t. Some (exactly t)) (node-tree tables levels tree)
    where
      zero-more : (n : ℕ) → n ≡ 0 + n
      zero-more n = omega arith
