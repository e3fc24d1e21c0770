-- What each group of a memo means is read from it.
use Rattle.std.proofs.Common.{◌≡◌, ℕ, ◌+◌, [], ◌++◌, Some, refl, sym, ap, subst, ◌∙◌, arith, append-nil}
use Rattle.std.specs.List.{slice_get}
use Rattle.std.specs.Option.{option_map}
use Rattle.std.proofs.lemmas.Option.{slice_get-map}
use Rattle.pdw_groups.proofs.OrderLaws.{found}
use Rattle.pdw_groups.specs.Columns.{useful_columns}
use Rattle.pdw_groups.specs.Group.{GroupOf, kept_group}
use Rattle.pdw_groups.specs.Meaning.{Meaning}
use Rattle.pdw_groups.specs.Memo.{Contents, at_first, groups_of}
use Rattle.pdw_groups.specs.Node.{node_of}
use Rattle.pdw_groups.specs.declared.group.Group.{Group}
use Rattle.pdw_memo.specs.Laws.{meanings_in}
use Rattle.pdw_memo.specs.Memo.{IsMemo}
use Rattle.pdw_sizes.proofs.BlockReads.{GroupReads}
use Rattle.pdw_sizes.proofs.EachLaws.{each-at, stand-itself}
use Rattle.pdw_sizes.proofs.NodeReads.{tree-reads}
use Rattle.pdw_sizes.specs.Reading.{Reads}
use Rattle.pdw_sizes.specs.Sizes.{schema_of_meaning}

some-same : {X : Type 0} (a b : X) → Some a ≡ Some b → a ≡ b
some-same a b same = cc

-- a group of the memo is one that reads what it means
pub record Found (contents : Contents) (memo : IsMemo contents) (number : ℕ) (group : Group) (means : Meaning) : Type 0 where
  pub own : GroupOf
  pub there : slice_get (groups_of memo.tables memo.levels memo.tree) number ≡ Some own
  pub kept : kept_group (useful_columns memo.tables memo.tree) own ≡ group
  pub is : own.means ≡ means

pub found-group : (contents : Contents) (memo : IsMemo contents) (number : ℕ) (group : Group) (means : Meaning) → slice_get contents.groups number ≡ Some group
    → slice_get (meanings_in contents memo) number ≡ Some means → Found contents memo number group means
found-group contents memo number group means there meant =
    let groups = groups_of memo.tables memo.levels memo.tree in
    let kept = kept_group (useful_columns memo.tables memo.tree) in
    let at : option_map kept (slice_get groups number) ≡ Some group = sym (slice_get-map kept groups number) ∙ ap (λ (c : Contents). slice_get c.groups number) (sym memo.is) ∙ there in
    let own = found kept (slice_get groups number) group at in
    record {
      own = own.0;
      there = own.1;
      kept = some-same (kept own.0) group (sym (ap (option_map kept) own.1) ∙ at);
      is = some-same own.0.means means (sym (slice_get-map (λ (g : GroupOf). g.means) groups number ∙ ap (option_map (λ (g : GroupOf). g.means)) own.1) ∙ meant);
    }

-- the meaning of a group is read, and has its schema
pub record IsKnown (contents : Contents) (memo : IsMemo contents) (number : ℕ) (group : Group) (means : Meaning) : Type 0 where
  pub reads : Reads (meanings_in contents memo) number contents.blocks group.key group.schema group.exprs means
  pub schema : group.schema ≡ schema_of_meaning memo.tables means

pub memo-reads : (contents : Contents) (memo : IsMemo contents) (number : ℕ) (group : Group) (means : Meaning) → slice_get contents.groups number ≡ Some group
    → slice_get (meanings_in contents memo) number ≡ Some means → IsKnown contents memo number group means
memo-reads contents memo number group means there meant =
    let groups = groups_of memo.tables memo.levels memo.tree in
    let blocks = (node_of memo.tables memo.levels memo.tree).parts at_first in
    let meanings = meanings_in contents memo in
    let own = found-group contents memo number group means there meant in
    let each =
    tree-reads memo.tables groups blocks memo.levels memo.tree memo.plannable.well_formed [] [] at_first refl (sym (append-nil ([] ++ groups))) (stand-itself blocks) in
    let same : 0 + number ≡ number = omega arith in
    let known : GroupReads memo.tables meanings blocks number own.own =
    subst (λ n. GroupReads memo.tables meanings blocks n own.own) same (each-at (GroupReads memo.tables meanings blocks) 0 groups each number own.own own.there) in
    record {
      reads =
          subst (λ (c : Contents). Reads meanings number c.blocks group.key group.schema group.exprs means) (sym memo.is)
          (subst (λ m. Reads meanings number blocks group.key group.schema group.exprs m) own.is
          (subst (λ (g : Group). Reads meanings number blocks g.key g.schema g.exprs own.own.means) own.kept known.reads));
      schema = ap (λ (g : Group). g.schema) (sym own.kept) ∙ known.schema ∙ ap (schema_of_meaning memo.tables) own.is;
    }

-- each group has a meaning
pub memo-means : (contents : Contents) (memo : IsMemo contents) (number : ℕ) (group : Group) → slice_get contents.groups number ≡ Some group
    → (means : Meaning) × (slice_get (meanings_in contents memo) number ≡ Some means)
memo-means contents memo number group there =
    let groups = groups_of memo.tables memo.levels memo.tree in
    let kept = kept_group (useful_columns memo.tables memo.tree) in
    let at : option_map kept (slice_get groups number) ≡ Some group = sym (slice_get-map kept groups number) ∙ ap (λ (c : Contents). slice_get c.groups number) (sym memo.is) ∙ there in
    let own = found kept (slice_get groups number) group at in
    (own.0.means, slice_get-map (λ (g : GroupOf). g.means) groups number ∙ ap (option_map (λ (g : GroupOf). g.means)) own.1)
