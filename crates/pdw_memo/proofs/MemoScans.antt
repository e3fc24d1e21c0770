-- In every memo a scan reads a table of the catalogue, by whose placing its rows are placed.
use Rattle.std.proofs.Common.{◌≢◌, ℕ, zero, suc, ◌<◌, List, [], ◌∷◌, length, map, get_or, is_some, AllPairs, refl, sym, subst, arith}
use Rattle.std.specs.List.{AllByRecursion}
use Rattle.std.proofs.lemmas.Bool.{and_parts}
use Rattle.pdw_algebra.proofs.WellFormedParts.{Once, sound-tree}
use Rattle.pdw_base.specs.declared.schema.ColId.{ColId}
use Rattle.pdw_catalog.specs.Catalog.{Tables, table_named}
use Rattle.pdw_expr.specs.declared.cond.Cond.{Cond}
use Rattle.pdw_groups.specs.Block.{BlockLeaf, second_group}
use Rattle.pdw_groups.specs.Columns.{useful_columns}
use Rattle.pdw_groups.specs.Group.{GroupOf, kept_expr}
use Rattle.pdw_groups.specs.Memo.{Contents, at_first, groups_of}
use Rattle.pdw_groups.specs.Node.{block_leaves, node_of, passed_all}
use Rattle.pdw_groups.specs.declared.block.Level.{Level}
use Rattle.pdw_groups.specs.declared.group.Expr.{Expr}
use Rattle.pdw_memo.proofs.EachGroup.{OfOwnGroups, each-join, each-of_block, each-of_tree, kept-each}
use Rattle.pdw_memo.specs.Laws.{OfEachExpr, ReadsItsTable}
use Rattle.pdw_memo.specs.Memo.{IsMemo}

-- numbers that are made once are different
different : (made : List ColId) → Once made → AllPairs (λ a b. a.0 ≢ b.0) made
different [] once i j d before within = absurd (omega (arith, within))
different (c ∷ made) once zero zero d before within = absurd (omega (arith, before))
different (c ∷ made) once zero (suc j) d before within = at made once.0 j (omega (arith, within))
  where
    at : (others : List ColId) → AllByRecursion (λ other. c.0 ≢ other.0) others → (j : ℕ) → j < length others → c.0 ≢ (get_or others j d).0
    at [] all j within = absurd (omega (arith, within))
    at (other ∷ others) all zero within = all.0
    at (other ∷ others) all (suc j) within = at others all.1 j (omega (arith, within))
different (c ∷ made) once (suc i) zero d before within = absurd (omega (arith, before))
different (c ∷ made) once (suc i) (suc j) d before within = different made once.1 i j d (omega (arith, before)) (omega (arith, within))

module _ (tables : Tables) (levels : ℕ → Level) where
  abbrev ReadsTables : GroupOf → Type 0
  ReadsTables group = AllByRecursion (λ expr. ReadsItsTable tables (kept_expr expr).op (kept_expr expr).children) group.exprs

  second-reads : (block place : ℕ) (leaf : BlockLeaf) (some : List Cond) → AllByRecursion ReadsTables (second_group block place leaf some)
  second-reads block place leaf [] = tt
  second-reads block place leaf (first ∷ rest) = ((tt, tt), tt)

  own-reads : OfOwnGroups ReadsTables tables levels
  own-reads = record {
    scan = λ number table alias cols sound. (
      record {
        known = (and_parts (is_some (table_named table tables)) _ sound.nodes).0;
        alone = refl;
        hash = refl;
        replicated = refl;
        different = different (map (λ col. col.0) cols) sound.once;
      },
      tt,
    );
    filter = λ number t conds child. (tt, tt);
    project = λ number t items child. (tt, tt);
    block = λ leaves conds before parts.
        let after = passed_all before (map (node_of tables levels) leaves) in
        each-of_block ReadsTables after.blocks conds (second-reads after.blocks) (levels after.blocks) (block_leaves tables levels (map (node_of tables levels) leaves) before) after.groups
        (λ mask inside has. each-join (λ expr. ReadsItsTable tables (kept_expr expr).op (kept_expr expr).children) after.blocks (levels after.blocks) conds (block_leaves tables levels (map (node_of tables levels) leaves) before) after.groups mask (λ left less is. tt));
    join = λ number t kind conds left right before sound. (tt, tt);
    group = λ keys aggs child before sound. ((tt, tt), ((tt, (tt, tt)), tt));
  }

pub memo-scans : (contents : Contents) (memo : IsMemo contents) → OfEachExpr contents.groups (λ (expr : Expr). ReadsItsTable memo.tables expr.op expr.children)
memo-scans contents memo =
    subst (λ (c : Contents). OfEachExpr c.groups (λ (expr : Expr). ReadsItsTable memo.tables expr.op expr.children)) (sym memo.is)
    (kept-each (λ (expr : Expr). ReadsItsTable memo.tables expr.op expr.children) (useful_columns memo.tables memo.tree) (groups_of memo.tables memo.levels memo.tree)
    (each-of_tree (ReadsTables memo.tables memo.levels) memo.tables memo.levels (own-reads memo.tables memo.levels) memo.tree (sound-tree memo.tables memo.tree memo.plannable.well_formed) at_first))
