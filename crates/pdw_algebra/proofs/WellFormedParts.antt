-- The parts of well-formed trees: children are sound, columns are made once, and no aggregate makes a key.
use Rattle.std.proofs.Common.{◌≡◌, ◌≢◌, ℕ, suc, ◌<◌, ◌==◌, ◌&&◌, ◌||◌, Bool, true, false, true≢false, List, [], ◌∷◌, ◌++◌, length, map, get_or, Option, Some, None, is_some, AllPairs, refl, sym, ap, subst, ◌∙◌, arith, tests, ne_eqb}
use Rattle.std.specs.List.{AllByRecursion, flat_map, list_all, list_any}
use Rattle.std.proofs.lemmas.Bool.{and_parts}
use Rattle.pdw_algebra.proofs.AllLaws.{all-left, all-map, all-right, numbers-same}
use Rattle.pdw_algebra.proofs.RowsWithin.{keys-there}
use Rattle.pdw_algebra.proofs.TreeFolds.{Inductive, by_trees, fold-block, fold-filter, fold-group, fold-join, fold-project, fold-scan}
use Rattle.pdw_algebra.proofs.Used.{has_number-append, kind-there}
use Rattle.pdw_algebra.specs.Schema.{kind_at}
use Rattle.pdw_algebra.specs.Shape.{Shape, aggregate_column, all_apart, all_typed, are_apart, block_columns, block_shape, columns_in, columns_of, group_shape, has_number, is_outer, item_column, item_kind, join_shape, joined_columns, key_column, leaves_fit, made_by, project_shape, scan_column, scan_shape, shape_of, shape_step}
use Rattle.pdw_algebra.specs.Types.{aggregate_kind}
use Rattle.pdw_algebra.specs.WellFormed.{IsWellFormed}
use Rattle.pdw_algebra.specs.declared.tree.Tree.{Tree}
use Rattle.pdw_algebra.specs.declared.tree.Tree.TheVariants as tree
use Rattle.pdw_base.specs.Schema.{Columns}
use Rattle.pdw_base.specs.declared.schema.ColId.{ColId}
use Rattle.pdw_catalog.specs.Catalog.{Tables, table_named}
use Rattle.pdw_catalog.specs.declared.table.Column.{Column}
use Rattle.pdw_catalog.specs.declared.table.Table.{Table}
use Rattle.pdw_expr.specs.declared.agg.Agg.{Agg}
use Rattle.pdw_expr.specs.declared.agg.JoinKind.{JoinKind}
use Rattle.pdw_expr.specs.declared.agg.JoinKind.TheVariants as kind
use Rattle.pdw_expr.specs.declared.cond.Cond.{Cond}
use Rattle.pdw_expr.specs.declared.scalar.Scalar.{Scalar}

-- ---- numbers that are made once

-- each number differs from all later ones
abbrev pub Once : List ColId → Type 0
Once [] = Unit {0}
Once (c ∷ made) = AllByRecursion (λ other. c.0 ≢ other.0) made × Once made

once-from : (made : List ColId) → AllPairs (λ a b. a.0 ≢ b.0) made → Once made
once-from [] pairs = tt
once-from (c ∷ made) pairs = (
  each made (λ j d within. pairs 0 (suc j) d (omega arith) (omega (arith, within))),
  once-from made (λ i j d before within. pairs (suc i) (suc j) d (omega (arith, before)) (omega (arith, within))),
)
  where
    each : (others : List ColId) → ((j : ℕ) (d : ColId) → j < length others → c.0 ≢ (get_or others j d).0) → AllByRecursion (λ (other : ColId). c.0 ≢ other.0) others
    each [] f = tt
    each (other ∷ others) f = (f 0 other (omega arith), each others (λ j d within. f (suc j) d (omega (arith, within))))

once-left : (some more : List ColId) → Once (some ++ more) → Once some
once-left [] more once = tt
once-left (c ∷ some) more once = (all-left (λ other. c.0 ≢ other.0) some more once.0, once-left some more once.1)

once-right : (some more : List ColId) → Once (some ++ more) → Once more
once-right [] more once = once
once-right (c ∷ some) more once = once-right some more once.1

-- ---- numbers that are there

abbrev pub has_made : ColId → List ColId → Bool
has_made c made = list_any (λ m. m.0 == c.0) made

made-left : (c : ColId) (some more : List ColId) → has_made c some ≡ true → has_made c (some ++ more) ≡ true
made-left c [] more there = absurd (true≢false (sym there))
made-left c (m ∷ some) more there = by (m.0 == c.0) (made-left c some more) there
  where
    by : (here : Bool) → (has_made c some ≡ true → has_made c (some ++ more) ≡ true) → (here || has_made c some) ≡ true → (here || has_made c (some ++ more)) ≡ true
    by true rest there = refl
    by false rest there = rest there

made-right : (c : ColId) (some more : List ColId) → has_made c more ≡ true → has_made c (some ++ more) ≡ true
made-right c [] more there = there
made-right c (m ∷ some) more there = by (m.0 == c.0) (made-right c some more there)
  where
    by : (here : Bool) → has_made c (some ++ more) ≡ true → (here || has_made c (some ++ more)) ≡ true
    by true rest = refl
    by false rest = rest

either-there : (a b : Bool) (P : Type 0) → (a ≡ true → P) → (b ≡ true → P) → (a || b) ≡ true → P
either-there true b P first second there = first refl
either-there false b P first second there = second there

in_both : (c : ColId) (left right : Columns) (P : Type 0) → (has_number c left ≡ true → P) → (has_number c right ≡ true → P) → has_number c (left ++ right) ≡ true → P
in_both c left right P first second there = either-there (has_number c left) (has_number c right) P first second (sym (has_number-append left right c) ∙ there)

-- ---- the columns of a sound tree are made in it

abbrev Covered : Shape → Type 0
Covered shape = shape.sound ≡ true → (c : ColId) → has_number c shape.columns ≡ true → has_made c shape.made ≡ true

covered-scan : (table : Option Table) (cols : List (ColId × ℕ)) → Covered (scan_shape table cols)
covered-scan table cols sound c there = same cols there
  where
    same : (cols : List (ColId × ℕ)) → has_number c (map (scan_column (columns_in table)) cols) ≡ true → has_made c (map (λ col. col.0) cols) ≡ true
    same [] there = there
    same (col ∷ cols) there = by (col.0.0 == c.0) (same cols) there
      where
        by : (here : Bool) → (has_number c (map (scan_column (columns_in table)) cols) ≡ true → has_made c (map (λ col. col.0) cols) ≡ true)
            → (here || has_number c (map (scan_column (columns_in table)) cols)) ≡ true → (here || has_made c (map (λ col. col.0) cols)) ≡ true
        by true rest there = refl
        by false rest there = rest there

covered-project : (items : List (ColId × Option Scalar)) (child : Shape) → Covered child → Covered (project_shape items child)
covered-project items child covered sound c there = each items parts.1 there
  where
    parts : (child.sound ≡ true) × (list_all (λ item. is_some (item_kind child.columns item)) items ≡ true)
    parts = and_parts child.sound (list_all (λ item. is_some (item_kind child.columns item)) items) sound

    -- an item that is passed is a column of the child
    here : (item : ColId × Option Scalar) (rest : List (ColId × Option Scalar)) → is_some (item_kind child.columns item) ≡ true → item.0 ≡ c
        → has_made c (child.made ++ flat_map made_by (item ∷ rest)) ≡ true
    here (d, None) rest some same =
        made-left c child.made (flat_map made_by rest)
        (subst (λ x. has_made x child.made ≡ true) same (covered parts.0 d (kind-there child.columns d some)))
    here (d, Some x) rest some same =
        made-right c child.made (d ∷ flat_map made_by rest) (subst (λ x. ((x.0 == c.0) || has_made c (flat_map made_by rest)) ≡ true) (sym same) itself)
      where
        equal : (c.0 == c.0) ≡ true
        equal = grind (arith, tests)

        itself : ((c.0 == c.0) || has_made c (flat_map made_by rest)) ≡ true
        itself = ap (λ b. b || has_made c (flat_map made_by rest)) equal

    each : (items : List (ColId × Option Scalar)) → list_all (λ item. is_some (item_kind child.columns item)) items ≡ true
        → has_number c (map (item_column child.columns) items) ≡ true → has_made c (child.made ++ flat_map made_by items) ≡ true
    each [] all there = absurd (true≢false (sym there))
    each (item ∷ items) all there =
        let both = and_parts (is_some (item_kind child.columns item)) (list_all (λ item. is_some (item_kind child.columns item)) items) all in
        either-there (item.0.0 == c.0) (has_number c (map (item_column child.columns) items)) (has_made c (child.made ++ flat_map made_by (item ∷ items)) ≡ true)
        (λ same. here item items both.0 (numbers-same item.0 c same))
        (λ later. past child.made (made_by item) (flat_map made_by items) (each items both.1 later)) there
      where
        past : (xs ys zs : List ColId) → has_made c (xs ++ zs) ≡ true → has_made c (xs ++ (ys ++ zs)) ≡ true
        past [] ys zs there = made-right c ys zs there
        past (m ∷ xs) ys zs there = by (m.0 == c.0) (past xs ys zs) there
          where
            by : (here : Bool) → (has_made c (xs ++ zs) ≡ true → has_made c (xs ++ (ys ++ zs)) ≡ true) → (here || has_made c (xs ++ zs)) ≡ true → (here || has_made c (xs ++ (ys ++ zs))) ≡ true
            by true rest there = refl
            by false rest there = rest there

covered-leaves : (leaves : List Shape) → AllByRecursion Covered leaves → list_all (λ leaf. leaf.sound) leaves ≡ true
    → (c : ColId) → has_number c (block_columns leaves) ≡ true → has_made c (flat_map (λ leaf. leaf.made) leaves) ≡ true
covered-leaves [] all sound c there = there
covered-leaves (leaf ∷ leaves) all sound c there =
    let parts = and_parts leaf.sound (list_all (λ leaf. leaf.sound) leaves) sound in
    in_both c leaf.columns (block_columns leaves) (has_made c (leaf.made ++ flat_map (λ (leaf : Shape). leaf.made) leaves) ≡ true)
    (λ here. made-left c leaf.made (flat_map (λ (leaf : Shape). leaf.made) leaves) (all.0 parts.0 c here))
    (λ later. made-right c leaf.made (flat_map (λ (leaf : Shape). leaf.made) leaves) (covered-leaves leaves all.1 parts.1 c later)) there

covered-block : (leaves : List Shape) (conds : List Cond) → AllByRecursion Covered leaves → Covered (block_shape leaves conds)
covered-block leaves conds all sound = covered-leaves leaves all (and_parts (list_all (λ leaf. leaf.sound) leaves) _ sound).0

covered-sides : (left right : Shape) → Covered left → Covered right → left.sound ≡ true → right.sound ≡ true
    → (c : ColId) → has_number c (left.columns ++ right.columns) ≡ true → has_made c (left.made ++ right.made) ≡ true
covered-sides left right first second left_sound right_sound c there =
    in_both c left.columns right.columns (has_made c (left.made ++ right.made) ≡ true)
    (λ here. made-left c left.made right.made (first left_sound c here)) (λ here. made-right c left.made right.made (second right_sound c here)) there

covered-join : (k : JoinKind) (conds : List Cond) (left right : Shape) → Covered left → Covered right → Covered (join_shape k conds left right)
covered-join k conds left right first second sound c there = by k there
  where
    both : (left.sound ≡ true) × (right.sound ≡ true)
    both = and_parts left.sound right.sound (and_parts (left.sound && right.sound) _ sound).0

    by : (k : JoinKind) → has_number c (joined_columns k left.columns right.columns) ≡ true → has_made c (left.made ++ right.made) ≡ true
    by kind.Inner there = covered-sides left right first second both.0 both.1 c there
    by kind.Left there = covered-sides left right first second both.0 both.1 c there
    by kind.Full there = covered-sides left right first second both.0 both.1 c there
    by kind.Semi there = made-left c left.made right.made (first both.0 c there)
    by kind.Anti there = made-left c left.made right.made (first both.0 c there)

outs-there : (columns : Columns) (aggs : List Agg) (c : ColId) → has_number c (map (aggregate_column columns) aggs) ≡ true → has_made c (map (λ agg. agg.out) aggs) ≡ true
outs-there columns [] c there = there
outs-there columns (agg ∷ aggs) c there = by (agg.out.0 == c.0) (outs-there columns aggs c) there
  where
    by : (here : Bool) → (has_number c (map (aggregate_column columns) aggs) ≡ true → has_made c (map (λ agg. agg.out) aggs) ≡ true)
        → (here || has_number c (map (aggregate_column columns) aggs)) ≡ true → (here || has_made c (map (λ agg. agg.out) aggs)) ≡ true
    by true rest there = refl
    by false rest there = rest there

key-there : (columns : Columns) (keys : List ColId) (c : ColId) → list_all (λ key. has_number key columns) keys ≡ true → list_any (λ key. key.0 == c.0) keys ≡ true → has_number c columns ≡ true
key-there columns [] c all there = absurd (true≢false (sym there))
key-there columns (key ∷ keys) c all there =
    let parts = and_parts (has_number key columns) (list_all (λ key. has_number key columns) keys) all in
    either-there (key.0 == c.0) (list_any (λ key. key.0 == c.0) keys) (has_number c columns ≡ true)
    (λ same. subst (λ d. has_number d columns ≡ true) (numbers-same key c same) parts.0) (λ later. key-there columns keys c parts.1 later) there

covered-group : (keys : List ColId) (aggs : List Agg) (child : Shape) → Covered child → Covered (group_shape keys aggs child)
covered-group keys aggs child covered sound c there =
    let parts = and_parts child.sound (list_all (λ key. has_number key child.columns) keys && list_all (λ agg. is_some (aggregate_kind child.columns agg)) aggs) sound in
    let all = and_parts (list_all (λ key. has_number key child.columns) keys) (list_all (λ agg. is_some (aggregate_kind child.columns agg)) aggs) parts.1 in
    in_both c (map (key_column child.columns) keys) (map (aggregate_column child.columns) aggs) (has_made c (child.made ++ map (λ (agg : Agg). agg.out) aggs) ≡ true)
    (λ here. made-left c child.made (map (λ (agg : Agg). agg.out) aggs) (covered parts.0 c (key-there child.columns keys c all.0 (sym (keys-there child.columns keys c) ∙ here))))
    (λ here. made-right c child.made (map (λ (agg : Agg). agg.out) aggs) (outs-there child.columns aggs c here)) there

module _ (tables : Tables) where
  abbrev TreeCovered : Tree → Type 0
  TreeCovered t = Covered (shape_of tables t)

  each-covered : (leaves : List Tree) → AllByRecursion TreeCovered leaves → AllByRecursion Covered (map (shape_of tables) leaves)
  each-covered [] all = tt
  each-covered (leaf ∷ leaves) all = (all.0, each-covered leaves all.1)

  covered-cases : Inductive TreeCovered
  covered-cases = record {
    scan = λ table alias cols. subst Covered (sym (fold-scan (shape_step tables) table alias cols)) (covered-scan (table_named table tables) cols);
    filter = λ conds child covered. subst Covered (sym (fold-filter (shape_step tables) conds child)) (λ sound. covered (and_parts (shape_of tables child).sound _ sound).0);
    project = λ items child covered. subst Covered (sym (fold-project (shape_step tables) items child)) (covered-project items (shape_of tables child) covered);
    block = λ leaves conds all. subst Covered (sym (fold-block (shape_step tables) leaves conds)) (covered-block (map (shape_of tables) leaves) conds (each-covered leaves all));
    join = λ k conds left right first second. subst Covered (sym (fold-join (shape_step tables) k conds left right)) (covered-join k conds (shape_of tables left) (shape_of tables right) first second);
    group = λ keys aggs child covered. subst Covered (sym (fold-group (shape_step tables) keys aggs child)) (covered-group keys aggs (shape_of tables child) covered);
  }

  covered-tree : (t : Tree) → TreeCovered t
  covered-tree = by_trees TreeCovered covered-cases

-- ---- sound shapes

-- each node is well-formed by itself, and no number is made twice
pub record IsSound (shape : Shape) : Type 0 where
  pub nodes : shape.sound ≡ true
  pub once : Once shape.made

pub sound-filter : (child : Shape) (columns : Columns) (made : List ColId) (rest : Bool) → IsSound (record { columns = columns; made = child.made; sound = child.sound && rest }) → IsSound child
sound-filter child columns made rest sound = record { nodes = (and_parts child.sound rest sound.nodes).0; once = sound.once }

pub sound-project : (items : List (ColId × Option Scalar)) (child : Shape) → IsSound (project_shape items child) → IsSound child
sound-project items child sound = record {
  nodes = (and_parts child.sound _ sound.nodes).0;
  once = once-left child.made (flat_map made_by items) sound.once;
}

pub sound-leaves : (leaves : List Shape) → list_all (λ leaf. leaf.sound) leaves ≡ true → Once (flat_map (λ leaf. leaf.made) leaves) → AllByRecursion IsSound leaves
sound-leaves [] sound once = tt
sound-leaves (leaf ∷ leaves) sound once =
    let parts = and_parts leaf.sound (list_all (λ leaf. leaf.sound) leaves) sound in (
      record { nodes = parts.0; once = once-left leaf.made (flat_map (λ (leaf : Shape). leaf.made) leaves) once },
      sound-leaves leaves parts.1 (once-right leaf.made (flat_map (λ (leaf : Shape). leaf.made) leaves) once),
    )

pub record BlockParts (leaves : List Shape) (conds : List Cond) : Type 0 where
  pub each : AllByRecursion IsSound leaves
  pub fits : leaves_fit (length leaves) conds ≡ true
  pub apart : all_apart (map (λ leaf. leaf.columns) leaves) ≡ true
  pub typed : all_typed (block_columns leaves) conds ≡ true

pub sound-block : (leaves : List Shape) (conds : List Cond) → IsSound (block_shape leaves conds) → BlockParts leaves conds
sound-block leaves conds sound =
    let one = and_parts (list_all (λ leaf. leaf.sound) leaves) (leaves_fit (length leaves) conds && (all_apart (map (λ leaf. leaf.columns) leaves) && all_typed (block_columns leaves) conds)) sound.nodes in
    let two = and_parts (leaves_fit (length leaves) conds) (all_apart (map (λ leaf. leaf.columns) leaves) && all_typed (block_columns leaves) conds) one.1 in
    let three = and_parts (all_apart (map (λ leaf. leaf.columns) leaves)) (all_typed (block_columns leaves) conds) two.1 in
    record { each = sound-leaves leaves one.0 sound.once; fits = two.0; apart = three.0; typed = three.1 }

pub sound-join : (k : JoinKind) (conds : List Cond) (left right : Shape) → IsSound (join_shape k conds left right) → IsSound left × IsSound right
sound-join k conds left right sound =
    let both = and_parts left.sound right.sound (and_parts (left.sound && right.sound) _ sound.nodes).0 in
    (record { nodes = both.0; once = once-left left.made right.made sound.once }, record { nodes = both.1; once = once-right left.made right.made sound.once })

pub sound-child : (keys : List ColId) (aggs : List Agg) (child : Shape) → IsSound (group_shape keys aggs child) → IsSound child
sound-child keys aggs child sound = record {
  nodes = (and_parts child.sound _ sound.nodes).0;
  once = once-left child.made (map (λ agg. agg.out) aggs) sound.once;
}

-- a number that was made before is not made by an aggregate
other-made : (made : List ColId) (aggs : List Agg) (c : ColId) → Once (made ++ map (λ agg. agg.out) aggs) → has_made c made ≡ true → AllByRecursion (λ agg. c.0 ≢ agg.out.0) aggs
other-made [] aggs c once there = absurd (true≢false (sym there))
other-made (m ∷ made) aggs c once there =
    either-there (m.0 == c.0) (has_made c made) (AllByRecursion (λ agg. c.0 ≢ agg.out.0) aggs)
    (λ same. subst (λ d. AllByRecursion (λ (agg : Agg). d.0 ≢ agg.out.0) aggs) (numbers-same m c same) (outs aggs (all-right (λ other. m.0 ≢ other.0) made (map (λ (agg : Agg). agg.out) aggs) once.0)))
    (λ later. other-made made aggs c once.1 later) there
  where
    outs : (aggs : List Agg) → AllByRecursion (λ other. m.0 ≢ other.0) (map (λ agg. agg.out) aggs) → AllByRecursion (λ agg. m.0 ≢ agg.out.0) aggs
    outs [] all = tt
    outs (agg ∷ aggs) all = (all.0, outs aggs all.1)

no-key : (n : ℕ) (keys : List ColId) → AllByRecursion (λ key. key.0 ≢ n) keys → list_any (λ key. key.0 == n) keys ≡ false
no-key n [] all = refl
no-key n (key ∷ keys) all = ap (λ b. b || list_any (λ key. key.0 == n) keys) (ne_eqb key.0 n all.0) ∙ no-key n keys all.1

no-keys : (keys : List ColId) (aggs : List Agg) → AllByRecursion (λ key. AllByRecursion (λ agg. key.0 ≢ agg.out.0) aggs) keys
    → AllByRecursion (λ agg. list_any (λ key. key.0 == agg.out.0) keys ≡ false) aggs
no-keys keys [] all = tt
no-keys keys (agg ∷ aggs) all = (
  no-key agg.out.0 keys (all-map (λ (key : ColId). AllByRecursion (λ (agg : Agg). key.0 ≢ agg.out.0) (agg ∷ aggs)) (λ key. key.0 ≢ agg.out.0) (λ key differs. differs.0) keys all),
  no-keys keys aggs (all-map (λ (key : ColId). AllByRecursion (λ (agg : Agg). key.0 ≢ agg.out.0) (agg ∷ aggs)) (λ (key : ColId). AllByRecursion (λ (agg : Agg). key.0 ≢ agg.out.0) aggs) (λ key differs. differs.1) keys all),
)

each-key : (P : ColId → Type 0) (columns : Columns) (keys : List ColId) → ((key : ColId) → has_number key columns ≡ true → P key)
    → list_all (λ key. has_number key columns) keys ≡ true → AllByRecursion P keys
each-key P columns [] holds all = tt
each-key P columns (key ∷ keys) holds all =
    let parts = and_parts (has_number key columns) (list_all (λ key. has_number key columns) keys) all in
    (holds key parts.0, each-key P columns keys holds parts.1)

module _ (tables : Tables) where
  -- no aggregate makes a key
  pub keys-apart : (keys : List ColId) (aggs : List Agg) (child : Tree) → IsSound (group_shape keys aggs (shape_of tables child))
      → AllByRecursion (λ agg. list_any (λ key. key.0 == agg.out.0) keys ≡ false) aggs
  keys-apart keys aggs child sound =
      let shape = shape_of tables child in
      let parts = and_parts shape.sound (list_all (λ key. has_number key shape.columns) keys && list_all (λ agg. is_some (aggregate_kind shape.columns agg)) aggs) sound.nodes in
      let keyed = and_parts (list_all (λ key. has_number key shape.columns) keys) (list_all (λ agg. is_some (aggregate_kind shape.columns agg)) aggs) parts.1 in
      no-keys keys aggs
      (each-key (λ key. AllByRecursion (λ agg. key.0 ≢ agg.out.0) aggs) shape.columns keys
      (λ key there. other-made shape.made aggs key sound.once (covered-tree tables child parts.0 key there)) keyed.0)

  pub sound-tree : (t : Tree) → IsWellFormed tables t → IsSound (shape_of tables t)
  sound-tree t well = record { nodes = well.nodes; once = once-from (shape_of tables t).made well.made }
