-- Operators that are applied at each node: each line of the local rules by its law.
use Rattle.std.proofs.Common.{◌≡◌, ℕ, ◌≤◌, ◌==◌, Bool, true, false, true≢false, List, [], ◌∷◌, map, Option, Some, refl, sym, ap, subst, ◌∙◌}
use Rattle.std.specs.List.{AllByRecursion, list_any, slice_get}
use Rattle.pdw_algebra.proofs.AllLaws.{numbers-same}
use Rattle.pdw_algebra.proofs.WithinLaws.{not_right}
use Rattle.pdw_algebra.specs.Shape.{are_apart, has_number}
use Rattle.pdw_algebra.specs.Within.{AllWithin}
use Rattle.pdw_base.specs.Schema.{Columns, Env}
use Rattle.pdw_base.specs.declared.node.Node.TheVariants as node
use Rattle.pdw_base.specs.declared.node.Node.{Node}
use Rattle.pdw_base.specs.declared.schema.ColId.{ColId}
use Rattle.pdw_catalog.specs.Appliance.{IsSound, Contents as Appliance, whole_of}
use Rattle.pdw_catalog.specs.Catalog.{Tables, table_named}
use Rattle.pdw_catalog.specs.Database.{undivided}
use Rattle.pdw_expr.specs.Rows.{filtered, grouped, joined, projected, scanned}
use Rattle.pdw_groups.specs.Columns.{hash_in}
use Rattle.pdw_groups.specs.Meaning.{Meaning, given}
use Rattle.pdw_groups.specs.Memo.{AdmitEachAt, AdmitsAt}
use Rattle.pdw_groups.specs.declared.group.Group.{Group}
use Rattle.pdw_groups.specs.declared.key.GroupId.{GroupId}
use Rattle.pdw_groups.specs.declared.op.Op.{Op}
use Rattle.pdw_groups.specs.declared.op.Op.TheVariants as op
use Rattle.pdw_memo.proofs.EachGroup.{all-at}
use Rattle.pdw_memo.specs.Laws.{HasApartSides, HasItsColumns, MakesNoKey, ReadsItsTable}
use Rattle.pdw_move.specs.declared.kinds.Prop.{Prop}
use Rattle.pdw_move.specs.declared.kinds.Prop.TheVariants as prop
use Rattle.pdw_partial.specs.Partial.{final_rows}
use Rattle.pdw_plan.proofs.MemoPartials.{AdmitsParts}
use Rattle.pdw_plan.proofs.PlanParts.{any-at}
use Rattle.pdw_plan.specs.Given.{database_at}
use Rattle.pdw_rules.proofs.Groups.{final-stands, group-stands, partial-stands}
use Rattle.pdw_rules.proofs.JoinLemmas.{join-stands}
use Rattle.pdw_rules.proofs.Scans.{scan-stands}
use Rattle.pdw_rules.proofs.UnaryLemmas.{filter-stands, project-stands}
use Rattle.pdw_rules.specs.Rules.{binary_rule, leaf_rule, may_have, unary_rule}
use Rattle.pdw_rules.specs.Scans.{scanned_at}
use Rattle.pdw_rules.specs.Stands.{HasNone, HasNoneOf, PlacedRows, StandsFor, made_at}

-- ---- columns of one side of a join alone

module _ (schema : Columns) where
  rows-none : (c : ColId) → has_number c schema ≡ false → (rows : List Env) → AllWithin schema rows → HasNone c rows
  rows-none c absent [] all = tt
  rows-none c absent (row ∷ rows) all = (all.0.elsewhere c absent, rows-none c absent rows all.1)

  column-there : (interesting : List ColId) (c : ColId) → AllByRecursion (λ c. has_number c schema ≡ true) interesting → list_any (λ i. i.0 == c.0) interesting ≡ true → has_number c schema ≡ true
  column-there interesting c all is =
      let at = any-at (λ i. i.0 == c.0) interesting is in
      subst (λ d. has_number d schema ≡ true) (numbers-same at.item c at.passes) (all-at (λ c. has_number c schema ≡ true) interesting all at.place at.item at.there)

-- where a property is one that a group may have, the rows of a group that has none of its columns have NULL in its column
none-of : (group other : Group) → HasItsColumns group → ((c : ColId) → has_number c group.schema ≡ true → has_number c other.schema ≡ false) → (p : Prop) → may_have group.interesting p ≡ true
    → (rows : List Env) → AllWithin other.schema rows → HasNoneOf p rows
none-of group other has apart prop.Spread may rows within = tt
none-of group other has apart (prop.Hash c) may rows within = rows-none other.schema c (apart c (column-there group.schema group.interesting c has may)) rows within
none-of group other has apart prop.Replicated may rows within = tt
none-of group other has apart prop.Single may rows within = tt
none-of group other has apart prop.Control may rows within = tt

not-left : (left right : Columns) (c : ColId) → are_apart left right ≡ true → has_number c right ≡ true → has_number c left ≡ false
not-left left right c apart is = by (has_number c left) refl
  where
    by : (b : Bool) → has_number c left ≡ b → has_number c left ≡ false
    by true there = absurd (true≢false (sym is ∙ not_right right c left apart there))
    by false there = there

module _ (appliance : Appliance) (sound : IsSound appliance) where
  some : 1 ≤ appliance.nodes
  some = sound.nodes.0

  abbrev each_node : Op → List PlacedRows → PlacedRows
  each_node operator children place = given (database_at appliance place) operator (map (λ (rows : PlacedRows). rows place) children)

  -- ---- scans

  scan-rows : (table alias : List ℕ) (cols : List (ColId × ℕ)) (hash : Option ColId) (replicated : Bool) (place : Node) → scanned_at appliance table cols place ≡ each_node (op.Scan table alias cols hash replicated) [] place
  scan-rows table alias cols hash replicated (node.Compute k) = refl
  scan-rows table alias cols hash replicated node.Control = refl

  pub scan-case : (operator : Op) (children : List GroupId) (p : Prop) → leaf_rule operator p ≡ true → ReadsItsTable appliance.tables operator children
      → StandsFor appliance.nodes p (made_at p (each_node operator [])) (given (undivided appliance) operator [])
  scan-case (op.Scan table alias cols hash replicated) children p rule reads =
      let same : made_at p (scanned_at appliance table cols) ≡ made_at p (each_node (op.Scan table alias cols hash replicated) []) =
      ap (made_at p) (λ i place. scan-rows table alias cols hash replicated place i) in
      subst (λ rows. StandsFor appliance.nodes p rows (map (scanned cols) (whole_of table appliance))) same
      (scan-stands cols appliance sound reads.different table p
      (subst (λ r. leaf_rule (op.Scan table alias cols (hash_in (table_named table appliance.tables) cols) r) p ≡ true) reads.replicated
      (subst (λ h. leaf_rule (op.Scan table alias cols h replicated) p ≡ true) reads.hash rule)))
  scan-case (op.Filter conds) children p rule reads = absurd (true≢false (sym rule))
  scan-case (op.Project items) children p rule reads = absurd (true≢false (sym rule))
  scan-case (op.Join kind conds) children p rule reads = absurd (true≢false (sym rule))
  scan-case (op.GroupBy keys aggs) children p rule reads = absurd (true≢false (sym rule))
  scan-case (op.Partial keys aggs) children p rule reads = absurd (true≢false (sym rule))
  scan-case (op.Final keys aggs) children p rule reads = absurd (true≢false (sym rule))

  -- an operator that is a scan by its rule has no child
  pub scan-alone : (tables : Tables) (operator : Op) (children : List GroupId) (p : Prop) → leaf_rule operator p ≡ true → ReadsItsTable tables operator children → children ≡ []
  scan-alone tables (op.Scan table alias cols hash replicated) children p rule reads = reads.alone
  scan-alone tables (op.Filter conds) children p rule reads = absurd (true≢false (sym rule))
  scan-alone tables (op.Project items) children p rule reads = absurd (true≢false (sym rule))
  scan-alone tables (op.Join kind conds) children p rule reads = absurd (true≢false (sym rule))
  scan-alone tables (op.GroupBy keys aggs) children p rule reads = absurd (true≢false (sym rule))
  scan-alone tables (op.Partial keys aggs) children p rule reads = absurd (true≢false (sym rule))
  scan-alone tables (op.Final keys aggs) children p rule reads = absurd (true≢false (sym rule))

  -- ---- operators over one child

  module _ (means : List Meaning) (number : ℕ) where
    -- placed rows stand for a bag that the group of this number admits
    pub record StandAt (p : Prop) (rows : PlacedRows) : Type 0 where
      pub bag : List Env
      pub admitted : AdmitsAt (undivided appliance) means number bag
      pub stands : StandsFor appliance.nodes p rows bag

    pub unary-case : (operator : Op) (child : GroupId) (p result : Prop) → unary_rule operator p result ≡ true → MakesNoKey operator
        → ((bags : List (List Env)) → AdmitEachAt (undivided appliance) means (child ∷ []) bags → AdmitsAt (undivided appliance) means number (given (undivided appliance) operator bags))
        → AdmitsParts (undivided appliance) means number operator (child ∷ []) → (rows : PlacedRows) (bag : List Env) → AdmitsAt (undivided appliance) means child.0 bag → StandsFor appliance.nodes p rows bag
        → StandAt result (made_at result (each_node operator (rows ∷ [])))
    unary-case (op.Scan table alias cols hash replicated) child p result rule apart admits parts rows bag has stands = absurd (true≢false (sym rule))
    unary-case (op.Filter conds) child p result rule apart admits parts rows bag has stands = record {
      bag = filtered conds bag;
      admitted = admits (bag ∷ []) (has, tt);
      stands = filter-stands appliance.nodes conds p result rule rows bag stands;
    }
    unary-case (op.Project items) child p result rule apart admits parts rows bag has stands = record {
      bag = map (projected items) bag;
      admitted = admits (bag ∷ []) (has, tt);
      stands = project-stands appliance.nodes items p result rule rows bag stands;
    }
    unary-case (op.Join kind conds) child p result rule apart admits parts rows bag has stands = absurd (true≢false (sym rule))
    unary-case (op.GroupBy keys aggs) child p result rule apart admits parts rows bag has stands = record {
      bag = grouped keys aggs bag;
      admitted = admits (bag ∷ []) (has, tt);
      stands = group-stands appliance.nodes keys aggs apart p result rule rows bag stands;
    }
    unary-case (op.Partial keys aggs) child p result rule apart admits parts rows bag has stands =
        let made = partial-stands keys aggs appliance.nodes some apart p result rule rows bag stands in
        record { bag = made.partials; admitted = parts bag made.partials (has, tt) made.admitted; stands = made.stands }
    unary-case (op.Final keys aggs) child p result rule apart admits parts rows bag has stands = record {
      bag = final_rows keys aggs bag;
      admitted = admits (bag ∷ []) (has, tt);
      stands = final-stands appliance.nodes keys aggs apart p result rule rows bag stands;
    }

    -- ---- operators over two

    -- the rows of a side that stand for an admitted bag, whose group may have the property
    pub record IsSide (groups : List Group) (side : GroupId) (p : Prop) (rows : PlacedRows) : Type 0 where
      pub group : Group
      pub there : slice_get groups side.0 ≡ Some group
      pub may : may_have group.interesting p ≡ true
      pub columns : HasItsColumns group
      pub bag : List Env
      pub admitted : AdmitsAt (undivided appliance) means side.0 bag
      pub within : AllWithin group.schema bag
      pub stands : StandsFor appliance.nodes p rows bag

    pub binary-case : (groups : List Group) (operator : Op) (l r : GroupId) (p q result : Prop) → binary_rule operator p q result ≡ true → HasApartSides groups operator (l ∷ r ∷ [])
        → ((bags : List (List Env)) → AdmitEachAt (undivided appliance) means (l ∷ r ∷ []) bags → AdmitsAt (undivided appliance) means number (given (undivided appliance) operator bags))
        → (left right : PlacedRows) → IsSide groups l p left → IsSide groups r q right → StandAt result (made_at result (each_node operator (left ∷ right ∷ [])))
    binary-case groups (op.Join kind conds) l r p q result rule apart admits left right a b =
        let lies : are_apart a.group.schema b.group.schema ≡ true = apart a.group b.group a.there b.there in
        record {
          bag = joined kind conds a.bag b.bag;
          admitted = admits (a.bag ∷ b.bag ∷ []) (a.admitted, (b.admitted, tt));
          stands =
              join-stands appliance.nodes some kind conds p q result rule left right a.bag b.bag a.stands b.stands
              (none-of a.group b.group a.columns (λ c there. not_right b.group.schema c a.group.schema lies there) p a.may b.bag b.within)
              (none-of b.group a.group b.columns (λ c there. not-left a.group.schema b.group.schema c lies there) q b.may a.bag a.within);
        }
    binary-case groups (op.Scan table alias cols hash replicated) l r p q result rule apart admits left right a b = absurd (true≢false (sym rule))
    binary-case groups (op.Filter conds) l r p q result rule apart admits left right a b = absurd (true≢false (sym rule))
    binary-case groups (op.Project items) l r p q result rule apart admits left right a b = absurd (true≢false (sym rule))
    binary-case groups (op.GroupBy keys aggs) l r p q result rule apart admits left right a b = absurd (true≢false (sym rule))
    binary-case groups (op.Partial keys aggs) l r p q result rule apart admits left right a b = absurd (true≢false (sym rule))
    binary-case groups (op.Final keys aggs) l r p q result rule apart admits left right a b = absurd (true≢false (sym rule))
