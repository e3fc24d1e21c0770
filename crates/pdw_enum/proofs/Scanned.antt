-- A scan stands as its group may have it: the column by whose hash its table is placed is a column of the group and useful in the
-- whole statement, and so it is interesting.
use Rattle.std.proofs.Common.{◌≡◌, ◌==◌, ◌||◌, ℕ, Bool, true, false, cond, List, [], ◌∷◌, ◌++◌, map, filter, fold, Option, Some, None, inl, inr, ◌⊎◌, refl, sym, ap, subst, ◌∙◌, nat_lt, if◌then◌else◌}
use Rattle.std.specs.List.{list_any}
use Rattle.pdw_algebra.proofs.AllLaws.{numbers-same}
use Rattle.pdw_algebra.specs.Shape.{columns_in, has_number, scan_column}
use Rattle.pdw_base.specs.Schema.{Columns}
use Rattle.pdw_base.specs.declared.schema.ColId.{ColId}
use Rattle.pdw_catalog.specs.declared.table.Column.{Column}
use Rattle.pdw_catalog.specs.declared.table.Placing.{Placing}
use Rattle.pdw_catalog.specs.declared.table.Placing.TheVariants as placing
use Rattle.pdw_catalog.specs.declared.table.Table.{Table}
use Rattle.pdw_groups.specs.Columns.{hash_by, hash_in, interesting_in, least_at, lesser, numbers_of, or_first, replicated_in}
use Rattle.pdw_rules.specs.Rules.{may_have, scan_property}
use Rattle.pdw_ways.proofs.Improves.{or-right}
use Rattle.pdw_ways.proofs.Same.{column-itself, never}

-- ---- interesting columns

-- a column of this number is there
abbrev pub has_column : ColId → List ColId → Bool
has_column c columns = list_any (λ (i : ColId). i.0 == c.0) columns

pub left-there : (c : ColId) (some more : List ColId) → has_column c some ≡ true → has_column c (some ++ more) ≡ true
left-there c [] more there = never there
left-there c (i ∷ some) more there = by (i.0 == c.0) (left-there c some more) there
  where
    by : (here : Bool) → (has_column c some ≡ true → has_column c (some ++ more) ≡ true) → (here || has_column c some) ≡ true → (here || has_column c (some ++ more)) ≡ true
    by true rest there = refl
    by false rest there = rest there

pub right-there : (c : ColId) (some more : List ColId) → has_column c more ≡ true → has_column c (some ++ more) ≡ true
right-there c [] more there = there
right-there c (i ∷ some) more there = or-right (i.0 == c.0) _ (right-there c some more there)

numbers-there : (c : ColId) (schema : Columns) → has_number c schema ≡ has_column c (numbers_of schema)
numbers-there c [] = refl
numbers-there c (column ∷ schema) = ap (λ b. (column.0.0 == c.0) || b) (numbers-there c schema)

filter-there : (c : ColId) (test : ColId → Bool) → test c ≡ true → (columns : List ColId) → has_column c columns ≡ true → has_column c (filter test columns) ≡ true
filter-there c test passes [] there = there
filter-there c test passes (i ∷ columns) there = by (i.0 == c.0) refl (filter-there c test passes columns) there
  where
    here : (kept : Bool) → (i.0 == c.0) ≡ true → kept ≡ true → has_column c (cond kept (i ∷ filter test columns) (filter test columns)) ≡ true
    here true same is = ap (λ b. b || has_column c (filter test columns)) same
    here false same is = never is

    later : (kept : Bool) → has_column c (filter test columns) ≡ true → has_column c (cond kept (i ∷ filter test columns) (filter test columns)) ≡ true
    later true rest = or-right (i.0 == c.0) _ rest
    later false rest = rest

    by : (same : Bool) → (i.0 == c.0) ≡ same → (has_column c columns ≡ true → has_column c (filter test columns) ≡ true) → (same || has_column c columns) ≡ true → has_column c (cond (test i) (i ∷ filter test columns) (filter test columns)) ≡ true
    by true same rest there = here (test i) same (ap test (numbers-same i c same) ∙ passes)
    by false other rest there = later (test i) (rest there)

first-there : (c : ColId) (some all : List ColId) → has_column c some ≡ true → has_column c (or_first some all) ≡ true
first-there c [] all there = never there
first-there c (i ∷ some) all there = there

interesting-there : (c : ColId) (useful : List ColId) (schema : Columns) → has_column c useful ≡ true → has_number c schema ≡ true → has_column c (interesting_in useful schema) ≡ true
interesting-there c useful schema used there =
    first-there c _ (numbers_of schema) (filter-there c (λ (i : ColId). has_column i useful) used (numbers_of schema) (sym (numbers-there c schema) ∙ there))

-- ---- the column by whose hash a scanned table is placed

module _ (place : ℕ) (c : ColId) (columns : List Column) where
  abbrev Read : List (ColId × ℕ) → Type 0
  Read cols = has_number c (map (scan_column columns) cols) ≡ true

  some-same : (a b : ColId) → Some a ≡ Some b → a ≡ b
  some-same a b same = cc

  abbrev step : Option ColId → (ColId × ℕ) → Option ColId
  step least col = if col.1 == place then lesser least col.0 else least

  -- it is one that was there before, or this one
  one-of : (start : Option ColId) (col : ColId × ℕ) → step start col ≡ Some c → (start ≡ Some c) ⊎ (col.0 ≡ c)
  one-of start col is = by (col.1 == place) is
    where
      lesser-of : (start : Option ColId) → lesser start col.0 ≡ Some c → (start ≡ Some c) ⊎ (col.0 ≡ c)
      lesser-of None is = inr (some-same col.0 c is)
      lesser-of (Some least) is = choose (nat_lt col.0.0 least.0) is
        where
          choose : (less : Bool) → (if less then Some col.0 else Some least) ≡ Some c → (Some least ≡ Some c) ⊎ (col.0 ≡ c)
          choose true is = inr (some-same col.0 c is)
          choose false is = inl is

      by : (here : Bool) → (if here then lesser start col.0 else start) ≡ Some c → (start ≡ Some c) ⊎ (col.0 ≡ c)
      by true is = lesser-of start is
      by false is = inl is

  least-from : (cols : List (ColId × ℕ)) (start : Option ColId) → fold step start cols ≡ Some c → (start ≡ Some c) ⊎ Read cols
  least-from [] start is = inl is
  least-from (col ∷ cols) start is = by (least-from cols (step start col) is)
    where
      here : (start ≡ Some c) ⊎ (col.0 ≡ c) → (start ≡ Some c) ⊎ Read (col ∷ cols)
      here (inl before) = inl before
      here (inr same) = inr (ap (λ b. b || has_number c (map (scan_column columns) cols)) (subst (λ (d : ColId). (d.0 == c.0) ≡ true) (sym same) (column-itself c)))

      by : (step start col ≡ Some c) ⊎ Read cols → (start ≡ Some c) ⊎ Read (col ∷ cols)
      by (inl is) = here (one-of start col is)
      by (inr there) = inr (or-right (col.0.0 == c.0) _ there)

  least-read : (cols : List (ColId × ℕ)) → least_at place cols ≡ Some c → Read cols
  least-read cols is = by (least-from cols None is)
    where
      by : ◌≡◌ {A = Option ColId} None (Some c) ⊎ Read cols → Read cols
      by (inl none) = absurd (cc)
      by (inr there) = there

hash-read : (table : Option Table) (cols : List (ColId × ℕ)) (c : ColId) → hash_in table cols ≡ Some c → has_number c (map (scan_column (columns_in table)) cols) ≡ true
hash-read None cols c is = absurd (cc)
hash-read (Some table) cols c is = by table.placing is
  where
    by : (p : Placing) → hash_by p cols ≡ Some c → has_number c (map (scan_column table.columns) cols) ≡ true
    by (placing.Hash place) is = least-read place c table.columns cols is
    by placing.Replicate is = absurd (cc)

-- ---- how a scan stands

scan-may : (interesting : List ColId) (hash : Option ColId) (replicated : Bool) → ((c : ColId) → hash ≡ Some c → has_column c interesting ≡ true) → may_have interesting (scan_property hash replicated) ≡ true
scan-may interesting hash true there = refl
scan-may interesting None false there = refl
scan-may interesting (Some c) false there = there c refl

pub scan-allowed : (useful : List ColId) (table : Option Table) (cols : List (ColId × ℕ)) (schema : Columns)
    → ((c : ColId) → hash_in table cols ≡ Some c → has_column c useful ≡ true)
    → ((c : ColId) → has_number c (map (scan_column (columns_in table)) cols) ≡ true → has_number c schema ≡ true)
    → may_have (interesting_in useful schema) (scan_property (hash_in table cols) (replicated_in table)) ≡ true
scan-allowed useful table cols schema used kept =
    scan-may (interesting_in useful schema) (hash_in table cols) (replicated_in table)
    (λ c is. interesting-there c useful schema (used c is) (kept c (hash-read table cols c is)))
