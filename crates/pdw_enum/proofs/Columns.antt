-- The interesting columns of the root of a memo are different, since its schema is by rising numbers.
use Rattle.std.proofs.Common.{◌≡◌, ◌==◌, ◌<◌, ◌-◌, ℕ, suc, Bool, true, false, cond, List, [], ◌∷◌, map, filter, length, get_or, sym, ap, subst, ◌∙◌, arith, ne_eqb}
use Rattle.std.specs.List.{AllByRecursion, slice_get}
use Rattle.std.specs.Option.{option_map}
use Rattle.pdw_algebra.proofs.PlacedLemmas.{rising-schema}
use Rattle.pdw_algebra.specs.Schema.{rising}
use Rattle.pdw_algebra.specs.Shape.{columns_of}
use Rattle.pdw_base.specs.Schema.{Columns, IsAscending}
use Rattle.pdw_base.specs.declared.schema.ColId.{ColId}
use Rattle.pdw_base.specs.declared.value.Kind.{Kind}
use Rattle.pdw_enum.specs.Root.{AreDifferent, IsRooted}
use Rattle.pdw_groups.proofs.OrderLaws.{found}
use Rattle.pdw_groups.specs.Columns.{interesting_in, numbers_of, or_first, useful_columns}
use Rattle.pdw_groups.specs.Group.{GroupOf, kept_group}
use Rattle.pdw_groups.specs.Memo.{Contents, groups_of}
use Rattle.pdw_groups.specs.declared.group.Group.{Group}
use Rattle.pdw_memo.proofs.Counts.{filter-all}
use Rattle.pdw_memo.proofs.EachGroup.{all-at, some-same}
use Rattle.pdw_memo.proofs.MemoRows.{memo-root_schema}
use Rattle.pdw_memo.specs.Memo.{IsMemo}

numbers-different : (schema : Columns) → IsAscending schema → AreDifferent (numbers_of schema)
numbers-different [] ascending = tt
numbers-different (column ∷ schema) ascending = (
  each schema (λ k d within. ascending 0 (suc k) d (omega arith) (omega (arith, within))),
  numbers-different schema (λ i j d less within. ascending (suc i) (suc j) d (omega (arith, less)) (omega (arith, within))),
)
  where
    each : (later : Columns) → ((k : ℕ) (d : ColId × Kind) → k < length later → column.0.0 < (get_or later k d).0.0) → AllByRecursion (λ (other : ColId). (other.0 == column.0.0) ≡ false) (numbers_of later)
    each [] f = tt
    each (first ∷ later) f =
        let less : column.0.0 < first.0.0 = f 0 first (omega arith) in
        (ne_eqb first.0.0 column.0.0 (λ same. omega (arith, less, same)), each later (λ k d within. f (suc k) d (omega (arith, within))))

filter-different : (test : ColId → Bool) (columns : List ColId) → AreDifferent columns → AreDifferent (filter test columns)
filter-different test [] different = tt
filter-different test (c ∷ columns) different = by (test c) (filter-different test columns different.1)
  where
    by : (kept : Bool) → AreDifferent (filter test columns) → AreDifferent (cond kept (c ∷ filter test columns) (filter test columns))
    by true rest = (filter-all (λ (later : ColId). (later.0 == c.0) ≡ false) test columns different.0, rest)
    by false rest = rest

first-different : (some all : List ColId) → AreDifferent some → AreDifferent (or_first some all)
first-different [] [] different = tt
first-different [] (first ∷ rest) different = (tt, tt)
first-different (c ∷ some) all different = different

interesting-different : (useful : List ColId) (schema : Columns) → IsAscending schema → AreDifferent (interesting_in useful schema)
interesting-different useful schema ascending = first-different _ (numbers_of schema) (filter-different _ (numbers_of schema) (numbers-different schema ascending))

-- of groups whose schemas are by rising numbers
abbrev Different : Group → Type 0
Different group = IsAscending group.schema → AreDifferent group.interesting

each-different : (useful : List ColId) (groups : List GroupOf) → AllByRecursion Different (map (kept_group useful) groups)
each-different useful [] = tt
each-different useful (group ∷ groups) = (interesting-different useful group.schema, each-different useful groups)

pub memo-rooted : (contents : Contents) → IsMemo contents → IsRooted contents.groups
memo-rooted contents memo =
    let last = length contents.groups - 1 in
    let schema = rising (columns_of memo.tables memo.tree) in
    let is = memo-root_schema contents memo in
    let root = found (λ (group : Group). group.schema) (slice_get contents.groups last) schema is in
    let same : root.0.schema ≡ schema = some-same root.0.schema schema (sym (ap (option_map (λ (group : Group). group.schema)) root.1) ∙ is) in
    let all : AllByRecursion Different contents.groups =
    subst (λ (c : Contents). AllByRecursion Different c.groups) (sym memo.is) (each-different (useful_columns memo.tables memo.tree) (groups_of memo.tables memo.levels memo.tree)) in
    record {
      root = root.0;
      there = root.1;
      different = all-at Different contents.groups all last root.0 root.1 (subst IsAscending (sym same) (rising-schema (columns_of memo.tables memo.tree)).ascending);
    }
