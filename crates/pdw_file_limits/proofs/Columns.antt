-- The interesting columns of a group are different, where its schema is by rising numbers.
use Rattle.std.proofs.Common.{◌≡◌, ◌==◌, ◌<◌, ℕ, suc, Bool, true, false, cond, List, [], ◌∷◌, filter, length, get_or, arith, ne_eqb}
use Rattle.std.specs.List.{AllByRecursion}
use Rattle.pdw_base.specs.Schema.{Columns, IsAscending}
use Rattle.pdw_base.specs.declared.schema.ColId.{ColId}
use Rattle.pdw_base.specs.declared.value.Kind.{Kind}
use Rattle.pdw_enum.specs.Root.{AreDifferent}
use Rattle.pdw_groups.specs.Columns.{interesting_in, numbers_of, or_first}
use Rattle.pdw_memo.proofs.Counts.{filter-all}

numbers-different : (schema : Columns) → IsAscending schema → AreDifferent (numbers_of schema)
numbers-different [] ascending = tt
numbers-different (column ∷ schema) ascending = (
  each schema (λ k d within. ascending 0 (suc k) d (omega arith) (omega (arith, within))),
  numbers-different schema (λ i j d less within. ascending (suc i) (suc j) d (omega (arith, less)) (omega (arith, within))),
)
  where
    each : (later : Columns) → ((k : ℕ) (d : ColId × Kind) → k < length later → column.0.0 < (get_or later k d).0.0) → AllByRecursion (λ (other : ColId). (other.0 == column.0.0) ≡ false) (numbers_of later)
    each [] f = tt
    each (first ∷ later) f =
        let less : column.0.0 < first.0.0 = f 0 first (omega arith) in
        (ne_eqb first.0.0 column.0.0 (λ same. omega (arith, less, same)), each later (λ k d within. f (suc k) d (omega (arith, within))))

filter-different : (test : ColId → Bool) (columns : List ColId) → AreDifferent columns → AreDifferent (filter test columns)
filter-different test [] different = tt
filter-different test (c ∷ columns) different = by (test c) (filter-different test columns different.1)
  where
    by : (kept : Bool) → AreDifferent (filter test columns) → AreDifferent (cond kept (c ∷ filter test columns) (filter test columns))
    by true rest = (filter-all (λ (later : ColId). (later.0 == c.0) ≡ false) test columns different.0, rest)
    by false rest = rest

first-different : (some all : List ColId) → AreDifferent some → AreDifferent (or_first some all)
first-different [] [] different = tt
first-different [] (first ∷ rest) different = (tt, tt)
first-different (c ∷ some) all different = different

pub interesting-different : (useful : List ColId) (schema : Columns) → IsAscending schema → AreDifferent (interesting_in useful schema)
interesting-different useful schema ascending = first-different _ (numbers_of schema) (filter-different _ (numbers_of schema) (numbers-different schema ascending))
