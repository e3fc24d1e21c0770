-- Small rows, worked out by hand.
use Rattle.std.proofs.Common.{◌≡◌, ◌≢◌, ℤ, pos, negsuc, List, [], ◌∷◌, ◌++◌, map, length, None, Some, if◌then◌else◌, ◌==◌, arith, refl, sym, ap, ◌∙◌}
use Rattle.std.specs.FinMap as finite
use Rattle.std.specs.FinMap.Entries.{by_order}
use Rattle.std.specs.FinMap.{put}
use Rattle.std.specs.Int.{int_wrap}
use Rattle.std.specs.List.{flat_map}
use Rattle.std.specs.declared.cmp.Ordering.TheVariants.{Less, Equal, Greater}
use Rattle.std.specs.declared.cmp.Ordering.{Ordering}
use Rattle.pdw_bag_laws.proofs.Keys.{part_of, row_cmp-total}
use Rattle.pdw_base.proofs.SameBagLaws.{SameBag-length}
use Rattle.pdw_base.specs.Schema.{Env}
use Rattle.pdw_base.specs.declared.schema.ColId.{ColId}
use Rattle.pdw_base.specs.declared.value.Value.TheVariants.{Null, Int, Text, Wide}
use Rattle.pdw_base.specs.declared.value.Value.{Value}
use Rattle.pdw_expr.specs.Aggregate.{final_value, partial_value}
use Rattle.pdw_expr.specs.Env.{nulls, or_else}
use Rattle.pdw_expr.specs.Parts.{each_once, row_cmp}
use Rattle.pdw_expr.specs.Rows.{argument, key_of}
use Rattle.pdw_expr.specs.Scalar.{value_step}
use Rattle.pdw_expr.specs.declared.agg.Agg.{Agg}
use Rattle.pdw_expr.specs.declared.agg.AggKind.TheVariants.{CountStar, Count, Sum, Min, Max}
use Rattle.pdw_expr.specs.declared.scalar.Scalar as scalars
use Rattle.pdw_expr.specs.declared.scalar.Scalar.TheFolds.{fold-roll-Scalar}
use Rattle.pdw_expr.specs.declared.scalar.Scalar.TheOpen.{Scalar-F}
use Rattle.pdw_expr.specs.declared.scalar.Scalar.TheVariants.{Col}
use Rattle.pdw_partial.specs.Partial.{IsPartial, KeysApart, final_row, final_rows, merged, partial_row, partial_rows}

-- ---- values

-- COUNT does not count NULL, COUNT of `*` counts rows
count_of_null : partial_value Count (Null ∷ Int (pos 5) ∷ Null ∷ []) ≡ Wide (pos 1)
unfolding int_wrap
count_of_null = refl

count_of_rows : partial_value CountStar (Null ∷ Int (pos 5) ∷ Null ∷ []) ≡ Wide (pos 3)
unfolding int_wrap
count_of_rows = refl

counts_add : final_value (merged Count (Wide (pos 1) ∷ Wide (pos 0) ∷ Wide (pos 4) ∷ [])) ≡ Int (pos 5)
unfolding int_wrap
counts_add = refl

count_of_no_part : merged CountStar [] ≡ Wide (pos 0)
unfolding int_wrap
count_of_no_part = refl

-- the sum of no value is NULL, and leaves the others as they are
sum_of_null : partial_value Sum (Null ∷ Null ∷ []) ≡ Null
sum_of_null = refl

sums_with_null : final_value (merged Sum (Null ∷ Wide (pos 7) ∷ Null ∷ [])) ≡ Int (pos 7)
unfolding int_wrap
sums_with_null = refl

sums_of_null : final_value (merged Sum (Null ∷ Null ∷ [])) ≡ Null
sums_of_null = refl

-- a sum may leave 64 bits in one part and come back in another
sum_leaves : partial_value Sum (Int (pos 9223372036854775807) ∷ Int (pos 1) ∷ []) ≡ Wide (pos 9223372036854775808)
unfolding int_wrap
sum_leaves = refl

sum_left : final_value (Wide (pos 9223372036854775808)) ≡ Null
sum_left = refl

sum_comes_back : final_value (merged Sum (Wide (pos 9223372036854775808) ∷ Wide (negsuc 0) ∷ [])) ≡ Int (pos 9223372036854775807)
unfolding int_wrap
sum_comes_back = refl

-- 128 bits go round
sum_goes_round : merged Sum (Wide (pos 170141183460469231731687303715884105727) ∷ Wide (pos 1) ∷ []) ≡ Wide (negsuc 170141183460469231731687303715884105727)
unfolding int_wrap
sum_goes_round = refl

-- MIN and MAX pass over NULL, and are NULL where there is nothing else
least_over_null : partial_value Min (Null ∷ Int (pos 3) ∷ Null ∷ Int (negsuc 1) ∷ []) ≡ Int (negsuc 1)
least_over_null = refl

least_of_null : partial_value Min (Null ∷ Null ∷ []) ≡ Null
least_of_null = refl

leasts_with_null : final_value (merged Min (Null ∷ Int (pos 3) ∷ Int (pos 2) ∷ [])) ≡ Int (pos 2)
leasts_with_null = refl

greatest_text : final_value (merged Max (Text (97 ∷ []) ∷ Null ∷ Text (97 ∷ 98 ∷ []) ∷ [])) ≡ Text (97 ∷ 98 ∷ [])
greatest_text = refl

-- ---- rows without keys

abbrev count_column : ColId
count_column = record { 0 = 1 }

abbrev count_rows : Agg
count_rows = record { kind = CountStar; arg = None; out = count_column }

abbrev no_part : List Env
no_part = partial_rows [] (count_rows ∷ []) []

-- no row has one partial row
no_row : map (key_of (count_column ∷ [])) no_part ≡ (Wide (pos 0) ∷ []) ∷ []
unfolding int_wrap
no_row = refl

-- and two parts without rows have one final row
no_rows : map (key_of (count_column ∷ [])) (final_rows [] (count_rows ∷ []) (no_part ++ no_part)) ≡ (Int (pos 0) ∷ []) ∷ []
unfolding int_wrap
no_rows = refl

-- ---- rows by a key

-- a row more, once
abbrev placed : List Value → List (List Value) → List (List Value)
placed row [] = row ∷ []
placed row (first ∷ rest) = by_order (row_cmp row first) (row ∷ first ∷ rest) (first ∷ rest) (first ∷ placed row rest)

abbrev Entries : Type 0
Entries = List (List Value × Unit {0})

abbrev firsts : Entries → List (List Value)
firsts entries = map (λ entry. entry.0) entries

put-placed : (row : List Value) (entries : Entries) → firsts (put row_cmp row tt entries) ≡ placed row (firsts entries)
put-placed row [] = refl
put-placed row (entry ∷ entries) = by (row_cmp row entry.0) (put-placed row entries)
  where
    by : (o : Ordering) → firsts (put row_cmp row tt entries) ≡ placed row (firsts entries)
        → firsts (by_order o ((row, tt) ∷ entry ∷ entries) ((entry.0, tt) ∷ entries) (entry ∷ put row_cmp row tt entries))
        ≡ by_order o (row ∷ entry.0 ∷ firsts entries) (entry.0 ∷ firsts entries) (entry.0 ∷ placed row (firsts entries))
    by Less rest = refl
    by Equal rest = refl
    by Greater rest = ap (λ rows. entry.0 ∷ rows) rest

one_more : (row : List Value) (rows : List (List Value)) → each_once (row ∷ rows) ≡ placed row (each_once rows)
unfolding each_once
one_more row rows =
    let entries = finite.from_entries {R = row_cmp} (map (λ row. (row, tt {0})) rows) in
    ap firsts (finite.entries-insert row_cmp-total entries row tt) ∙ put-placed row (finite.entries entries)

none_yet : each_once [] ≡ []
unfolding each_once
none_yet = no_keys (finite.entries (finite.empty {X = Unit {0}} {R = row_cmp})) (sym (finite.len-entries (finite.empty {X = Unit {0}} {R = row_cmp})) ∙ finite.len-empty row_cmp (Unit {0}))
  where
    no_keys : (entries : Entries) → length entries ≡ 0 → firsts entries ≡ []
    no_keys [] e = refl
    no_keys (entry ∷ entries) e = absurd (omega arith)

abbrev all_placed : List (List Value) → List (List Value)
all_placed [] = []
all_placed (row ∷ rows) = placed row (all_placed rows)

computed : (rows : List (List Value)) → each_once rows ≡ all_placed rows
computed [] = none_yet
computed (row ∷ rows) = one_more row rows ∙ ap (placed row) (computed rows)

abbrev key_column : ColId
key_column = record { 0 = 0 }

abbrev row_of : Value → Value → Env
row_of key count c = if c.0 == 0 then key else (if c.0 == 1 then count else Null)

abbrev one_key : List ColId
one_key = key_column ∷ []

abbrev both_columns : List ColId
both_columns = key_column ∷ count_column ∷ []

-- rows whose key is NULL are one part
abbrev some_rows : List Env
some_rows = row_of (Int (pos 4)) Null ∷ row_of Null Null ∷ row_of Null Null ∷ []

null_keys_meet : map (key_of both_columns) (partial_rows one_key (count_rows ∷ []) some_rows) ≡ (Null ∷ Wide (pos 2) ∷ []) ∷ (Int (pos 4) ∷ Wide (pos 1) ∷ []) ∷ []
unfolding int_wrap
null_keys_meet =
    ap (λ keys. map (key_of both_columns) (map (partial_row one_key (count_rows ∷ [])) (map (part_of (key_of one_key) some_rows) keys)))
    (computed (map (key_of one_key) some_rows))

-- and those of several parts are one group
abbrev some_partials : List Env
some_partials = row_of Null (Wide (pos 2)) ∷ row_of (Int (pos 4)) (Wide (pos 1)) ∷ row_of Null (Wide (pos 3)) ∷ []

null_keys_meet_again : map (key_of both_columns) (final_rows one_key (count_rows ∷ []) some_partials) ≡ (Null ∷ Int (pos 5) ∷ []) ∷ (Int (pos 4) ∷ Int (pos 1) ∷ []) ∷ []
unfolding int_wrap
null_keys_meet_again =
    ap (λ keys. map (key_of both_columns) (map (final_row one_key (count_rows ∷ [])) (map (part_of (key_of one_key) some_partials) keys)))
    (computed (map (key_of one_key) some_partials))

-- with a key, no rows have no partial rows
no_row_by_key : partial_rows one_key (count_rows ∷ []) [] ≡ []
no_row_by_key = ap (λ keys. map (partial_row one_key (count_rows ∷ [])) (map (part_of (key_of one_key) []) keys)) (computed [])

-- ---- a sum of a column

abbrev amount_column : ColId
amount_column = record { 0 = 2 }

abbrev sum_of_amounts : Agg
sum_of_amounts = record { kind = Sum; arg = Some (Col amount_column); out = count_column }

amounts : argument (Some (Col amount_column)) ≡ (λ row. row amount_column)
unfolding scalars.roll-Scalar denote.Hole.Carrier.roll
amounts = fold-roll-Scalar (Env → Value) value_step (Scalar-F.Col amount_column)

abbrev amount : ℤ → Env
amount n c = if c.0 == 2 then Int n else Null

-- one part whose sum leaves 64 bits, and one that brings it back
abbrev large_amounts : List Env
large_amounts = amount (pos 9223372036854775807) ∷ nulls ∷ amount (pos 1) ∷ []

abbrev sum_of_rows : (Env → Value) → List Env → Value
sum_of_rows read rows = partial_value Sum (map read rows)

large_part : map (key_of (count_column ∷ [])) (partial_rows [] (sum_of_amounts ∷ []) large_amounts) ≡ (Wide (pos 9223372036854775808) ∷ []) ∷ []
unfolding int_wrap
large_part = ap (λ read. (or_else Null (sum_of_rows read large_amounts) ∷ []) ∷ []) amounts

small_part : map (key_of (count_column ∷ [])) (partial_rows [] (sum_of_amounts ∷ []) (amount (negsuc 0) ∷ [])) ≡ (Wide (negsuc 0) ∷ []) ∷ []
unfolding int_wrap
small_part = ap (λ read. (or_else Null (sum_of_rows read (amount (negsuc 0) ∷ [])) ∷ []) ∷ []) amounts

both_parts : map (key_of (count_column ∷ [])) (final_rows [] (sum_of_amounts ∷ []) (row_of Null (Wide (pos 9223372036854775808)) ∷ row_of Null (Wide (negsuc 0)) ∷ [])) ≡ (Int (pos 9223372036854775807) ∷ []) ∷ []
unfolding int_wrap
both_parts = refl

-- ---- what is admitted

-- there are keys and aggregates that the law is about
apart : KeysApart one_key (count_rows ∷ sum_of_amounts ∷ [])
apart = (refl, (refl, tt))

-- without keys no rows are no partial rows of any input, not even of no rows
never_empty : (aggs : List Agg) (input : List Env) → IsPartial [] aggs input [] → ⊥
never_empty aggs input of = by of.parts of.some (SameBag-length of.rows)
  where
    by : (parts : List (List Env)) → parts ≢ [] → 0 ≡ length (flat_map (partial_rows [] aggs) parts) → ⊥
    by [] some none = some refl
    by (part ∷ parts) some none = omega arith
