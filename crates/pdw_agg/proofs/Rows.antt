-- Small rows, worked out by hand.
use Rattle.std.proofs.Common.{◌≡◌, pos, [], ◌∷◌, None, refl}
use Rattle.std.specs.Int.{int_wrap}
use Rattle.pdw_agg.specs.Columns.{final_schema, grouped_schema, partial_schema}
use Rattle.pdw_agg.specs.Grouping.{final_over, grouped_over, partial_over}
use Rattle.pdw_agg.specs.Running.{again, alone, joined}
use Rattle.pdw_base.specs.Schema.{Columns}
use Rattle.pdw_base.specs.declared.schema.ColId.{ColId}
use Rattle.pdw_base.specs.declared.value.Kind.TheVariants as kind
use Rattle.pdw_base.specs.declared.value.Value.TheVariants.{Null, Int, Text, Wide}
use Rattle.pdw_expr.specs.declared.agg.Agg.{Agg}
use Rattle.pdw_expr.specs.declared.agg.AggKind.TheVariants.{CountStar, Count, Sum, Min, Max}

-- ---- schemas

abbrev name : ColId
name = record { 0 = 4 }

abbrev count_rows : Agg
count_rows = record { kind = CountStar; arg = None; out = record { 0 = 1 } }

abbrev columns : Columns
columns = (record { 0 = 0 }, kind.Int) ∷ (name, kind.Text) ∷ []

-- the key and the count, by rising numbers
schema_of_groups : grouped_schema (name ∷ []) (count_rows ∷ []) columns ≡ (record { 0 = 1 }, kind.Int) ∷ (name, kind.Text) ∷ []
schema_of_groups = refl

-- a count is kept as a wide number
schema_of_partials : partial_schema (name ∷ []) (count_rows ∷ []) columns ≡ (record { 0 = 1 }, kind.Wide) ∷ (name, kind.Text) ∷ []
schema_of_partials = refl

schema_of_finals : final_schema (name ∷ []) (count_rows ∷ []) (partial_schema (name ∷ []) (count_rows ∷ []) columns) ≡ (record { 0 = 1 }, kind.Int) ∷ (name, kind.Text) ∷ []
schema_of_finals = refl

-- ---- rows without keys

-- without keys no row has one row
no_row : grouped_over [] (count_rows ∷ []) columns [] ≡ (Int (pos 0) ∷ []) ∷ []
unfolding int_wrap
no_row = refl

some_rows : grouped_over [] (count_rows ∷ []) columns ((Int (pos 7) ∷ Null ∷ []) ∷ (Null ∷ Null ∷ []) ∷ []) ≡ (Int (pos 2) ∷ []) ∷ []
unfolding int_wrap
some_rows = refl

no_partial : partial_over [] (count_rows ∷ []) columns [] ≡ (Wide (pos 0) ∷ []) ∷ []
unfolding int_wrap
no_partial = refl

-- counts of three parts add up
three_parts : final_over [] (count_rows ∷ []) (partial_schema [] (count_rows ∷ []) columns) ((Wide (pos 2) ∷ []) ∷ (Wide (pos 0) ∷ []) ∷ (Wide (pos 3) ∷ []) ∷ []) ≡ (Int (pos 5) ∷ []) ∷ []
unfolding int_wrap
three_parts = refl

-- ---- values, one by one

null_is_not_counted : joined Count (Wide (pos 2)) (alone Count Null) ≡ Wide (pos 2)
unfolding int_wrap
null_is_not_counted = refl

null_is_a_row : joined CountStar (Wide (pos 2)) (alone CountStar Null) ≡ Wide (pos 3)
unfolding int_wrap
null_is_a_row = refl

sum_goes_round : joined Sum (Wide (pos 170141183460469231731687303715884105727)) (alone Sum (Int (pos 1))) ≡ alone Sum (Wide (pos 170141183460469231731687303715884105728))
unfolding int_wrap
sum_goes_round = refl

least_passes_null : joined Min (Int (pos 3)) (alone Min Null) ≡ Int (pos 3)
least_passes_null = refl

least_text : joined Min (Text (98 ∷ [])) (alone Min (Text (97 ∷ 97 ∷ []))) ≡ Text (97 ∷ 97 ∷ [])
least_text = refl

no_sum_of_a_part : joined Sum (Wide (pos 3)) (again Sum Null) ≡ Wide (pos 3)
no_sum_of_a_part = refl

greatest_of_a_part : joined Max (Int (pos 3)) (again Max (Int (pos 4))) ≡ Int (pos 4)
greatest_of_a_part = refl
