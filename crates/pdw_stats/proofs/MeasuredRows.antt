-- Statistics worked out by hand, of a table with an INT and a TEXT column.
use Rattle.std.proofs.Common.{◌≡◌, ℕ, pos, [], ◌∷◌, refl}
use Rattle.pdw_base.specs.declared.value.Value.TheVariants.{Null, Int, Text}
use Rattle.pdw_catalog.specs.Sample.{sample_columns, sample_table}
use Rattle.pdw_catalog.specs.declared.table.Placing.TheVariants.{Replicate}
use Rattle.pdw_stats.specs.Measured.{measured}
use Rattle.pdw_stats.specs.Stats.{usual_stats}
use Rattle.pdw_stats.specs.declared.stats.Stats.{Stats}

abbrev stats : ℕ → ℕ → ℕ → ℕ → ℕ → Stats
stats rows distinct width others other_width = record {
  rows = rows;
  cols = record { distinct = distinct; width = width } ∷ record { distinct = others; width = other_width } ∷ [];
}

-- 1 and `x,y`, 2 and the empty text, 3 and NULL: the texts and NULL take 3, 0 and 1 bytes, which is 4 bytes of 3 rows
three : measured sample_columns
    ((Int (pos 1) ∷ Text (120 ∷ 44 ∷ 121 ∷ []) ∷ []) ∷ (Int (pos 2) ∷ Text [] ∷ []) ∷ (Int (pos 3) ∷ Null ∷ []) ∷ [])
    ≡ stats 3 3 8 2 2
three = refl

-- no row has one different value, and the widths of which nothing is known
none : measured sample_columns [] ≡ stats 0 1 8 1 32
none = refl

-- NULL is no value, but takes a byte
nulls : measured sample_columns ((Null ∷ Null ∷ []) ∷ (Null ∷ Null ∷ []) ∷ []) ≡ stats 2 1 1 1 1
nulls = refl

-- equal values count once: 5, NULL, 5, 7 are two values and 8 + 1 + 8 + 8 bytes, and empty texts are as wide as one byte
repeated : measured sample_columns
    ((Int (pos 5) ∷ Text [] ∷ []) ∷ (Null ∷ Text [] ∷ []) ∷ (Int (pos 5) ∷ Text [] ∷ []) ∷ (Int (pos 7) ∷ Text [] ∷ []) ∷ [])
    ≡ stats 4 2 7 1 1
repeated = refl

unknown : usual_stats (sample_table (116 ∷ []) Replicate) ≡ stats 1000 100 8 100 32
unknown = refl
