-- The order of values is total, and equal only for equal values.
use Rattle.std.proofs.Common.{◌≡◌, ap, refl}
use Rattle.std.specs.FinMap.{nat_cmp-IsAntisymmetric, int_cmp-IsAntisymmetric, slice_cmp-IsAntisymmetric}
use Rattle.std.specs.Cmp.{IsTotalOrder, nat_cmp_total, int_cmp_total, on_total, then_total}
use Rattle.std.specs.Cmp.Lexicographic.{nat_list_cmp_total}
use Rattle.std.specs.declared.cmp.Ordering.{Ordering}
use Rattle.std.specs.declared.cmp.Ordering.TheVariants.{Less, Equal, Greater}
use Rattle.std.specs.Ordering.{int_cmp, ordering_then}
use Rattle.pdw_base.specs.declared.value.Value.{Value}
use Rattle.pdw_base.specs.declared.value.Value.TheVariants.{Null, Int, Text, Wide}
use Rattle.pdw_base.specs.Comparison.{class, number, letters, value_cmp}

pub value_cmp-total : IsTotalOrder value_cmp
value_cmp-total = then_total (on_total class nat_cmp_total) (then_total (on_total number int_cmp_total) (on_total letters nat_list_cmp_total))

then_Equal : (o : Ordering) → ordering_then o Equal ≡ Equal → o ≡ Equal
then_Equal Less e = cc
then_Equal Equal e = refl
then_Equal Greater e = cc

-- values of two classes are never equal, and within a class the number or the letters decide
pub value_cmp-Equal : (a b : Value) → value_cmp a b ≡ Equal → a ≡ b
value_cmp-Equal Null Null e = refl
value_cmp-Equal Null (Int y) e = cc
value_cmp-Equal Null (Text y) e = cc
value_cmp-Equal Null (Wide y) e = cc
value_cmp-Equal (Int x) Null e = cc
value_cmp-Equal (Int x) (Int y) e = ap Int (int_cmp-IsAntisymmetric x y (then_Equal (int_cmp x y) e))
value_cmp-Equal (Int x) (Text y) e = cc
value_cmp-Equal (Int x) (Wide y) e = cc
value_cmp-Equal (Text x) Null e = cc
value_cmp-Equal (Text x) (Int y) e = cc
value_cmp-Equal (Text x) (Text y) e = ap Text (slice_cmp-IsAntisymmetric nat_cmp-IsAntisymmetric x y e)
value_cmp-Equal (Text x) (Wide y) e = cc
value_cmp-Equal (Wide x) Null e = cc
value_cmp-Equal (Wide x) (Int y) e = cc
value_cmp-Equal (Wide x) (Text y) e = cc
value_cmp-Equal (Wide x) (Wide y) e = ap Wide (int_cmp-IsAntisymmetric x y (then_Equal (int_cmp x y) e))
