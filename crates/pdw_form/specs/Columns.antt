-- The columns that a query names, each once, in the order of their first places.
use Rattle.std.specs.Prelude.{◌==◌, List, [], ◌∷◌, ◌++◌, fold, Option, Some, None, if◌then◌else◌}
use Rattle.std.specs.List.{list_any}
use Rattle.pdw_base.specs.declared.schema.ColId.{ColId}
use Rattle.pdw_expr.specs.declared.scalar.Scalar.{Scalar}
use Rattle.pdw_form.specs.declared.judged.JItem.{JItem}

abbrev pub new_number : List ColId → ColId → List ColId
new_number before c = if list_any (λ other. other.0 == c.0) before then before else before ++ c ∷ []

abbrev pub each_number_once : List ColId → List ColId
each_number_once numbers = fold new_number [] numbers

abbrev pub new_item : List (ColId × Option Scalar) → JItem → List (ColId × Option Scalar)
new_item before item = if list_any (λ other. other.0.0 == item.out.0) before then before else before ++ (item.out, item.make) ∷ []

abbrev pub each_item_once : List JItem → List (ColId × Option Scalar)
each_item_once items = fold new_item [] items

abbrev pub first_of : List JItem → Option JItem
first_of [] = None
first_of (first ∷ rest) = Some first
