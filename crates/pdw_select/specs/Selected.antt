-- What the numbered form of a SELECT answers.
use Rattle.std.specs.Prelude.{◌≡◌, List, map}
use Rattle.std.specs.List.Sorted.{IsPermutation}
use Rattle.pdw_algebra.specs.Meaning.{rows_of}
use Rattle.pdw_base.specs.declared.value.Value.{Value}
use Rattle.pdw_bind.specs.Bind.{bound}
use Rattle.pdw_catalog.specs.Database.{Database}
use Rattle.pdw_answer.specs.declared.answer.Table1.{Table1}
use Rattle.pdw_expr.specs.Rows.{key_of}
use Rattle.pdw_semantics.specs.Answer.{IsOrdered}
use Rattle.pdw_form.specs.Numbered.{outs_of}
use Rattle.pdw_form.specs.declared.judged.JItem.{JItem}
use Rattle.pdw_form.specs.declared.judged.JudgedQuery.{JudgedQuery, out-JudgedQuery}
use Rattle.pdw_form.specs.declared.judged.JudgedSelect.{JudgedSelect}

abbrev pub items_of : JudgedQuery → List JItem
items_of q = (out-JudgedQuery q).items

-- the rows of the tree of operators, each in the order of the items
abbrev pub tree_rows : Database → JudgedQuery → List (List Value)
tree_rows database q = map (key_of (outs_of (items_of q))) (rows_of database (bound q))

-- these rows in an order that the order keys allow, under the output names
pub record SelectedBy (database : Database) (select : JudgedSelect) (table : Table1) : Type 0 where
  pub names : table.names ≡ map (λ item. item.name) (items_of select.query)
  pub rearranged : IsPermutation (tree_rows database select.query) table.rows
  pub ordered : IsOrdered select.order table.rows
