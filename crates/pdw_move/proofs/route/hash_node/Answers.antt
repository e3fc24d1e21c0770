-- A column that has a place has the value there, and one that has none is NULL.
use Rattle.std.proofs.Common.{◌≡◌, ℕ, List, length, get_or, true, false, ltb, ltb-false, ap, ◌∙◌, sym}
use borrow.Author.Tests.{ltb-true}
use Rattle.std.proofs.lemmas.List.{get_or_default, get_or_past}
use Rattle.pdw_base.proofs.RowLaws.{cell-place, cell-absent}
use Rattle.pdw_base.specs.Hash.{node_for}
use Rattle.pdw_base.specs.declared.value.Value.{Value}
use Rattle.pdw_base.specs.declared.value.Value.TheVariants.{Null}
use Rattle.pdw_move.proofs.route.hash_node.Goals as goal

at_place : (row values : List Value) (i : ℕ) (value : Value) → values ≡ row → true ≡ ltb i (length values) → value ≡ get_or values i value → value ≡ get_or row i Null
at_place row values i value same within item =
    item ∙ get_or_default values i value Null (ltb-true i (length values) (sym within)) ∙ ap (λ xs. get_or xs i Null) same

past_end : (row values : List Value) (i : ℕ) → values ≡ row → false ≡ ltb i (length values) → Null ≡ get_or row i Null
past_end row values i same outside =
    sym (get_or_past values i Null (ltb-false i (length values) (sym outside))) ∙ ap (λ xs. get_or xs i Null) same

pub returns-in-None-clause-node : goal.returns-in-None-clause-node
returns-in-None-clause-node c =
    c.node_of.ensures.node ∙ ap (node_for c.args.nodes) (sym (cell-absent c.args.column c.args.schema.now c.args.row.now (sym c.in-None.ensures)))

pub returns-in-Some-get-clause-node : goal.returns-in-Some-get-clause-node
returns-in-Some-get-clause-node c =
    c.node_of-in-Some-get.ensures.node
    ∙ ap (node_for c.args.nodes)
    (at_place c.args.row.now c.values.result.now c.in-Some.place c.in-Some-get.value.now c.values.ensures c.in-Some-get.ensures.lookup.0 c.in-Some-get.ensures.lookup.1
    ∙ sym (cell-place c.args.column c.args.schema.now c.args.row.now c.in-Some.place (sym c.in-Some.ensures)))

pub returns-in-None-get-clause-node : goal.returns-in-None-get-clause-node
returns-in-None-get-clause-node c =
    c.node_of-in-None-get.ensures.node
    ∙ ap (node_for c.args.nodes)
    (past_end c.args.row.now c.values.result.now c.in-Some.place c.values.ensures c.in-None-get.ensures.lookup.0
    ∙ sym (cell-place c.args.column c.args.schema.now c.args.row.now c.in-Some.place (sym c.in-Some.ensures)))
