use Rattle.std.proofs.Common.{◌≡◌, List, map}
use Rattle.std.proofs.lemmas.Result.{IfOk-weaker}
use Rattle.pdw_agg.proofs.GroupLemmas.{by-key}
use Rattle.pdw_agg.specs.Made.{key_over, row_of}
use Rattle.pdw_base.specs.SameBag.{SameBag}
use Rattle.pdw_base.specs.declared.value.Value.{Value}
use Rattle.pdw_expr.specs.Parts.{parts}
use Rattle.pdw_agg.proofs.grouping.rows_by_key.Goals as goal

pub returns : goal.returns
returns c =
    let keys = c.args.keys.now in
    let columns = c.args.s.now in
    let rows = c.args.rows.now in
    let of_part : List (List Value) → List Value = row_of c.args.made.now c.args.stage keys c.args.aggs.now columns in
    let found : List (List (List Value)) = map (λ entry. entry.1) c.in_ok-index.index in
    IfOk-weaker c.rows_of_index.result (λ bag. bag ≡ map of_part found) (λ bag. SameBag bag (map of_part (parts (key_over keys columns) rows)))
    (by-key of_part keys columns c.in_ok-places.places c.in_ok-places.ensures rows found c.in_ok-index.ensures.parts) c.rows_of_index.ensures
