use Rattle.std.proofs.Common.{◌++◌, sym, ap, ap₂, ◌∙◌, append_assoc}
use Rattle.std.specs.List.{flat_map}
use Rattle.pdw_groups.specs.Columns.{equated, useful_columns}
use Rattle.pdw_groups.proofs.ColumnLemmas.{OnOk-map, joined, useful-block, useful-group, useful-join}
use Rattle.pdw_groups.proofs.columns.+useful.Goals as goal

pub add_useful-returns-in_ok-add_leaves-in-Block : goal.add_useful-returns-in_ok-add_leaves-in-Block
add_useful-returns-in_ok-add_leaves-in-Block t c =
    OnOk-map c.add_equalities-in-Block.result (λ added.
    added
    ∙ ap₂ (λ some conds. some ++ equated conds) c.in_ok-add_leaves-in-Block.ensures c.as_slice-in-Block-2.ensures
    ∙ append_assoc c.args.useful.now.items _ (equated c.in-Block.conds)
    ∙ ap (λ some. c.args.useful.now.items ++ (some ++ equated c.in-Block.conds)) (ap (flat_map (useful_columns c.args.catalog.now)) c.as_slice-in-Block.ensures)
    ∙ ap (λ some. c.args.useful.now.items ++ some) (sym (useful-block c.args.catalog.now c.in-Block.leaves c.in-Block.conds) ∙ sym (ap (useful_columns c.args.catalog.now) c.in-Block.is)))
    c.add_equalities-in-Block.ensures

pub add_useful-returns-in_ok-add_useful-in-Join-2 : goal.add_useful-returns-in_ok-add_useful-in-Join-2
add_useful-returns-in_ok-add_useful-in-Join-2 t c =
    OnOk-map c.add_equalities-in-Join.result (λ added.
    joined c.args.useful.now.items (useful_columns c.args.catalog.now c.in-Join.left) (useful_columns c.args.catalog.now c.in-Join.right) (equated c.in-Join.conds)
    (c.in_ok-add_useful-in-Join.ensures ∙ ap (λ t. c.args.useful.now.items ++ useful_columns c.args.catalog.now t) c.get-in-Join.ensures)
    (c.in_ok-add_useful-in-Join-2.ensures ∙ ap (λ t. c.add_useful-in-Join.new.useful.items ++ useful_columns c.args.catalog.now t) c.get-in-Join-2.ensures)
    (added ∙ ap (λ conds. c.add_useful-in-Join-2.new.useful.items ++ equated conds) c.as_slice-in-Join.ensures)
    ∙ ap (λ some. c.args.useful.now.items ++ some) (sym (useful-join c.args.catalog.now c.in-Join.kind c.in-Join.conds c.in-Join.left c.in-Join.right) ∙ sym (ap (useful_columns c.args.catalog.now) c.in-Join.is)))
    c.add_equalities-in-Join.ensures

pub add_useful-returns-in_ok-add_useful-in-GroupBy : goal.add_useful-returns-in_ok-add_useful-in-GroupBy
add_useful-returns-in_ok-add_useful-in-GroupBy t c =
    OnOk-map c.add_keys.result (λ added.
    added
    ∙ ap₂ (λ some keys. some ++ keys) (c.in_ok-add_useful-in-GroupBy.ensures ∙ ap (λ t. c.args.useful.now.items ++ useful_columns c.args.catalog.now t) c.get-in-GroupBy.ensures) c.as_slice-in-GroupBy.ensures
    ∙ append_assoc c.args.useful.now.items (useful_columns c.args.catalog.now c.in-GroupBy.child) c.in-GroupBy.keys
    ∙ ap (λ some. c.args.useful.now.items ++ some) (sym (useful-group c.args.catalog.now c.in-GroupBy.keys c.in-GroupBy.aggs c.in-GroupBy.child) ∙ sym (ap (useful_columns c.args.catalog.now) c.in-GroupBy.is)))
    c.add_keys.ensures
