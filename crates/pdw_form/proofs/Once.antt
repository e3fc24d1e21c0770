-- The rows of a list without their duplicates are the rows of the list.
use Rattle.std.proofs.Common.{◌≡◌, Bool, true, false, cond, ◌||◌, List, [], ◌∷◌, map, Some, is_some, refl, sym, ap, ◌∙◌}
use Rattle.std.specs.FinMap as finite
use Rattle.std.specs.List.{list_any}
use Rattle.std.specs.Ordering.{eq_by_cmp}
use Rattle.pdw_base.specs.declared.value.Value.{Value}
use Rattle.pdw_expr.specs.Parts.{each_once, row_cmp}
use Rattle.pdw_form.proofs.Distinct.{OnceIs, row_cmp-total}

found : (b : Bool) (o : _) → is_some (cond b (Some (tt {0})) o) ≡ (b || is_some o)
found true o = refl
found false o = refl

among : (rows : List (List Value)) (k : List Value) → is_some (finite.find row_cmp k (map (λ row. (row, tt {0})) rows)) ≡ list_any (eq_by_cmp row_cmp k) rows
among [] k = refl
among (row ∷ rows) k = found (eq_by_cmp row_cmp k row) _ ∙ ap (λ b. eq_by_cmp row_cmp k row || b) (among rows k)

pub once : OnceIs
unfolding each_once
once rows k =
    sym (finite.contains_key-keys (finite.from_entries {R = row_cmp} (map (λ row. (row, tt {0})) rows)) k)
    ∙ ap is_some (finite.get-from_entries row_cmp-total (map (λ row. (row, tt {0})) rows) k)
    ∙ among rows k
