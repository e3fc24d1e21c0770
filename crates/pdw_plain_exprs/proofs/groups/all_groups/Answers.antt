use Rattle.std.proofs.Common.{◌≡◌, ◌∷◌, List, [], map, sym, ap, ◌∙◌}
use Rattle.std.proofs.lemmas.Result.{IfOk-weaker}
use Rattle.pdw_expr.specs.Parts.{parts}
use Rattle.pdw_semantics.specs.Environment.{Scope, group_of}
use Rattle.pdw_semantics.specs.Queries.{all_groups, key_of}
use Rattle.pdw_plain_exprs.proofs.GroupLemmas.{groups-some, groups_of_singles}
use Rattle.pdw_plain_exprs.proofs.groups.all_groups.Goals as goal

pub returns-then-not-grouped : goal.returns-then-not-grouped
returns-then-not-grouped c =
    IfOk-weaker c.singles.result _ _ (λ (found : List (List Scope)) (e : found ≡ map (λ (row : Scope). row ∷ []) c.args.rows.now).
    ap (map (λ (part : List Scope). group_of part c.args.outers.now)) e
    ∙ groups_of_singles c.args.outers.now c.args.rows.now
    ∙ ap (λ grouped. all_groups grouped c.args.references.now c.args.outers.now c.args.rows.now) (sym (c.if-not-grouped.true))) c.singles.ensures

pub returns-else-is_empty : goal.returns-else-is_empty
returns-else-is_empty c =
    IfOk-weaker c.parts_of.result _ _ (λ (found : List (List Scope)) (e : found ≡ parts (key_of c.args.references.now c.args.outers.now) c.args.rows.now).
    ap (map (λ (part : List Scope). group_of part c.args.outers.now)) (e ∙ sym (groups-some c.args.references.now (key_of c.args.references.now c.args.outers.now) c.args.rows.now (sym c.is_empty.ensures ∙ c.if-is_empty.false)))
    ∙ ap (λ grouped. all_groups grouped c.args.references.now c.args.outers.now c.args.rows.now) (sym (c.if-not-grouped.false))) c.parts_of.ensures
