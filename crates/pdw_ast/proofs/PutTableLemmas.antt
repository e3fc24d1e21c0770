-- The tokens of a first table and of what is joined to it.
use Rattle.std.proofs.Common.{◌≡◌, ◌++◌, ap, ◌∙◌}
use Rattle.std.specs.List.{flat_map}
use Rattle.std.proofs.lemmas.List.Folds.{flat_map-map}
use Rattle.pdw_ast.specs.Puts.{Line, puts, primary, join, table}
use Rattle.pdw_ast.specs.Spelling.{Spelling, primary_step, cond_step, join_step, query_step, table_step}
use Rattle.pdw_syntax.specs.declared.query.Primary.TheFolds.{fold_out-TableRef}
use Rattle.pdw_syntax.specs.declared.query.TableRef.{TableRef, out-TableRef}
use Rattle.pdw_ast.proofs.PutLemmas.{puts_append}

pub puts-table : (line : Line) (t : TableRef) → puts line (table t) ≡ puts (puts line (primary (out-TableRef t).first)) (flat_map join (out-TableRef t).joins)
puts-table line t =
    ap (puts line)
    (fold_out-TableRef Spelling Spelling Spelling Spelling Spelling primary_step cond_step join_step query_step table_step t
    ∙ ap (λ after. primary (out-TableRef t).first ++ after) (flat_map-map (λ (part : Spelling). part) join (out-TableRef t).joins))
    ∙ puts_append line (primary (out-TableRef t).first) (flat_map join (out-TableRef t).joins)
