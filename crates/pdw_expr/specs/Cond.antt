-- The truth of a condition in an environment (SQL-92, 8.12).
use Rattle.std.specs.Prelude.{List, map}
use Rattle.pdw_base.specs.Schema.{Env}
use Rattle.pdw_base.specs.declared.truth.Truth.{Truth}
use Rattle.pdw_expr.specs.Comparison.{comparison, is_null}
use Rattle.pdw_expr.specs.Like.{like}
use Rattle.pdw_expr.specs.Logic.{decided, negation, all_of, any_of, is_truth}
use Rattle.pdw_expr.specs.Scalar.{value_of}
use Rattle.pdw_expr.specs.declared.cond.Cond.{Cond}
use Rattle.pdw_expr.specs.declared.cond.Cond.TheOpen.{Cond-F}
use Rattle.pdw_expr.specs.declared.cond.Cond.TheFolds.{fold-Cond}

-- one layer of a condition, with the truths of its parts
abbrev pub truth_step : Cond-F (Env → Truth) → Env → Truth
truth_step (Cond-F.Compare op a b) env = comparison op (value_of a env) (value_of b env)
truth_step (Cond-F.Like text pattern) env = like (value_of text env) (value_of pattern env)
truth_step (Cond-F.IsNull a) env = decided (is_null (value_of a env))
truth_step (Cond-F.Test part wanted) env = decided (is_truth (part env) wanted)
truth_step (Cond-F.Not part) env = negation (part env)
truth_step (Cond-F.All parts) env = all_of (map (λ part. part env) parts)
truth_step (Cond-F.Any parts) env = any_of (map (λ part. part env) parts)

abbrev pub truth_of : Cond → Env → Truth
truth_of = fold-Cond (Env → Truth) truth_step

-- the truth of AND and of OR over some conditions
abbrev pub all_true : List Cond → Env → Truth
all_true parts env = all_of (map (λ part. truth_of part env) parts)

abbrev pub any_true : List Cond → Env → Truth
any_true parts env = any_of (map (λ part. truth_of part env) parts)
