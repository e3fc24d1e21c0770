-- How many table references and queries stand in the numbered form of a query.
use Rattle.std.specs.Prelude.{ℕ, ◌+◌}
use Rattle.std.specs.List.{sum}
use Rattle.pdw_form.specs.declared.judged.JFrom.TheOpen.{JFrom-F, JSub-F, JudgedQuery-F}
use Rattle.pdw_form.specs.declared.judged.JFrom.TheFolds.{fold-JFrom, fold-JSub, fold-JudgedQuery}
use Rattle.pdw_form.specs.declared.judged.JFrom.{JFrom}
use Rattle.pdw_form.specs.declared.judged.JSub.{JSub}
use Rattle.pdw_form.specs.declared.judged.JudgedQuery.{JudgedQuery}

-- a table that FROM names counts `table`
abbrev pub from_step : ℕ → JFrom-F ℕ ℕ ℕ → ℕ
from_step table (JFrom-F.Table name alias cols) = table
from_step table (JFrom-F.Derived inner) = inner
from_step table (JFrom-F.Join word left right on) = left + right

abbrev pub sub_step : JSub-F ℕ ℕ ℕ → ℕ
sub_step sub = sub.query

-- a query counts `query` beside what stands in it
abbrev pub query_step : ℕ → JudgedQuery-F ℕ ℕ ℕ → ℕ
query_step query q = query + (sum q.from + sum q.subs)

module _ (table query : ℕ) where
  abbrev pub from_count : JFrom → ℕ
  from_count = fold-JFrom ℕ ℕ ℕ (from_step table) sub_step (query_step query)

  abbrev pub sub_count : JSub → ℕ
  sub_count = fold-JSub ℕ ℕ ℕ (from_step table) sub_step (query_step query)

  abbrev pub query_count : JudgedQuery → ℕ
  query_count = fold-JudgedQuery ℕ ℕ ℕ (from_step table) sub_step (query_step query)

-- the table references of a query and of all that stands in it
unfoldable pub references : JudgedQuery → ℕ
references = query_count 1 0

-- the queries, the outermost one included
unfoldable pub queries : JudgedQuery → ℕ
queries = query_count 0 1
