-- The line of a refusal.
use Rattle.std.specs.Prelude.{ℕ, List, codes}
use Rattle.pdw_answer.specs.declared.refusal.Refusal.{Refusal}
use Rattle.pdw_answer.specs.declared.refusal.Refusal.TheVariants.{Judge, Load, NotBuilt, Rows}
use Rattle.pdw_run.specs.Refusal.{fault_line, judged_line, limit_line, not_built_line}

-- the line that refuses statement k
abbrev pub refusal_line : ℕ → Refusal → List ℕ
refusal_line k (Judge fault) = judged_line k fault
refusal_line k (Load fault) = fault_line k fault
refusal_line k (Rows most) = limit_line k (codes "rows") most
refusal_line k NotBuilt = not_built_line k
