-- The line that refuses a statement.
use Rattle.std.specs.Prelude.{⊤, ℕ, List, codes}
use Rattle.pdw_answer.specs.declared.refusal.Refusal.{Refusal}
use Rattle.pdw_answer.specs.declared.refusal.Refusal.TheVariants.{Judge, Load, NotBuilt, Rows}
use Rattle.pdw_load.specs.declared.load_error.LoadError.{LoadError}
use Rattle.pdw_load.specs.declared.load_error.LoadError.TheVariants as load
use Rattle.pdw_walk.specs.declared.fault.JudgeFault.{JudgeFault}
use Rattle.pdw_walk.specs.declared.fault.JudgeFault.TheVariants as judge
use Rattle.pdw_show.specs.Refusal.{fault_line, judged_line, limit_line, not_built_line}

-- the line that refuses statement k
abbrev pub refusal_line : ℕ → Refusal → List ℕ
refusal_line k (Judge fault) = judged_line k fault
refusal_line k (Load fault) = fault_line k fault
refusal_line k (Rows most) = limit_line k (codes "rows") most
refusal_line k NotBuilt = not_built_line k

-- a want of memory is no fault of a statement or of a record
abbrev pub IsJudgement : JudgeFault → Type 0
IsJudgement judge.Memory = ⊥
IsJudgement _ = ⊤

abbrev pub IsRecordFault : LoadError → Type 0
IsRecordFault load.Memory = ⊥
IsRecordFault _ = ⊤

abbrev pub IsRefusal : Refusal → Type 0
IsRefusal (Judge fault) = IsJudgement fault
IsRefusal (Load fault) = IsRecordFault fault
IsRefusal (Rows most) = ⊤
IsRefusal NotBuilt = ⊤
