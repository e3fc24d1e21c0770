-- The plan file of what is planned, as EXPLAIN JSON prints it.
use Rattle.std.specs.Prelude.{◌≡◌, ℕ, List, Some, Ok, IsUtf8}
use Rattle.serde_json.specs.Read.{read}
use Rattle.serde_json.specs.Written.{compact_text}
use Rattle.pdw_memo.specs.Memo.{IsMemo}
use Rattle.pdw_move.specs.declared.cost.Constants.{Constants}
use Rattle.pdw_planjson.specs.File.{described}
use Rattle.pdw_planjson.specs.Limits.{IsFile}
use Rattle.pdw_planjson.specs.Written.{file_data}
use Rattle.pdw_planjson.specs.declared.file.PlanFile.{PlanFile}
use Rattle.pdw_planner.specs.Planned.{cost_in}
use Rattle.pdw_planner.specs.declared.planned.Planned.{Planned}
use Rattle.pdw_stats.specs.Book.{Book}

-- the plan, the bounds on all plans, and what the plan costs by the statistics, at n compute nodes and by these constants
abbrev pub file_of : (planned : Planned) → IsMemo planned.memo → Book → ℕ → Constants → PlanFile
file_of planned is book n constants = record { plan = planned.plan; bounds = planned.bounds; cost = cost_in planned is book n constants }

module _ (planned : Planned) (book : Book) (n : ℕ) (constants : Constants) where
  -- the bytes are the compact text of the file
  abbrev pub IsPlanFile : List ℕ → Type 0
  IsPlanFile bytes = (is : IsMemo planned.memo) → bytes ≡ compact_text (file_data (file_of planned is book n constants))

  -- and the file is read from them, where it keeps the limits of plan files
  pub record ReadsBack (bytes : List ℕ) : Type 0 where
    pub utf8 : IsUtf8 bytes
    pub reads : (is : IsMemo planned.memo) → read bytes ≡ Some (file_data (file_of planned is book n constants))
    pub describes : (is : IsMemo planned.memo) → IsFile (file_of planned is book n constants) → described (file_data (file_of planned is book n constants)) ≡ Ok (file_of planned is book n constants)
