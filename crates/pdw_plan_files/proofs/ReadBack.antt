-- The plan file of what is planned is read from its bytes.
use Rattle.std.proofs.Common.{◌≡◌, ℕ, true, List, sym, ap, subst, ◌∙◌}
use Rattle.std.specs.Prelude.{IsUtf8}
use Rattle.serde_json.specs.Read.{read}
use Rattle.pdw_memo.specs.Memo.{IsMemo}
use Rattle.pdw_move.specs.declared.cost.Constants.{Constants}
use Rattle.pdw_plan_files.proofs.TextBack.{text-back}
use Rattle.pdw_plan_files.specs.Written.{IsPlanFile, ReadsBack, file_of}
use Rattle.pdw_planjson.proofs.FileBack.{file-back}
use Rattle.pdw_planjson.specs.Limits.{IsFile, has_numbers}
use Rattle.pdw_planner.specs.declared.planned.Planned.{Planned}
use Rattle.pdw_stats.specs.Book.{Book}

pub read-back : (planned : Planned) (book : Book) (n : ℕ) (constants : Constants) → IsMemo planned.memo → ((is : IsMemo planned.memo) → IsFile (file_of planned is book n constants)) → has_numbers planned.plan ≡ true
    → (bytes : List ℕ) → IsPlanFile planned book n constants bytes → ReadsBack planned book n constants bytes
read-back planned book n constants some fits numbers bytes text = record {
  utf8 = subst IsUtf8 (sym (text some)) (text-back (file_of planned some book n constants) (fits some) numbers).utf8;
  reads = λ is. ap read (text is) ∙ (text-back (file_of planned is book n constants) (fits is) numbers).reads;
  describes = λ is within. file-back (file_of planned is book n constants) within numbers;
}
