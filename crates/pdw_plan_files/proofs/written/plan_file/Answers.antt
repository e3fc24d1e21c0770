use Rattle.std.proofs.Common.{◌≡◌, ℕ, Ok, Some, sym, ap, subst, ◌∙◌}
use Rattle.std.specs.Prelude.{IsUtf8}
use Rattle.serde_json.specs.Read.{read}
use Rattle.serde_json.specs.Written.{compact_text}
use Rattle.pdw_planjson.specs.File.{described}
use Rattle.pdw_planjson.specs.Limits.{IsFile}
use Rattle.pdw_planjson.specs.Written.{file_data}
use Rattle.pdw_planjson.specs.declared.file.PlanFile.{PlanFile}
use Rattle.pdw_plan_files.proofs.written.plan_file.Goals as goal

pub returns-clause-text : goal.returns-clause-text
returns-clause-text c = λ is.
    let planned = c.args.planned in
    let cost = c.cost_in-cost.ensures is in
    c.from_vec.ensures ∙ c.in_ok-text.ensures.compact ∙ ap (λ (cost : ℕ). compact_text (file_data (record { plan = planned.plan; bounds = planned.bounds; cost = cost }))) cost

pub returns-clause-reads : goal.returns-clause-reads
returns-clause-reads c =
    let planned = c.args.planned in
    let priced : ℕ → PlanFile = λ cost. record { plan = planned.plan; bounds = planned.bounds; cost = cost } in
    record {
      utf8 = subst IsUtf8 (sym c.from_vec.ensures) c.in_ok-text.ensures.utf8;
      reads = λ is. ap read c.from_vec.ensures ∙ c.in_ok-text.ensures.reads ∙ ap (λ (cost : ℕ). Some (file_data (priced cost))) (c.cost_in-cost.ensures is);
      describes = λ is. subst (λ (cost : ℕ). IsFile (priced cost) → described (file_data (priced cost)) ≡ Ok (priced cost)) (c.cost_in-cost.ensures is) c.in_ok-text.ensures.back;
    }
