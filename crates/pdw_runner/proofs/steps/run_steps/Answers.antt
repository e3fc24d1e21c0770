use Rattle.std.proofs.Common.{◌≡◌, ℕ, suc, ◌∙◌, List, [], ◌∷◌, ◌++◌, add-one, drop, sym, ap, subst}
use Rattle.std.proofs.Math.Seq.{drop-cons}
use Rattle.pdw_answer.specs.declared.answer.StepCount.{StepCount}
use Rattle.pdw_dsql.specs.declared.steps.Step.{Step}
use Rattle.pdw_runner.proofs.Standing.{Standing, standing-first, standing-more}
use Rattle.pdw_runner.proofs.steps.run_steps.Goals as goal
use Rattle.pdw_runner.specs.declared.temporaries.Temporaries.{Temporaries}

pub loop-step-init : goal.loop-step-init
loop-step-init g c =
    let temps : Temporaries = record { placed = c.new.result; schemas = c.new-2.result } in
    let told = g.P.Picker.told c.args.picker.now in
    subst (λ (counts : List StepCount). Standing c.args.appliance.now c.args.steps.now c.args.steps.now temps counts told told) (sym c.new-counts.ensures)
    (standing-first c.args.appliance.now c.args.steps.now temps told c.new.ensures.items c.new-2.ensures.items c.requires)

pub loop-step-preserved : goal.loop-step-preserved
loop-step-preserved g c =
    let steps = c.args.steps.now in
    let contents = c.args.appliance.now in
    let at = c.loop-step.step-index in
    let step = c.step-item.result in
    let before = g.P.Picker.told c.args.picker.now in
    let now = g.P.Picker.told c.loop-step.picker in
    let later = g.P.Picker.told c.run_step.new.picker in
    let temps = c.loop-step.temps in
    let now_temps : Temporaries = record { placed = c.push.new.self; schemas = c.push-in-loop-step.new.self } in
    let left : drop at steps ≡ step ∷ drop (suc at) steps = drop-cons steps at step c.loop-step-test.true ∙ ap (λ (first : Step). first ∷ drop (suc at) steps) (sym c.step-item.is) in
    subst (λ (i : ℕ). Standing contents steps (drop i steps) now_temps c.push-in-loop-step-2.new.self before later) (sym (add-one at))
    (subst (λ (counts : List StepCount). Standing contents steps (drop (suc at) steps) now_temps counts before later) (sym c.in_ok-push-3.ensures.ok)
    (standing-more contents steps step (drop (suc at) steps) temps now_temps c.loop-step.counts c.in_ok-rows.field-0 before now later
    (subst (λ (rest : List Step). Standing contents steps rest temps c.loop-step.counts before now) left c.loop-step.invariant)
    c.in_ok-rows.ensures
    c.in_ok-push.ensures.items
    (c.in_ok-push-2.ensures.items ∙ ap (λ schema. temps.schemas.items ++ schema ∷ []) c.in_ok-try_copy.ensures)))
