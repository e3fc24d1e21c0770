use Rattle.std.proofs.Common.{◌≡◌}
use Rattle.std.proofs.lemmas.Result.{IfOk-weaker}
use Rattle.pdw_bind.specs.Bind.{bound}
use Rattle.pdw_engine.proofs.BasisLemmas.{On, planned-kept, plannable-handed, range-handed}
use Rattle.pdw_planner.specs.Planned.{IsPlanned}
use Rattle.pdw_planner.specs.declared.planned.Planned.{Planned}
use Rattle.pdw_engine.proofs.session.Session.planned.Goals as goal

pub plan_query-requires : goal.plan_query-requires
plan_query-requires c =
    let now = c.args.self.now in
    let by = c.basis.result in
    let is = c.basis.ensures in
    let handed : On = record { tables = by.catalog.now; book = by.book.now; nodes = by.n; budget = by.budget; constants = by.constants.now } in
    let kept : On = record { tables = now.contents.tables; book = now.book; nodes = now.contents.nodes; budget = now.settings.budget; constants = now.settings.constants } in
    let same : handed ≡ kept = λ i. record { tables = is.catalog i; book = is.book i; nodes = is.nodes i; budget = is.budget i; constants = is.constants i } in
    let tree = bound c.args.form.now.query in
    record { plannable = plannable-handed handed kept same tree c.requires; constants = range-handed handed kept same tree is.range }

pub returns : goal.returns
returns c =
    let now = c.args.self.now in
    let by = c.basis.result in
    let is = c.basis.ensures in
    let handed : On = record { tables = by.catalog.now; book = by.book.now; nodes = by.n; budget = by.budget; constants = by.constants.now } in
    let kept : On = record { tables = now.contents.tables; book = now.book; nodes = now.contents.nodes; budget = now.settings.budget; constants = now.settings.constants } in
    let same : handed ≡ kept = λ i. record { tables = is.catalog i; book = is.book i; nodes = is.nodes i; budget = is.budget i; constants = is.constants i } in
    let tree = bound c.args.form.now.query in
    IfOk-weaker c.plan_query.result
    (λ (planned : Planned). IsPlanned handed.tables handed.book handed.nodes handed.budget handed.constants tree planned)
    (λ (planned : Planned). IsPlanned kept.tables kept.book kept.nodes kept.budget kept.constants tree planned)
    (λ planned of. planned-kept handed kept same tree planned of)
    c.plan_query.ensures
