use Rattle.std.proofs.Common.{◌≡◌, refl}
use Rattle.pdw_bind.specs.Bind.{bound}
use Rattle.pdw_engine.proofs.BasisLemmas.{On, checks-kept, plannable-handed, range-handed}
use Rattle.pdw_engine.proofs.PlainLemmas.{SamePlain-refl}
use Rattle.pdw_engine.specs.Plain.{plain_of}
use Rattle.pdw_engine.proofs.session.Session.check_plan.Goals as goal

pub check_query-requires : goal.check_query-requires
check_query-requires c =
    let now = c.args.self.now in
    let by = c.basis.result in
    let is = c.basis.ensures in
    let handed : On = record { tables = by.catalog.now; book = by.book.now; nodes = by.n; budget = by.budget; constants = by.constants.now } in
    let kept : On = record { tables = now.contents.tables; book = now.book; nodes = now.contents.nodes; budget = now.settings.budget; constants = now.settings.constants } in
    let same : handed ≡ kept = λ i. record { tables = is.catalog i; book = is.book i; nodes = is.nodes i; budget = is.budget i; constants = is.constants i } in
    let tree = bound c.args.form.now.query in
    record { plannable = plannable-handed handed kept same tree c.requires; constants = range-handed handed kept same tree is.range }

pub returns : goal.returns
returns c =
    let now = c.args.self.now in
    let by = c.basis.result in
    let is = c.basis.ensures in
    let handed : On = record { tables = by.catalog.now; book = by.book.now; nodes = by.n; budget = by.budget; constants = by.constants.now } in
    let kept : On = record { tables = now.contents.tables; book = now.book; nodes = now.contents.nodes; budget = now.settings.budget; constants = now.settings.constants } in
    let same : handed ≡ kept = λ i. record { tables = is.catalog i; book = is.book i; nodes = is.nodes i; budget = is.budget i; constants = is.constants i } in
    let tree = bound c.args.form.now.query in
    let verdict = c.in_ok-verdict.verdict in
    record {
      verdict = verdict;
      answered = refl;
      checked = checks-kept handed kept same tree c.args.content.now verdict c.in_ok-verdict.ensures;
      same = SamePlain-refl (plain_of now);
    }
