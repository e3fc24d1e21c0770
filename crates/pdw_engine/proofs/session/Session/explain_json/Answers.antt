use Rattle.std.proofs.Common.{◌≡◌, refl}
use Rattle.pdw_bind.specs.Bind.{bound}
use Rattle.pdw_engine.proofs.BasisLemmas.{On, planned-handed, plannable-handed, prints-kept, range-handed}
use Rattle.pdw_engine.proofs.session.Session.explain_json.Goals as goal

pub print_planned-requires : goal.print_planned-requires
print_planned-requires c =
    let now = c.args.self.now in
    let by = c.basis.result in
    let is = c.basis.ensures in
    let handed : On = record { tables = by.catalog.now; book = by.book.now; nodes = by.n; budget = by.budget; constants = by.constants.now } in
    let kept : On = record { tables = now.contents.tables; book = now.book; nodes = now.contents.nodes; budget = now.settings.budget; constants = now.settings.constants } in
    let same : handed ≡ kept = λ i. record { tables = is.catalog i; book = is.book i; nodes = is.nodes i; budget = is.budget i; constants = is.constants i } in
    let tree = bound c.args.form.now.query in
    record { planned = (tree, planned-handed handed kept same tree c.args.planned c.requires.planned); constants = range-handed handed kept same tree is.range }

pub returns : goal.returns
returns c =
    let now = c.args.self.now in
    let by = c.basis.result in
    let is = c.basis.ensures in
    let handed : On = record { tables = by.catalog.now; book = by.book.now; nodes = by.n; budget = by.budget; constants = by.constants.now } in
    let kept : On = record { tables = now.contents.tables; book = now.book; nodes = now.contents.nodes; budget = now.settings.budget; constants = now.settings.constants } in
    let same : handed ≡ kept = λ i. record { tables = is.catalog i; book = is.book i; nodes = is.nodes i; budget = is.budget i; constants = is.constants i } in
    let tree = bound c.args.form.now.query in
    let planned = c.args.planned in
    let bytes = c.in_ok-print_planned.field-0 in
    let told = c.in_ok-print_planned.ensures tree (plannable-handed handed kept same tree c.requires.plannable) (planned-handed handed kept same tree planned c.requires.planned) in
    record { bytes = bytes; answered = refl; printed = prints-kept handed kept same tree planned.plan bytes told }
