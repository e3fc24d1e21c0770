use Rattle.std.proofs.Common.{◌≡◌, ◌∙◌, ap, subst, length, arith}
use Rattle.std.proofs.lemmas.List.{length-map}
use Rattle.pdw_load.specs.Records.{records_of}
use Rattle.pdw_engine.proofs.PlainLemmas.{SamePlain-gained}
use Rattle.pdw_engine.specs.Executes.{LoadsContent}
use Rattle.pdw_engine.specs.Plain.{SamePlain, plain_of, with_rows}
use Rattle.pdw_engine.specs.State.{State}
use Rattle.pdw_answer.specs.declared.answer.Answer.TheVariants.{Loaded}
use Rattle.pdw_engine.proofs.session.Session.load.Goals as goal

pub returns-clause-loaded : goal.returns-clause-loaded
returns-clause-loaded c =
    let rows = c.in-Ok.rows in
    let name = c.args.name.now in
    let content = c.args.content.now in
    let old = c.self.inside.appliance in
    let new = c.append_rows.new.self in
    let read = c.in-Ok.ensures.rows in
    let count : length rows.items ≡ length (records_of content) = ap length read ∙ simp length-map in
    let len : c.len-count.result ≡ length rows.items = c.len-count.ensures ∙ rows.ok.0 in
    let first : c.len.result ≡ length rows.items = c.len.ensures ∙ rows.ok.0 in
    let most = c.most_rows-most.ensures in
    let had = c.row_count.ensures in
    let limit = c.table-table.ensures.limit in
    let book = c.self.inside.book in
    let settings = c.self.inside.settings in
    let before : State = record { contents = old; book = book; settings = settings } in
    let after : State = record { contents = new; book = book; settings = settings } in
    subst (λ (state : State). LoadsContent (plain_of state) name content (Loaded c.len-count.result) (plain_of after)) c.self.view_is (record {
      table = c.table-table.result.now;
      there = c.table-table.ensures.named;
      sound = c.in-Ok.ensures.faultless;
      room = omega arith;
      answered = ap Loaded (len ∙ count);
      gained = subst (λ more. SamePlain (with_rows name more (plain_of before)) (plain_of after)) read (SamePlain-gained old new book settings name rows.items c.in_ok-append_rows.ensures.ok);
    })
