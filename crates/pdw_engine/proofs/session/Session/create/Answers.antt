use Rattle.std.proofs.Common.{◌≡◌, ◌∙◌, Some, None, ap, sym, subst}
use Rattle.pdw_catalog.specs.Catalog.{table_named}
use Rattle.pdw_engine.proofs.NameLemmas.{HaveOwnNames-pushed}
use Rattle.pdw_engine.proofs.StateLemmas.{IsOfTables-created}
use Rattle.pdw_engine.specs.Names.{HaveOwnNames}
use Rattle.pdw_engine.specs.State.{IsOfTables, State}
use Rattle.pdw_stats.proofs.BookLaws.{without-with}
use Rattle.pdw_stats.specs.Book.{Changes, stats_of, without_stats}
use Rattle.pdw_engine.proofs.session.Session.create.Goals as goal

pub returns-in-Err-clause-kept : goal.returns-in-Err-clause-kept
returns-in-Err-clause-kept c =
    let book = c.self.inside.book in
    let name = c.in_ok-name.name in
    let absent = subst (λ (state : State). table_named c.args.table.name state.contents.tables ≡ None) (sym c.self.view_is) c.requires.new in
    let none = subst (λ n. stats_of n book ≡ None) (sym c.in_ok-name.ensures) (c.self.invariant.known c.args.table.name absent) in
    let again : c.remove.new.self ≡ book = c.remove.ensures.kept ∙ ap (without_stats name) c.in_ok-put.ensures.kept ∙ without-with name c.in_ok-stats.stats book none in
    (λ i. record { contents = c.in-Err.ensures.err i; book = again i; settings = c.self.inside.settings }) ∙ c.self.view_is

pub invariant_of-self-in_default : goal.invariant_of-self-in_default
invariant_of-self-in_default c =
    let table = c.args.table in
    let tables = c.self.inside.appliance.tables in
    let book = c.self.inside.book in
    let absent = subst (λ (state : State). table_named table.name state.contents.tables ≡ None) (sym c.self.view_is) c.requires.new in
    let changes = subst (λ n. Changes book c.put.new.self n (Some c.in_ok-stats.stats)) c.in_ok-name.ensures c.in_ok-put.ensures.ok in
    record {
      own = subst HaveOwnNames (sym c.in_default.ensures.gained.tables) (HaveOwnNames-pushed table.name table tables absent c.self.invariant.own);
      known = subst (λ all. IsOfTables all c.put.new.self) (sym c.in_default.ensures.gained.tables)
          (IsOfTables-created tables book c.put.new.self table.name table c.in_ok-stats.stats c.self.invariant.known changes);
      allowed = c.self.invariant.allowed;
    }
