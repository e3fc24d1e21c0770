use Rattle.std.proofs.Common.{◌∙◌, ap, ◌++◌, ◌∷◌, []}
use Rattle.std.specs.Map.{lookup}
use Rattle.std.specs.Str.{bytes_eq}
use Rattle.indexmap.proofs.CallerLemmas.{insert_entry-new}
use Rattle.pdw_catalog.proofs.catalog.Catalog.insert.Goals as goal

pub returns-clause-ok : goal.returns-clause-ok
returns-clause-ok c =
    c.in_ok-insert.ensures.entries
    ∙ insert_entry-new bytes_eq c.self.inside.tables c.args.name c.args.table (ap (lookup (bytes_eq c.args.name)) c.self.view_is ∙ c.requires)
    ∙ ap (λ tables. tables ++ (c.args.name, c.args.table) ∷ []) c.self.view_is
