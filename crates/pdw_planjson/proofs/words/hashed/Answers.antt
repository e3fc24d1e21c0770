use Rattle.std.proofs.Common.{option_map, ap, ◌∙◌}
use Rattle.pdw_move.specs.declared.kinds.Prop.TheVariants.{Hash}
use Rattle.pdw_planjson.proofs.WordLaws.{hashed-behind, not-hashed}
use Rattle.pdw_planjson.proofs.words.hashed.Goals as goal

pub returns-in-Some : goal.returns-in-Some
returns-in-Some c =
    let cut = c.in-Some.ensures.cases in
    c.hash_of.ensures ∙ ap (option_map Hash) c.column_in.ensures ∙ hashed-behind c.args.text.now c.in-Some.column.now cut.0 cut.1.0 cut.1.1 cut.2

pub returns-in-None : goal.returns-in-None
returns-in-None c = not-hashed c.args.text.now c.in-None.ensures.cases
