use Rattle.std.proofs.Common.{◌≢◌, rules}
use Rattle.pdw_reading.specs.Tokens.{lexemes}
use Rattle.pdw_reading.specs.declared.parse_error.Stop.TheVariants.{Syntax, TooDeep, Memory}
use Rattle.pdw_reading.proofs.FaultLemmas.{spells, syntax_fits, syntax_stands, depth_fits, depth_stands}
use Rattle.pdw_parse.proofs.parser.parse.Goals as goal

not_syntax : Syntax ≢ Memory
not_syntax = search rules

not_depth : TooDeep ≢ Memory
not_depth = search rules

pub place-requires : goal.place-requires
place-requires c =
    let stops = (rw (c.in-Err-Syntax.field-0-is, c.new-cursor.ensures) at c.in-Err-Syntax.ensures) not_syntax in
    rw c.left.ensures (syntax_fits c.args.tokens.now c.script.new.tokens stops)

pub place-requires-in-Err-TooDeep : goal.place-requires-in-Err-TooDeep
place-requires-in-Err-TooDeep c =
    let stops = (rw (c.in-Err-TooDeep.field-0-is, c.new-cursor.ensures) at c.in-Err-TooDeep.ensures) not_depth in
    rw c.left-in-Err-TooDeep.ensures (depth_fits c.args.tokens.now c.script.new.tokens stops)

pub returns-in-Ok-clause-statements : goal.returns-in-Ok-clause-statements
returns-in-Ok-clause-statements c =
    let reads = rw c.new-cursor.ensures at c.in-Ok.ensures in
    spells (lexemes c.args.tokens.now) c.in-Ok.statements c.script.new.tokens reads

pub returns-in-Err-Syntax-clause-fault : goal.returns-in-Err-Syntax-clause-fault
returns-in-Err-Syntax-clause-fault c =
    let stops = (rw (c.in-Err-Syntax.field-0-is, c.new-cursor.ensures) at c.in-Err-Syntax.ensures) not_syntax in
    let bytes = rw c.left.ensures at c.place.ensures in
    syntax_stands c.args.tokens.now c.script.new.tokens c.args.end c.place.result stops bytes

pub returns-in-Err-TooDeep-clause-fault : goal.returns-in-Err-TooDeep-clause-fault
returns-in-Err-TooDeep-clause-fault c =
    let stops = (rw (c.in-Err-TooDeep.field-0-is, c.new-cursor.ensures) at c.in-Err-TooDeep.ensures) not_depth in
    let bytes = rw c.left-in-Err-TooDeep.ensures at c.place-in-Err-TooDeep.ensures in
    depth_stands c.args.tokens.now c.script.new.tokens c.args.end c.place-in-Err-TooDeep.result stops bytes
