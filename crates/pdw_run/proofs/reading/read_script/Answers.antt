use Rattle.std.proofs.Common.{rules}
use Rattle.pdw_run.proofs.WrittenScripts.{IsScript-written}
use Rattle.pdw_run.specs.Reading.{IsScript}
use Rattle.pdw_run.proofs.reading.read_script.Goals as goal

pub returns-in-Ok-parse-clause-written : goal.returns-in-Ok-parse-clause-written
returns-in-Ok-parse-clause-written c =
    let says : IsScript c.args.script.now c.in-Ok-parse.statements = search rules in
    IsScript-written c.args.script.now c.in-Ok-parse.statements says
