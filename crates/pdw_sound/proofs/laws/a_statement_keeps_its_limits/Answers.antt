use Rattle.pdw_sound.proofs.Limits.{few_queries, few_references, judged_columns}
use Rattle.pdw_sound.proofs.laws.a_statement_keeps_its_limits.Goals as goal

pub returns-clause-references : goal.returns-clause-references
returns-clause-references c = few_references

pub returns-clause-queries : goal.returns-clause-queries
returns-clause-queries c = few_queries

pub returns-clause-columns : goal.returns-clause-columns
returns-clause-columns c = judged_columns
