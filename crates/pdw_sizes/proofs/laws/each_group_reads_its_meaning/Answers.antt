use Rattle.pdw_sizes.proofs.MemoReads.{memo-reads}
use Rattle.pdw_sizes.proofs.laws.each_group_reads_its_meaning.Goals as goal

pub returns-clause-schema : goal.returns-clause-schema
returns-clause-schema c contents memo number group means there meant = (memo-reads contents memo number group means there meant).schema

pub returns-clause-reads : goal.returns-clause-reads
returns-clause-reads c contents memo number group means there meant = (memo-reads contents memo number group means there meant).reads
