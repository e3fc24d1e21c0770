-- The law of names and numbers: a SELECT means by names what its judged form means by numbers.
use Rattle.std.proofs.Common.{◌≡◌}
use Rattle.pdw_syntax.specs.declared.query.Select.{Select}
use Rattle.pdw_catalog.specs.Database.{Database}
use Rattle.pdw_names.proofs.ExprMeaningLaws.{expr-means}
use Rattle.pdw_names.proofs.Induction.{select_means}
use Rattle.pdw_form.proofs.Once.{once}
use Rattle.pdw_names.proofs.QueryMeaningLaws.{query_layer}
use Rattle.pdw_semantics.specs.Answer.{answer}
use Rattle.pdw_form.specs.Numbered.{numbered_answer}
use Rattle.pdw_walk.specs.Queries.{select}
use Rattle.pdw_walk.specs.Walk.{Walk, beginning, done}
use Rattle.pdw_form.specs.declared.judged.JudgedSelect.{JudgedSelect}

pub names_law : (database : Database) (s : Select) (j : JudgedSelect) (w : Walk) → select database.tables s beginning ≡ done j w → answer database s ≡ numbered_answer database j
names_law database = select_means database expr-means (query_layer database once expr-means)
