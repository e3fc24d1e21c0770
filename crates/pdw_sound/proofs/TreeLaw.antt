-- The law of the tree, of the statements that the judgement accepts.
use Rattle.std.proofs.Common.{◌≡◌, true, Ok, map, sym, ◌∙◌}
use Rattle.pdw_algebra.specs.Meaning.{rows_of}
use Rattle.pdw_algebra.specs.WellFormed.{IsWellFormed}
use Rattle.pdw_syntax.specs.declared.query.Select.{Select}
use Rattle.pdw_syntax.specs.declared.statement.Statement.{Statement}
use Rattle.pdw_syntax.specs.declared.statement.Statement.TheVariants as statement_is
use Rattle.pdw_sound.proofs.SoundDerived.{numbered-outs}
use Rattle.pdw_sound.proofs.SoundInduction.{judged_is_sound}
use Rattle.pdw_bind.proofs.TreeMeaning.{tree_means}
use Rattle.pdw_bind.proofs.WellFormedLaws.{sound_is_well_formed}
use Rattle.pdw_bind.specs.Bind.{bound}
use Rattle.pdw_form.specs.Sound.{HaveColumns, IsSound}
use Rattle.pdw_syntax.specs.Written.{query_written}
use Rattle.pdw_catalog.specs.Database.{Database}
use Rattle.pdw_expr.specs.Rows.{key_of}
use Rattle.pdw_names.proofs.AcceptedLaw.{held_answer}
use Rattle.pdw_semantics.specs.Answer.{answer}
use Rattle.pdw_form.specs.Numbered.{numbered_answer, outs_of}
use Rattle.pdw_walk.proofs.HeldSelects.{judged_walk, judges_select}
use Rattle.pdw_walk.specs.Forms.{Judges}
use Rattle.pdw_walk.specs.Statements.{judgement}
use Rattle.pdw_form.specs.declared.judged.Judged.TheVariants as judged
use Rattle.pdw_form.specs.declared.judged.JudgedQuery.{out-JudgedQuery}
use Rattle.pdw_form.specs.declared.judged.JudgedSelect.{JudgedSelect}

-- ---- of any statement that holds a SELECT

module _ (database : Database) (x : Statement) (s : Select) (j : JudgedSelect) (have : HaveColumns database.tables) (written : query_written s.query ≡ true) (judges : Judges database.tables x s j) where
  pub held_is_sound : IsSound database.tables j.query
  held_is_sound = let walk = judged_walk database.tables x s j judges in judged_is_sound database have s written j walk.0 walk.1

  pub held_is_well_formed : IsWellFormed database.tables (bound j.query)
  held_is_well_formed = sound_is_well_formed database.tables j.query held_is_sound

  pub held_rows_are : map (key_of (outs_of (out-JudgedQuery j.query).items)) (rows_of database (bound j.query)) ≡ answer database s
  unfolding numbered_answer
  held_rows_are =
      (λ i. map (key_of (sym (numbered-outs database j.query) i)) (tree_means database j.query held_is_sound.parts i))
      ∙ sym (held_answer database x s j judges)

-- ---- of a SELECT by itself

module _ (database : Database) (s : Select) (j : JudgedSelect) (have : HaveColumns database.tables) (written : query_written s.query ≡ true) (is : judgement database.tables (statement_is.Select s) ≡ Ok (judged.Select j)) where
  pub form_is_sound : IsSound database.tables j.query
  form_is_sound = held_is_sound database (statement_is.Select s) s j have written (judges_select database.tables s j is)

  pub tree_is_well_formed : IsWellFormed database.tables (bound j.query)
  tree_is_well_formed = held_is_well_formed database (statement_is.Select s) s j have written (judges_select database.tables s j is)

  pub tree_rows_are : map (key_of (outs_of (out-JudgedQuery j.query).items)) (rows_of database (bound j.query)) ≡ answer database s
  tree_rows_are = held_rows_are database (statement_is.Select s) s j have written (judges_select database.tables s j is)
