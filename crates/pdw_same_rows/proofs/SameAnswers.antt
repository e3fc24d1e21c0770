-- Statements: the answers of a SELECT that is accepted are equal bags.
use Rattle.std.proofs.Common.{◌≡◌, List, sym, subst, subst₂, ◌∙◌}
use Rattle.std.proofs.lemmas.List.Sorted.{IsPermutation-trans}
use Rattle.pdw_bag_laws.proofs.Keys.{same_row-itself, same_row-≡}
use Rattle.pdw_base.proofs.SameBagLaws.{IsPermutation-from_SameBag, SameBag-sym}
use Rattle.pdw_base.specs.SameBag.{SameBag}
use Rattle.pdw_base.specs.declared.value.Value.{Value}
use Rattle.pdw_catalog.specs.Database.{Database}
use Rattle.pdw_expr.specs.Parts.{same_row}
use Rattle.pdw_form.specs.declared.judged.JudgedSelect.{JudgedSelect}
use Rattle.pdw_names.proofs.AcceptedLaw.{held_answer, held_order}
use Rattle.pdw_same_rows.proofs.SameForms.{same_numbered_answers}
use Rattle.pdw_same_rows.specs.SameRows.{SameRows}
use Rattle.pdw_semantics.specs.Answer.{IsLawful, IsOrdered, answer, order_of}
use Rattle.pdw_semantics.specs.Queries.{query}
use Rattle.pdw_syntax.specs.declared.query.Select.{Select}
use Rattle.pdw_syntax.specs.declared.statement.Statement.{Statement}
use Rattle.pdw_walk.specs.Forms.{Judges}

module _ (one other : Database) (x : Statement) (s : Select) (j : JudgedSelect) (same : SameRows one other) (judges : Judges one.tables x s j) where
  judges_there : Judges other.tables x s j
  judges_there = subst (λ tables. Judges tables x s j) same.tables judges

  pub same_answers : SameBag (answer one s) (answer other s)
  same_answers =
      subst₂ SameBag (sym (held_answer one x s j judges)) (sym (held_answer other x s j judges_there)) (same_numbered_answers one other same j)

  -- the keys of ORDER BY mean the same columns
  same_order : order_of (query one s.query).names s.order ≡ order_of (query other s.query).names s.order
  same_order = sym (held_order one x s j judges) ∙ held_order other x s j judges_there

module _ (one other : Database) (x : Statement) (s : Select) (j : JudgedSelect) (rows : List (List Value)) (same : SameRows one other) (judges : Judges one.tables x s j) (lawful : IsLawful one s rows) where
  pub same_lawful : IsLawful other s rows
  same_lawful = record {
    rearranged = IsPermutation-trans _ _ _ (IsPermutation-from_SameBag same_row same_row-≡ same_row-itself (answer other s) (answer one s) (SameBag-sym (same_answers one other x s j same judges))) lawful.rearranged;
    ordered = subst (λ keys. IsOrdered keys rows) (same_order one other x s j same judges) lawful.ordered;
  }
