use Rattle.std.proofs.Common.{◌≡◌, ◌⊎◌, inl, inr, Some, ap}
use Rattle.pdw_engine.proofs.JudgedLaws.{prepared-plannable}
use Rattle.pdw_form.specs.declared.judged.Judged.{Judged}
use Rattle.pdw_form.specs.declared.judged.Judged.TheVariants as judged
use Rattle.pdw_form.specs.declared.judged.JudgedSelect.{JudgedSelect}
use Rattle.pdw_walk.specs.Forms.{judged_select_of}
use Rattle.pdw_engine.proofs.session.Session.plan_of.Goals as goal

held : (work : Judged) (form : JudgedSelect) → (work ≡ judged.Select form) ⊎ ((work ≡ judged.Explain form) ⊎ (work ≡ judged.ExplainJson form)) → judged_select_of work ≡ Some form
held work form (inl is) = ap judged_select_of is
held work form (inr (inl is)) = ap judged_select_of is
held work form (inr (inr is)) = ap judged_select_of is

pub planned-requires : goal.planned-requires
planned-requires c =
    prepared-plannable c.args.self.now.contents.tables c.tables_have_columns.ensures c.args.work.now c.requires c.in-Select.form (held c.args.work.now c.in-Select.form c.in-Select.is)
