-- OR of equal bags of truths, and whether an equal bag has rows.
use Rattle.std.proofs.Common.{◌≡◌, Bool, true, false, ◌||◌, List, [], ◌∷◌, fold, refl, sym, ap, ap₂, ◌∙◌}
use Rattle.std.specs.List.{list_any}
use Rattle.pdw_bag_laws.proofs.Occurrence.{SameBag-list_any}
use Rattle.pdw_base.specs.SameBag.{SameBag}
use Rattle.pdw_base.specs.declared.truth.Truth.TheVariants.{True, False, Unknown}
use Rattle.pdw_base.specs.declared.truth.Truth.{Truth}
use Rattle.pdw_base.specs.declared.value.Value.{Value}
use Rattle.pdw_expr.specs.Logic.{any_of, disjunction, is_truth}
use Rattle.pdw_expr.specs.Predicates.{has_rows}

-- ---- OR of truths, whatever their order

-- OR of truths, by whether one is True and whether one is Unknown
abbrev verdict : Bool → Bool → Truth
verdict true unknown = True
verdict false true = Unknown
verdict false false = False

abbrev has : Truth → List Truth → Bool
has wanted truths = list_any (λ truth. is_truth truth wanted) truths

one-more : (truth : Truth) (holds unknown : Bool) → disjunction truth (verdict holds unknown) ≡ verdict (is_truth truth True || holds) (is_truth truth Unknown || unknown)
one-more True holds unknown = refl
one-more False holds unknown = refl
one-more Unknown true unknown = refl
one-more Unknown false true = refl
one-more Unknown false false = refl

disjunction-assoc : (a b c : Truth) → disjunction (disjunction a b) c ≡ disjunction a (disjunction b c)
disjunction-assoc True b c = refl
disjunction-assoc False b c = refl
disjunction-assoc Unknown True c = refl
disjunction-assoc Unknown False c = refl
disjunction-assoc Unknown Unknown True = refl
disjunction-assoc Unknown Unknown False = refl
disjunction-assoc Unknown Unknown Unknown = refl

disjunction-none : (a : Truth) → a ≡ disjunction a False
disjunction-none True = refl
disjunction-none False = refl
disjunction-none Unknown = refl

any-from : (start : Truth) (truths : List Truth) → fold disjunction start truths ≡ disjunction start (verdict (has True truths) (has Unknown truths))
any-from start [] = disjunction-none start
any-from start (truth ∷ truths) =
    any-from (disjunction start truth) truths
    ∙ disjunction-assoc start truth (verdict (has True truths) (has Unknown truths))
    ∙ ap (disjunction start) (one-more truth (has True truths) (has Unknown truths))

pub SameBag-any_of : {truths others : List Truth} → SameBag truths others → any_of truths ≡ any_of others
SameBag-any_of {truths} {others} same =
    any-from False truths
    ∙ ap₂ verdict (SameBag-list_any (λ truth. is_truth truth True) same) (SameBag-list_any (λ truth. is_truth truth Unknown) same)
    ∙ sym (any-from False others)

-- ---- whether there are rows

some-rows : (rows : List (List Value)) → has_rows rows ≡ list_any (λ row. true) rows
some-rows [] = refl
some-rows (row ∷ rows) = refl

pub SameBag-has_rows : {rows others : List (List Value)} → SameBag rows others → has_rows rows ≡ has_rows others
SameBag-has_rows {rows} {others} same = some-rows rows ∙ SameBag-list_any (λ row. true) same ∙ sym (some-rows others)
