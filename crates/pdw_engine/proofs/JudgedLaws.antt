-- What the judgement of a statement that is executed says of the tables.
use Rattle.std.proofs.Common.{◌≡◌, ℕ, ℤ, pos, negsuc, zero, suc, ◌<◌, ◌≤◌, ◌==◌, ◌&&◌, not, Bool, true, false, leb, unsigned_abs, codes, inl, inr, List, [], ◌∷◌, ◌++◌, length, get_or, position, AllPairs, Option, Some, None, is_some, IsSome, Result, Ok, Err, refl, sym, ◌∙◌, ap, subst, arith, append_assoc, append-nil}
use Rattle.std.specs.Bool.{⊤}
use Rattle.std.specs.List.{AllByRecursion, list_all, list_any}
use Rattle.std.specs.Str.{bytes_eq}
use Rattle.std.proofs.lemmas.Bool.{and_parts, false≢true, or_parts}
use Rattle.std.proofs.lemmas.Bool.Decides.{leb_tells, Decides-eqb}
use Rattle.std.proofs.lemmas.List.{length-append}
use Rattle.std.proofs.lemmas.List.Quantifiers.{all_pairs_push, position-Some}
use Rattle.std.proofs.lemmas.Option.{none-some}
use Rattle.pdw_syntax.specs.declared.query.Select.{Select}
use Rattle.pdw_syntax.specs.declared.statement.CostPart.{CostPart}
use Rattle.pdw_syntax.specs.declared.statement.Statement.{Statement}
use Rattle.pdw_syntax.specs.declared.statement.Statement.TheVariants as s
use Rattle.pdw_base.specs.declared.value.Kind.{Kind}
use Rattle.pdw_base.specs.declared.value.Kind.TheVariants as kind_is
use Rattle.pdw_syntax.specs.Written.{column_written, is_type, query_written, some_columns, statement_written}
use Rattle.pdw_catalog.specs.Appliance.{IsTable}
use Rattle.pdw_catalog.specs.Catalog.{Tables, table_named}
use Rattle.pdw_catalog.specs.Table.{IsPlaced, IsStoredKind}
use Rattle.pdw_catalog.specs.declared.table.Column.{Column}
use Rattle.pdw_catalog.specs.declared.table.Placing.{Placing}
use Rattle.pdw_catalog.specs.declared.table.Placing.TheVariants.{Hash}
use Rattle.pdw_catalog.specs.declared.table.Table.{Table}
use Rattle.pdw_catalog.specs.declared.table.TheConstants.{MOST_COLUMNS, MOST_TABLES}
use Rattle.pdw_bind.specs.Bind.{bound}
use Rattle.pdw_bound.proofs.Plannable.{bound-plannable}
use Rattle.pdw_engine.specs.Prepared.{IsPrepared, is_built}
use Rattle.pdw_engine.specs.Ready.{planned_form}
use Rattle.pdw_engine.specs.Statistics.{AreNumbers, Numbers}
use Rattle.pdw_walk.proofs.Outcomes.{done_value, in_turn, refused_not_done}
use Rattle.pdw_form.specs.Sound.{HaveColumns}
use Rattle.pdw_memo.specs.Memo.{IsPlannable}
use Rattle.pdw_walk.specs.Forms.{Judges, judged_select_of, select_of}
use Rattle.pdw_walk.specs.Queries.{select}
use Rattle.pdw_walk.specs.Statements.{answer_of, budget_setting, cost_name, cost_setting, create, hand, is_named, is_of_place, judgement, known, known_or_fault, lies_in, new_column, new_statistic, place_of_column, place_or_fault, placing, setting, statement, with_known}
use Rattle.pdw_walk.specs.Walk.{Outcome, Step, Walk, and_then, beginning, done, over, pure, refuse_if, refused}
use Rattle.pdw_walk.specs.declared.fault.JudgeFault.{JudgeFault}
use Rattle.pdw_walk.specs.declared.fault.TheConstants.{MOST_BUDGET, MOST_COST, MOST_STATISTIC, MOST_WIDTH}
use Rattle.pdw_form.specs.declared.judged.Judged.{Judged}
use Rattle.pdw_form.specs.declared.judged.Judged.TheVariants as judged
use Rattle.pdw_form.specs.declared.judged.JudgedSelect.{JudgedSelect}

-- ---- steps of a walk

value_or : {A : Type 0} → A → Result A JudgeFault → A
value_or otherwise (Ok a) = a
value_or otherwise (Err fault) = otherwise

Refused : {A : Type 0} → Result A JudgeFault → Type 0
Refused (Ok a) = ⊥
Refused (Err fault) = ⊤

-- an answer is what the walk gives at its end
answered : {A : Type 0} (o : Outcome A) (a : A) → answer_of o ≡ Ok a → (w : Walk) × (o ≡ done a w)
unfolding value_or Refused
answered (done b w) a e = (w, ap (λ x. done x w) (ap (value_or a) e))
answered (refused fault) a e = absurd (subst Refused e tt)

-- a walk that comes to its end passed its tests
passed_test : {B : Type 0} (test : Bool) (fault : JudgeFault) (next : Unit {0} → Step B) (b : B) (w w' : Walk) → and_then (refuse_if test fault w) next ≡ done b w' → (test ≡ false) × (next tt w ≡ done b w')
passed_test true fault next b w w' e = refused_not_done e
passed_test false fault next b w w' e = (refl, e)

-- ---- the columns of a new table

abbrev Apart : Column → Column → Type 0
Apart c d = bytes_eq c.name d.name ≡ false

none_at : (p : Column → Bool) (xs : List Column) → list_any p xs ≡ false → (k : ℕ) (d : Column) → k < length xs → p (get_or xs k d) ≡ false
none_at p [] h k d lt = absurd (omega arith)
none_at p (x ∷ xs) h zero d lt = (or_parts (p x) (list_any p xs) h).0
none_at p (x ∷ xs) h (suc k) d lt = none_at p xs (or_parts (p x) (list_any p xs) h).1 k d (omega arith)

unequal : (a b : ℕ) → (a == b) ≡ false → a ≡ b → ⊥
unequal a b e same = false≢true (sym e ∙ (Decides-eqb a b).1 same)

-- as many as a table may have, and of different names
abbrev Fit : List Column → Type 0
Fit columns = (length columns ≤ MOST_COLUMNS) × AllPairs Apart columns

one_more : (before : List Column) (column : Column) (w : Walk) (more : List Column) (w' : Walk) → Fit before → new_column before column w ≡ done more w' → (before ++ column ∷ [] ≡ more) × Fit more
one_more before column w more w' fit e =
    let counted = passed_test (length before == MOST_COLUMNS) _ _ more w w' e in
    let named = passed_test (list_any (is_named column.name) before) _ _ more w w' counted.1 in
    let longer = length-append before (column ∷ []) in
    let other : length before ≡ MOST_COLUMNS → ⊥ = unequal (length before) MOST_COLUMNS counted.0 in
    let room : length (before ++ column ∷ []) ≤ MOST_COLUMNS = omega (arith, other) in
    let apart = all_pairs_push Apart before column fit.1 (none_at (is_named column.name) before named.0) in
    let same = done_value named.1 in
    (same, subst Fit same (room, apart))

columns_fit : (before left : List Column) (w : Walk) (found : List Column) (w' : Walk) → Fit before → over new_column before left w ≡ done found w' → Fit (before ++ left)
columns_fit before [] w found w' fit e = subst Fit (sym (append-nil before)) fit
columns_fit before (column ∷ left) w found w' fit e =
    let turn = in_turn (new_column before column w) (λ more. over new_column more left) found w' e in
    let one = one_more before column w turn.value turn.middle fit turn.begun in
    subst Fit (ap (λ more. more ++ left) (sym one.0) ∙ append_assoc before (column ∷ []) left) (columns_fit turn.value left turn.middle found w' one.1 turn.ended)

none_yet : Fit []
none_yet = (omega arith, λ i j d lt within. absurd (omega arith))

place_within : (columns : List Column) (name : List ℕ) (place : ℕ) → position (is_named name) columns ≡ Some place → place < length columns
place_within [] name place found = absurd (none-some place found)
place_within (c ∷ cs) name place found = (position-Some (is_named name) (c ∷ cs) place c found).0

place_found : (columns : List Column) (name : List ℕ) (found : Option ℕ) → position (is_named name) columns ≡ found → (w : Walk) (place : ℕ) (w' : Walk) → place_or_fault name found w ≡ done place w' → place < length columns
place_found columns name None at w place w' e = refused_not_done e
place_found columns name (Some first) at w place w' e = subst (λ p. p < length columns) (done_value e) (place_within columns name first at)

-- the hash column is one of the columns
placed : (columns : List Column) (hash : Option (List ℕ)) (w : Walk) (where_rows : Placing) (w' : Walk) → placing columns hash w ≡ done where_rows w' → IsPlaced where_rows (length columns)
unfolding place_of_column
placed columns None w where_rows w' e = subst (λ p. IsPlaced p (length columns)) (done_value e) tt
placed columns (Some name) w where_rows w' e =
    let turn = in_turn (place_of_column columns name w) (λ place. pure (Hash place)) where_rows w' e in
    subst (λ p. IsPlaced p (length columns)) (done_value turn.ended) (place_found columns name (position (is_named name) columns) refl w turn.value turn.middle turn.begun)

-- ---- what is judged can be done

-- over these tables
abbrev pub IsReady : Tables → Statement → Judged → Type 0
IsReady tables statement (judged.Create table) = statement_written statement ≡ true → (table_named table.name tables ≡ None) × IsTable table × (length tables < MOST_TABLES)
IsReady tables statement (judged.Drop name) = IsSome (table_named name tables)
IsReady tables statement (judged.Load name file) = IsSome (table_named name tables)
IsReady tables statement (judged.Measure name) = IsSome (table_named name tables)
IsReady tables statement (judged.Hand name rows cols) = IsSome (table_named name tables) × AreNumbers rows cols
IsReady tables statement (judged.Budget amount) = (1 ≤ amount) × (amount ≤ 100000)
IsReady tables statement (judged.Cost part amount) = (1 ≤ amount) × (amount ≤ 1000)
IsReady tables statement (judged.Select form) = (select : Select) × (statement ≡ s.Select select)
IsReady tables statement (judged.Explain form) = (select : Select) × (statement ≡ s.Explain select)
IsReady tables statement (judged.ExplainJson form) = (select : Select) × (statement ≡ s.ExplainJson select)
IsReady tables statement (judged.CheckPlan file form) = (select : Select) × (statement ≡ s.CheckPlan file select)
IsReady tables statement _ = ⊥

not_some : (found : Option Table) → is_some found ≡ false → found ≡ None
not_some None e = refl
not_some (Some table) e = absurd (false≢true (sym e))

stored_kind : (kind : Kind) → is_type kind ≡ true → IsStoredKind kind
stored_kind kind_is.Int e = tt
stored_kind kind_is.Text e = tt
stored_kind kind_is.Wide e = absurd (false≢true e)

kinds_of : (columns : List Column) → list_all column_written columns ≡ true → AllByRecursion (λ (c : Column). IsStoredKind c.kind) columns
kinds_of [] e = tt
kinds_of (column ∷ columns) e = let both = and_parts (column_written column) (list_all column_written columns) e in (stored_kind column.kind both.0, kinds_of columns both.1)

below : (a b : ℕ) → leb a b ≡ false → b < a
below a b e = elim (leb_tells a b) [ inl h ↦ absurd (false≢true (sym e ∙ h.0)) | inr h ↦ omega arith ]

some_of : (columns : List Column) → some_columns columns ≡ true → 1 ≤ length columns
some_of [] e = absurd (false≢true e)
some_of (column ∷ columns) e = omega arith

create_ready : (tables : Tables) (name : List ℕ) (columns : List Column) (hash : Option (List ℕ)) (w : Walk) (work : Judged) (w' : Walk) → create tables name columns hash w ≡ done work w' → IsReady tables (s.CreateNamed name columns hash) work
unfolding create
create_ready tables name columns hash w work w' e =
    let absent = passed_test (is_some (table_named name tables)) _ _ work w w' e in
    let checked = in_turn (over new_column [] columns w) _ work w' absent.1 in
    let found = in_turn (placing columns hash checked.middle) _ work w' checked.ended in
    let room = passed_test (leb MOST_TABLES (length tables)) _ _ work found.middle w' found.ended in
    let fit = columns_fit [] columns w checked.value checked.middle none_yet checked.begun in
    subst (IsReady tables (s.CreateNamed name columns hash)) (done_value room.1) (λ written. (
      not_some (table_named name tables) absent.0,
      record { some = some_of columns (and_parts (some_columns columns) (list_all column_written columns) written).0; most = fit.0; different = fit.1; kinds = kinds_of columns (and_parts (some_columns columns) (list_all column_written columns) written).1; placed = placed columns hash checked.middle found.value found.middle found.begun },
      below MOST_TABLES (length tables) room.0,
    ))

found_there : (tables : Tables) (found : Option Table) (name : List ℕ) (w : Walk) (table : Table) (w' : Walk) → known_or_fault tables name found w ≡ done table w' → IsSome found
found_there tables None name w table w' e = refused_not_done e
found_there tables (Some first) name w table w' e = refl

-- a table that is known is there
known_ready : (tables : Tables) (written : Statement) (name : List ℕ) (work : Judged) (w : Walk) (end : Judged) (w' : Walk) → (IsSome (table_named name tables) → IsReady tables written work) → with_known tables name work w ≡ done end w' → IsReady tables written end
unfolding with_known known
known_ready tables written name work w end w' ready e =
    let turn = in_turn (known_or_fault tables name (table_named name tables) w) (λ table. pure work) end w' e in
    subst (IsReady tables written) (done_value turn.ended) (ready (found_there tables (table_named name tables) name w turn.value turn.middle turn.begun))

select_ready : (tables : Tables) (query : Select) (w : Walk) (work : Judged) (w' : Walk) → and_then (select tables query w) (λ form. pure (judged.Select form)) ≡ done work w' → IsReady tables (s.Select query) work
select_ready tables query w work w' e =
    let turn = in_turn (select tables query w) (λ form. pure (judged.Select form)) work w' e in
    subst (IsReady tables (s.Select query)) (done_value turn.ended) (query, refl)

explain_ready : (tables : Tables) (query : Select) (w : Walk) (work : Judged) (w' : Walk) → and_then (select tables query w) (λ form. pure (judged.Explain form)) ≡ done work w' → IsReady tables (s.Explain query) work
explain_ready tables query w work w' e =
    let turn = in_turn (select tables query w) (λ form. pure (judged.Explain form)) work w' e in
    subst (IsReady tables (s.Explain query)) (done_value turn.ended) (query, refl)

json_ready : (tables : Tables) (query : Select) (w : Walk) (work : Judged) (w' : Walk) → and_then (select tables query w) (λ form. pure (judged.ExplainJson form)) ≡ done work w' → IsReady tables (s.ExplainJson query) work
json_ready tables query w work w' e =
    let turn = in_turn (select tables query w) (λ form. pure (judged.ExplainJson form)) work w' e in
    subst (IsReady tables (s.ExplainJson query)) (done_value turn.ended) (query, refl)

check_ready : (tables : Tables) (file : List ℕ) (query : Select) (w : Walk) (work : Judged) (w' : Walk) → and_then (select tables query w) (λ form. pure (judged.CheckPlan file form)) ≡ done work w' → IsReady tables (s.CheckPlan file query) work
check_ready tables file query w work w' e =
    let turn = in_turn (select tables query w) (λ form. pure (judged.CheckPlan file form)) work w' e in
    subst (IsReady tables (s.CheckPlan file query)) (done_value turn.ended) (query, refl)

-- ---- numbers in their ranges

abbrev Lies : ℕ → ℕ → ℕ → Type 0
Lies least most n = (least ≤ n) × (n ≤ most)

above : (a b : ℕ) → leb a b ≡ true → a ≤ b
above a b e = elim (leb_tells a b) [ inl h ↦ h.1 | inr h ↦ absurd (false≢true (sym h.0 ∙ e)) ]

truth : (b : Bool) → not b ≡ false → b ≡ true
truth true e = refl
truth false e = absurd (false≢true (sym e))

in_range : (least most : ℕ) (amount : ℤ) → not (lies_in least most amount) ≡ false → Lies least most (unsigned_abs amount)
in_range least most (pos n) e = let both = and_parts (leb least n) (leb n most) (truth (leb least n && leb n most) e) in (above least n both.0, above n most both.1)
in_range least most (negsuc n) e = absurd (false≢true (sym e))

set_in_range : (name : List ℕ) (least most : ℕ) (amount : ℤ) (w : Walk) (n : ℕ) (w' : Walk) → setting name least most amount w ≡ done n w' → Lies least most n
unfolding setting
set_in_range name least most amount w n w' e =
    let passed = passed_test (not (lies_in least most amount)) _ _ n w w' e in
    subst (Lies least most) (done_value passed.1) (in_range least most amount passed.0)

abbrev IsNumbered : ℕ × ℕ × ℕ → Type 0
IsNumbered of = Lies 1 1000000000000 of.1 × Lies 1 1000 of.2

all_pushed : (before : Numbers) (of : ℕ × ℕ × ℕ) → AllByRecursion IsNumbered before → IsNumbered of → AllByRecursion IsNumbered (before ++ of ∷ [])
all_pushed [] of all one = (one, tt)
all_pushed (first ∷ before) of all one = (all.0, all_pushed before of all.1 one)

one_number : (columns : List Column) (before : Numbers) (of : List ℕ × ℤ × ℤ) (w : Walk) (more : Numbers) (w' : Walk) → AllByRecursion IsNumbered before → new_statistic columns before of w ≡ done more w' → AllByRecursion IsNumbered more
one_number columns before (name, distinct, width) w more w' all e =
    let found = in_turn (place_of_column columns name w) _ more w' e in
    let once = passed_test (list_any (is_of_place found.value) before) _ _ more found.middle w' found.ended in
    let values = in_turn (setting (codes "distinct") 1 MOST_STATISTIC distinct found.middle) _ more w' once.1 in
    let bytes = in_turn (setting (codes "width") 1 MOST_WIDTH width values.middle) _ more w' values.ended in
    let valued = set_in_range (codes "distinct") 1 MOST_STATISTIC distinct found.middle values.value values.middle values.begun in
    let wide = set_in_range (codes "width") 1 MOST_WIDTH width values.middle bytes.value bytes.middle bytes.begun in
    subst (AllByRecursion IsNumbered) (done_value bytes.ended) (all_pushed before (found.value, values.value, bytes.value) all (valued, wide))

all_numbers : (columns : List Column) (before : Numbers) (left : List (List ℕ × ℤ × ℤ)) (w : Walk) (found : Numbers) (w' : Walk) → AllByRecursion IsNumbered before → over (new_statistic columns) before left w ≡ done found w' → AllByRecursion IsNumbered found
all_numbers columns before [] w found w' all e = subst (AllByRecursion IsNumbered) (done_value e) all
all_numbers columns before (of ∷ left) w found w' all e =
    let turn = in_turn (new_statistic columns before of w) (λ more. over (new_statistic columns) more left) found w' e in
    all_numbers columns turn.value left turn.middle found w' (one_number columns before of w turn.value turn.middle all turn.begun) turn.ended

hand_ready : (tables : Tables) (written : Statement) (name : List ℕ) (rows : ℤ) (cols : List (List ℕ × ℤ × ℤ)) (w : Walk) (work : Judged) (w' : Walk) → hand tables name rows cols w ≡ done work w' → IsReady tables written work
unfolding hand known
hand_ready tables written name rows cols w work w' e =
    let table = in_turn (known_or_fault tables name (table_named name tables) w) _ work w' e in
    let count = in_turn (setting (codes "rows") 0 MOST_STATISTIC rows table.middle) _ work w' table.ended in
    let numbers = in_turn (over (new_statistic table.value.columns) [] cols count.middle) _ work w' count.ended in
    let counted = set_in_range (codes "rows") 0 MOST_STATISTIC rows table.middle count.value count.middle count.begun in
    subst (IsReady tables written) (done_value numbers.ended) (
      found_there tables (table_named name tables) name w table.value table.middle table.begun,
      (counted.1, all_numbers table.value.columns [] cols count.middle numbers.value numbers.middle tt numbers.begun),
    )

budget_ready : (tables : Tables) (written : Statement) (amount : ℤ) (w : Walk) (work : Judged) (w' : Walk) → budget_setting amount w ≡ done work w' → IsReady tables written work
unfolding budget_setting
budget_ready tables written amount w work w' e =
    let turn = in_turn (setting (codes "budget") 1 MOST_BUDGET amount w) (λ n. pure (judged.Budget n)) work w' e in
    subst (IsReady tables written) (done_value turn.ended) (set_in_range (codes "budget") 1 MOST_BUDGET amount w turn.value turn.middle turn.begun)

cost_ready : (tables : Tables) (written : Statement) (part : CostPart) (amount : ℤ) (w : Walk) (work : Judged) (w' : Walk) → cost_setting part amount w ≡ done work w' → IsReady tables written work
unfolding cost_setting
cost_ready tables written part amount w work w' e =
    let turn = in_turn (setting (cost_name part) 1 MOST_COST amount w) (λ n. pure (judged.Cost part n)) work w' e in
    subst (IsReady tables written) (done_value turn.ended) (set_in_range (cost_name part) 1 MOST_COST amount w turn.value turn.middle turn.begun)

done_ready : (tables : Tables) (written : Statement) (work : Judged) (w' : Walk) → is_built written ≡ true → statement tables written beginning ≡ done work w' → IsReady tables written work
unfolding statement
done_ready tables (s.CreateNamed name columns hash) work w' built e = create_ready tables name columns hash beginning work w' e
done_ready tables (s.Drop name) work w' built e = known_ready tables (s.Drop name) name (judged.Drop name) beginning work w' (λ there. there) e
done_ready tables (s.Load name file) work w' built e = known_ready tables (s.Load name file) name (judged.Load name file) beginning work w' (λ there. there) e
done_ready tables (s.Measure name) work w' built e = known_ready tables (s.Measure name) name (judged.Measure name) beginning work w' (λ there. there) e
done_ready tables (s.Hand name rows cols) work w' built e = hand_ready tables (s.Hand name rows cols) name rows cols beginning work w' e
done_ready tables (s.Budget amount) work w' built e = budget_ready tables (s.Budget amount) amount beginning work w' e
done_ready tables (s.Cost part amount) work w' built e = cost_ready tables (s.Cost part amount) part amount beginning work w' e
done_ready tables (s.Select query) work w' built e = select_ready tables query beginning work w' e
done_ready tables (s.Explain query) work w' built e = explain_ready tables query beginning work w' e
done_ready tables (s.ExplainJson query) work w' built e = json_ready tables query beginning work w' e
done_ready tables (s.CheckPlan file query) work w' built e = check_ready tables file query beginning work w' e
done_ready tables _ work w' built e = absurd (false≢true built)

-- what a judged statement does is as the tables allow it
pub IsReady-judged : (tables : Tables) (written : Statement) (work : Judged) → is_built written ≡ true → judgement tables written ≡ Ok work → IsReady tables written work
IsReady-judged tables written work built e =
    let end = answered (statement tables written beginning) work e in
    done_ready tables written work end.0 built end.1

-- what is prepared can be done
abbrev pub CanDo : Tables → Judged → Type 0
CanDo tables (judged.Create table) = (table_named table.name tables ≡ None) × IsTable table × (length tables < MOST_TABLES)
CanDo tables (judged.Drop name) = IsSome (table_named name tables)
CanDo tables (judged.Load name file) = IsSome (table_named name tables)
CanDo tables (judged.Measure name) = IsSome (table_named name tables)
CanDo tables (judged.Hand name rows cols) = IsSome (table_named name tables) × AreNumbers rows cols
CanDo tables (judged.Budget amount) = (1 ≤ amount) × (amount ≤ 100000)
CanDo tables (judged.Cost part amount) = (1 ≤ amount) × (amount ≤ 1000)
CanDo tables (judged.Select form) = ⊤
CanDo tables (judged.Explain form) = ⊤
CanDo tables (judged.ExplainJson form) = ⊤
CanDo tables (judged.CheckPlan file form) = ⊤
CanDo tables _ = ⊥

can_do : (tables : Tables) (statement : Statement) (work : Judged) → statement_written statement ≡ true → IsReady tables statement work → CanDo tables work
can_do tables statement (judged.Create table) written ready = ready written
can_do tables statement (judged.Drop name) written ready = ready
can_do tables statement (judged.Load name file) written ready = ready
can_do tables statement (judged.Measure name) written ready = ready
can_do tables statement (judged.Hand name rows cols) written ready = ready
can_do tables statement (judged.Budget amount) written ready = ready
can_do tables statement (judged.Cost part amount) written ready = ready
can_do tables statement (judged.Select form) written ready = tt
can_do tables statement (judged.Explain form) written ready = tt
can_do tables statement (judged.ExplainJson form) written ready = tt
can_do tables statement (judged.CheckPlan file form) written ready = tt
can_do tables statement _ written ready = absurd ready

pub CanDo-prepared : (tables : Tables) (work : Judged) → IsPrepared tables work → CanDo tables work
CanDo-prepared tables work (statement, written, prepares) = can_do tables statement work written (IsReady-judged tables statement work prepares.built prepares.right)

-- nothing else is prepared whose query is not planned
pub no_other : (tables : Tables) (work : Judged) → CanDo tables work → planned_form work ≡ None → ((table : Table) → work ≡ judged.Create table → ⊥) → ((name : List ℕ) → work ≡ judged.Drop name → ⊥)
    → ((name file : List ℕ) → work ≡ judged.Load name file → ⊥) → ((name : List ℕ) → work ≡ judged.Measure name → ⊥)
    → ((name : List ℕ) (rows : ℕ) (cols : Numbers) → work ≡ judged.Hand name rows cols → ⊥) → ((amount : ℕ) → work ≡ judged.Budget amount → ⊥)
    → ((part : CostPart) (amount : ℕ) → work ≡ judged.Cost part amount → ⊥) → ((file : List ℕ) (form : JudgedSelect) → work ≡ judged.CheckPlan file form → ⊥) → ⊥
no_other tables (judged.Create table) can none creates drops loads measures hands budgets costs checks = creates table refl
no_other tables (judged.Drop name) can none creates drops loads measures hands budgets costs checks = drops name refl
no_other tables (judged.Load name file) can none creates drops loads measures hands budgets costs checks = loads name file refl
no_other tables (judged.Measure name) can none creates drops loads measures hands budgets costs checks = measures name refl
no_other tables (judged.Hand name rows cols) can none creates drops loads measures hands budgets costs checks = hands name rows cols refl
no_other tables (judged.Budget amount) can none creates drops loads measures hands budgets costs checks = budgets amount refl
no_other tables (judged.Cost part amount) can none creates drops loads measures hands budgets costs checks = costs part amount refl
no_other tables (judged.Select form) can none creates drops loads measures hands budgets costs checks = absurd (none-some form (sym none))
no_other tables (judged.Explain form) can none creates drops loads measures hands budgets costs checks = absurd (none-some form (sym none))
no_other tables (judged.ExplainJson form) can none creates drops loads measures hands budgets costs checks = absurd (none-some form (sym none))
no_other tables (judged.CheckPlan file form) can none creates drops loads measures hands budgets costs checks = checks file form refl
no_other tables _ can none creates drops loads measures hands budgets costs checks = can

-- a query that is planned is that of a SELECT, an EXPLAIN or an EXPLAIN JSON
pub no_query : (work : Judged) (form : JudgedSelect) → planned_form work ≡ Some form → ((form : JudgedSelect) → work ≡ judged.Select form → ⊥) → ((form : JudgedSelect) → work ≡ judged.Explain form → ⊥)
    → ((form : JudgedSelect) → work ≡ judged.ExplainJson form → ⊥) → ⊥
no_query (judged.Select found) form planned selects explains prints = selects found refl
no_query (judged.Explain found) form planned selects explains prints = explains found refl
no_query (judged.ExplainJson found) form planned selects explains prints = prints found refl
no_query _ form planned selects explains prints = absurd (none-some form planned)

-- ---- the query that is planned

-- the numbered form of the SELECT that a statement holds
pub Judges-query : (tables : Tables) (statement : Statement) (work : Judged) (form : JudgedSelect) → IsReady tables statement work → judgement tables statement ≡ Ok work → statement_written statement ≡ true → judged_select_of work ≡ Some form
    → (query : Select) × ((query_written query.query ≡ true) × Judges tables statement query form)
Judges-query tables statement (judged.Select found) form ready right written gives =
    (ready.0, (sym (ap statement_written ready.1) ∙ written, record { holds = ap select_of ready.1; work = judged.Select found; right = right; gives = gives }))
Judges-query tables statement (judged.Explain found) form ready right written gives =
    (ready.0, (sym (ap statement_written ready.1) ∙ written, record { holds = ap select_of ready.1; work = judged.Explain found; right = right; gives = gives }))
Judges-query tables statement (judged.ExplainJson found) form ready right written gives =
    (ready.0, (sym (ap statement_written ready.1) ∙ written, record { holds = ap select_of ready.1; work = judged.ExplainJson found; right = right; gives = gives }))
Judges-query tables statement (judged.CheckPlan file found) form ready right written gives =
    (ready.0, (sym (ap statement_written ready.1) ∙ written, record { holds = ap select_of ready.1; work = judged.CheckPlan file found; right = right; gives = gives }))
Judges-query tables statement (judged.Profile found) form ready right written gives = absurd ready
Judges-query tables statement _ form ready right written gives = absurd (none-some form gives)

-- its tree can be planned
pub prepared-plannable : (tables : Tables) → HaveColumns tables → (work : Judged) → IsPrepared tables work → (form : JudgedSelect) → judged_select_of work ≡ Some form → IsPlannable tables (bound form.query)
prepared-plannable tables have work (statement, written, prepares) form gives =
    let held = Judges-query tables statement work form (IsReady-judged tables statement work prepares.built prepares.right) prepares.right written gives in
    bound-plannable (record { tables = tables; rows = λ name. [] }) statement held.0 form have held.1.0 held.1.1
