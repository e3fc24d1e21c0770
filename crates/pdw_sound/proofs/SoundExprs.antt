-- Value expressions: what the walk makes of one has its kind over columns that have what may be used.
use Rattle.std.proofs.Common.{◌≡◌, ℕ, ◌≤◌, ◌<◌, leb, Bool, true, false, true≢false, not, List, [], ◌∷◌, ◌++◌, length, map, Option, Some, None, is_some, is_none, filter, position, inl, inr, refl, sym, ap, subst, ◌∙◌, le_refl, length-append, arith, if◌then◌else◌}
use Rattle.std.specs.Bool.{⊤}
use Rattle.std.specs.List.{AllByRecursion, list_all}
use Rattle.std.proofs.lemmas.Bool.{and_parts, and_from}
use Rattle.pdw_algebra.proofs.PartLemmas.{kind-chain}
use Rattle.pdw_algebra.specs.Schema.{kind_at}
use Rattle.pdw_algebra.specs.Types.{aggregate_kind_by, is_number, kind_over, literal_kind, number_if, scalar_kind, scalar_kind_step}
use Rattle.pdw_algebra.specs.Types as numbered
use Rattle.pdw_syntax.specs.declared.expr.ColRef.{ColRef}
use Rattle.pdw_syntax.specs.declared.expr.SqlExpr.{SqlExpr}
use Rattle.pdw_syntax.specs.declared.expr.SqlExpr.TheOpen.{SqlExpr-F}
use Rattle.pdw_syntax.specs.declared.expr.SqlExpr.TheViews.{roll-SqlExpr}
use Rattle.pdw_syntax.specs.declared.expr.SqlExpr.TheFolds.{fold-roll-SqlExpr, ind-SqlExpr, map-SqlExpr}
use Rattle.pdw_base.specs.Schema.{Columns}
use Rattle.pdw_base.specs.declared.schema.ColId.{ColId}
use Rattle.pdw_base.specs.declared.value.Kind.{Kind}
use Rattle.pdw_base.specs.declared.value.Kind.TheVariants as kind
use Rattle.pdw_base.specs.declared.value.Value.{Value}
use Rattle.pdw_base.specs.declared.value.Value.TheVariants as value
use Rattle.pdw_sound.proofs.Added.{adds-map, adds-one, adds-same, adds-trans, among-member}
use Rattle.pdw_sound.proofs.SoundRelations.{Adds, AggsMade, AggsTyped, Among, AmongNear, ExprSound, GroupKinds, GroupKindsIn, KindAt, KindsOf, NearKinds, Sees, Used}
use Rattle.pdw_sound.proofs.SoundSteps.{Every, GoesOn, HasKind, Knowing, Knows, StepKnows, each_knows, ends_checked, extends-grows, goes_on_then, kinds_of-fewer, knowing_then, knows_expr, knows_made, knows_pure}
use Rattle.pdw_syntax.specs.Written.{counts_rows, expr_written, expr_written_step}
use Rattle.pdw_catalog.specs.declared.table.TheConstants.{MOST_TEXT_BYTES}
use Rattle.pdw_expr.specs.declared.agg.Agg.{Agg}
use Rattle.pdw_expr.specs.declared.agg.AggKind.{AggKind}
use Rattle.pdw_expr.specs.declared.agg.AggKind.TheVariants as aggregate
use Rattle.pdw_expr.specs.declared.scalar.Arith.{Arith}
use Rattle.pdw_expr.specs.declared.scalar.Scalar.{Scalar}
use Rattle.pdw_expr.specs.declared.scalar.Scalar.TheOpen.{Scalar-F}
use Rattle.pdw_expr.specs.declared.scalar.Scalar.TheFolds.{fold-roll-Scalar}
use Rattle.pdw_expr.specs.declared.scalar.Scalar.TheVariants as scalar
use Rattle.pdw_names.proofs.ExprMeaningLaws.{expr-means}
use Rattle.pdw_names.proofs.LookupLaws.{column-gives, filter-member, own_column-done, use_column-done}
use Rattle.pdw_names.proofs.Relations.{Allowed, BeginsWith, Grows, Proper, Settled, SettledAll, SettledAt, SettledIn}
use Rattle.pdw_names.proofs.WalkLaws.{add_aggregate-done, all-append, all-left, all-map, all-right, begins-itself, done-value, done-walk, grows-trans, made_number-done, mapped, meet_outer-done, meet_outer-grows, next_number-done, not-false, position-grows, refuse_if-then, refused-done, settled_all-grows, turn}
use Rattle.pdw_semantics.specs.Exprs as named
use Rattle.pdw_walk.specs.Exprs.{aggregate_of, aggregated, are_numbers, argument_fits, argument_place, chain, chained, column_expr, column_typed, expr, expr_step, made_aggregate, met_typed, operand, same_kind, signed, typed, with_sign}
use Rattle.pdw_walk.specs.Exprs as walk
use Rattle.pdw_walk.specs.Lookup.{Place, Scope, column, fits, found_of, near_column, near_match, own_column, own_match, reached, use_column, written}
use Rattle.pdw_walk.specs.Slot.{same_slot}
use Rattle.pdw_walk.specs.Walk.{Step, Walk, ◌>>=◌, ◌>>◌, add_aggregate, and_then, col_id, done, each, made_number, meet_outer, number_at, number_of, pure, with_aggs}
use Rattle.pdw_walk.specs.declared.entry.Entry.{Entry}
use Rattle.pdw_walk.specs.declared.entry.Met.{Met}
use Rattle.pdw_walk.specs.declared.entry.Numbered.{Numbered}
use Rattle.pdw_walk.specs.declared.entry.Slot.{Slot}
use Rattle.pdw_walk.specs.declared.entry.Slot.TheVariants.{Base, Made}
use Rattle.pdw_walk.specs.declared.entry.Typed.{Typed}
use Rattle.pdw_walk.specs.declared.fault.JudgeFault.TheVariants.{TypeMismatch, AggregatePlace}

-- ---- kinds of numbered expressions

pub kind_col : (columns : Columns) (c : ColId) → scalar_kind columns (scalar.Col c) ≡ kind_at columns c
kind_col columns c = ap (scalar_kind columns) (sym (scalar.rolls-Col c)) ∙ fold-roll-Scalar (Option Kind) (scalar_kind_step columns) (Scalar-F.Col c)

kind_lit : (columns : Columns) (v : Value) → scalar_kind columns (scalar.Lit v) ≡ literal_kind v
kind_lit columns v = ap (scalar_kind columns) (sym (scalar.rolls-Lit v)) ∙ fold-roll-Scalar (Option Kind) (scalar_kind_step columns) (Scalar-F.Lit v)

kind_neg : (columns : Columns) (x : Scalar) → scalar_kind columns (scalar.Neg x) ≡ number_if (is_number (scalar_kind columns x))
kind_neg columns x = ap (scalar_kind columns) (sym (scalar.rolls-Neg x)) ∙ fold-roll-Scalar (Option Kind) (scalar_kind_step columns) (Scalar-F.Neg x)

-- ---- kinds that the walk tests

pub is_int : (k : Kind) → same_kind kind.Int k ≡ true → k ≡ kind.Int
is_int kind.Int same = refl
is_int kind.Text same = absurd (true≢false (sym same))
is_int kind.Wide same = absurd (true≢false (sym same))

-- what is of the kind of numbers has it
int_kind : (x : Typed) (columns : Columns) → same_kind kind.Int x.kind ≡ true → HasKind x columns → scalar_kind columns x.scalar ≡ Some kind.Int
int_kind x columns same has = has ∙ ap Some (is_int x.kind same)

int_number : (x : Typed) (columns : Columns) → same_kind kind.Int x.kind ≡ true → HasKind x columns → is_number (scalar_kind columns x.scalar) ≡ true
int_number x columns same has = ap is_number (int_kind x columns same has)

-- ---- columns

-- a column that was met has its kind, where it may be used
pub record ColumnKinds (place : Place) (w : Walk) (met : Met) (w' : Walk) : Type 0 where
  pub typed : (aggs : List Agg) (columns : Columns) → Sees w'.numbers aggs w'.outer place columns → kind_at columns met.column.number ≡ Some met.kind
  pub unmet : place.reaches ≡ false → w'.outer ≡ w.outer
  pub references : w'.references ≡ w.references
  pub taken : w'.taken ≡ w.taken
  pub uses : Adds (Used place) w w'

-- a column of its own scope, or of the enclosing one, may be used
pub used_own : (place : Place) (slot : Slot) → Among place.own slot → Used place slot
used_own place (Base reference column) among = inl among
used_own place (Made n) among = tt

pub used_near : (place : Place) (slot : Slot) → place.reaches ≡ true → AmongNear place.outers slot → Used place slot
used_near place (Base reference column) reaches among = inr (reaches, among)
used_near place (Made n) reaches among = tt

-- a column that gets a number is one that may be used
pub number_of-adds : (P : Slot → Type 0) (slot : Slot) → P slot → (w : Walk) (c : ColId) (w' : Walk) → number_of slot w ≡ done c w' → Adds P w w'
unfolding number_of
number_of-adds P slot is w c w' same = by (position (same_slot slot) w.numbers) same
  where
    by : (o : Option ℕ) → number_at slot o w ≡ done c w' → Adds P w w'
    by (Some place) same = adds-same P (ap (λ (v : Walk). v.numbers) (sym (done-walk same)))
    by None same = adds-one P slot (ap (λ (v : Walk). v.numbers) (sym (next_number-done slot w c w' same).1)) is

pub use_column-adds : (P : Slot → Type 0) (entry : Entry) → P entry.slot → (w : Walk) (met : Met) (w' : Walk) → use_column entry w ≡ done met w' → Adds P w w'
unfolding use_column
use_column-adds P entry is w met w' same =
    let made = mapped (number_of entry.slot w) _ met w' same in
    number_of-adds P entry.slot is w made.given w' made.begins

settled-member : (numbers : List Slot) (scope : Scope) (ref : ColRef) (entry : Entry) (rest : List Entry) → SettledIn numbers scope → filter (fits ref) scope ≡ entry ∷ rest → Settled numbers entry.slot
settled-member numbers scope ref entry rest settled single =
    let at = filter-member (fits ref) scope entry rest single in
    (all-right (λ (e : Entry). Settled numbers e.slot) at.0 (entry ∷ at.1) (subst (SettledIn numbers) at.2 settled)).0

-- what all have, one that a filter keeps has
kept-has : {X : Type 0} (P : X → Type 0) (p : X → Bool) (xs : List X) (x : X) (rest : List X) → AllByRecursion P xs → filter p xs ≡ x ∷ rest → P x
kept-has P p xs x rest all kept =
    let at = filter-member p xs x rest kept in
    (all-right P at.0 (x ∷ at.1) (subst (AllByRecursion P) at.2 all)).0

-- an entry that a filter keeps is among them
among-kept : (p : Entry → Bool) (scope : Scope) (entry : Entry) (rest : List Entry) → filter p scope ≡ entry ∷ rest → Among scope entry.slot
among-kept p scope entry rest kept = let at = filter-member p scope entry rest kept in among-member scope at.0 at.1 entry at.2

own_kinds : (place : Place) (ref : ColRef) (entry : Entry) (w : Walk) (met : Met) (w' : Walk) → SettledAt w.numbers place → filter (fits ref) place.own ≡ entry ∷ []
    → own_column place.keys (written ref) entry w ≡ done met w' → ColumnKinds place w met w'
own_kinds place ref entry w met w' settled single same =
    let r = own_column-done place.keys (written ref) entry w met w' same in
    let uses = use_column-done entry w met w' (settled-member w.numbers place.own ref entry [] settled.0 single) r.1 in
    record {
      typed = λ aggs columns sees.
          kept-has (λ (e : Entry). Allowed place.keys e.slot → KindAt w'.numbers columns e) (fits ref) place.own entry [] sees.own single r.0 met.column.number.0 uses.numbers.number
          ∙ ap Some (sym uses.kind);
      unmet = λ unreached. sym (ap (λ (v : Walk). v.outer) uses.numbers.only);
      references = sym (ap (λ (v : Walk). v.references) uses.numbers.only);
      taken = sym (ap (λ (v : Walk). v.taken) uses.numbers.only);
      uses = use_column-adds (Used place) entry (used_own place entry.slot (among-kept (fits ref) place.own entry [] single)) w met w' r.1;
    }

reached_kinds : (place : Place) (ref : ColRef) (outer : Scope) (scopes : List Scope) (entry : Entry) (w : Walk) (met : Met) (w' : Walk) → SettledAll w.numbers place.outers
    → place.outers ≡ outer ∷ scopes → filter (fits ref) outer ≡ entry ∷ []
    → (reaches : Bool) → place.reaches ≡ reaches → reached reaches ref entry w ≡ done met w' → ColumnKinds place w met w'
reached_kinds place ref outer scopes entry w met w' settled outers single false reaches same = refused-done same
reached_kinds place ref outer scopes entry w met w' settled outers single true reaches same =
    let t = turn (meet_outer w) (λ u. use_column entry) met w' same in
    let walked = meet_outer-done w t.given t.between t.begins in
    let all = settled_all-grows (meet_outer-grows w t.given t.between t.begins) place.outers settled in
    let here : SettledIn (t.between).numbers outer = (subst (SettledAll (t.between).numbers) outers all).0 in
    let uses = use_column-done entry t.between met w' (settled-member (t.between).numbers outer ref entry [] here single) t.goes_on in
    let met_it : w'.outer ≡ true = sym (ap (λ (v : Walk). v.outer) uses.numbers.only) ∙ sym (ap (λ (v : Walk). v.outer) walked) in
    record {
      typed = λ aggs columns sees.
          let near : KindsOf w'.numbers columns outer = subst (NearKinds w'.numbers columns) outers (sees.near reaches met_it) in
          kept-has (KindAt w'.numbers columns) (fits ref) outer entry [] near single met.column.number.0 uses.numbers.number
          ∙ ap Some (sym uses.kind);
      unmet = λ unreached. absurd (true≢false (sym reaches ∙ unreached));
      references = sym (ap (λ (v : Walk). v.references) uses.numbers.only) ∙ sym (ap (λ (v : Walk). v.references) walked);
      taken = sym (ap (λ (v : Walk). v.taken) uses.numbers.only) ∙ sym (ap (λ (v : Walk). v.taken) walked);
      uses = adds-trans (Used place) (adds-same (Used place) (ap (λ (v : Walk). v.numbers) (sym walked)))
          (use_column-adds (Used place) entry
          (used_near place entry.slot reaches (subst (λ all. AmongNear all entry.slot) (sym outers) (among-kept (fits ref) outer entry [] single)))
          t.between met w' t.goes_on);
    }

near_kinds : (place : Place) (ref : ColRef) (w : Walk) (met : Met) (w' : Walk) → SettledAll w.numbers place.outers
    → (scopes : List Scope) → place.outers ≡ scopes → near_column place.reaches ref scopes w ≡ done met w' → ColumnKinds place w met w'
near_kinds place ref w met w' settled [] outers same = refused-done same
near_kinds place ref w met w' settled (outer ∷ scopes) outers same = by (filter (fits ref) outer) refl same
  where
    by : (entries : List Entry) → filter (fits ref) outer ≡ entries → near_match place.reaches ref scopes (found_of entries) w ≡ done met w' → ColumnKinds place w met w'
    by [] found same = refused-done same
    by (entry ∷ []) found same = reached_kinds place ref outer scopes entry w met w' settled outers found place.reaches refl same
    by (entry ∷ other ∷ others) found same = refused-done same

pub column_kinds : (place : Place) (ref : ColRef) (w : Walk) (met : Met) (w' : Walk) → SettledAt w.numbers place → column place ref w ≡ done met w' → ColumnKinds place w met w'
unfolding column
column_kinds place ref w met w' settled same = by (filter (fits ref) place.own) refl same
  where
    by : (entries : List Entry) → filter (fits ref) place.own ≡ entries → own_match place ref (found_of entries) w ≡ done met w' → ColumnKinds place w met w'
    by [] found same = near_kinds place ref w met w' settled.1 place.outers refl same
    by (entry ∷ []) found same = own_kinds place ref entry w met w' settled found same
    by (entry ∷ other ∷ others) found same = refused-done same

-- aggregates have their numbers when the walk goes on
made-later : {w w' : Walk} → Grows w w' → (aggs : List Agg) → AggsMade w.numbers aggs → AggsMade w'.numbers aggs
made-later {w} {w'} grows aggs made =
    all-map (λ (agg : Agg). position (same_slot (Made agg.out.0)) w.numbers ≡ Some agg.out.0) (λ (agg : Agg). position (same_slot (Made agg.out.0)) w'.numbers ≡ Some agg.out.0)
    (λ agg at. position-grows grows (Made agg.out.0) agg.out.0 at) aggs made

column_knows : (ref : ColRef) (place : Place) → Knowing HasKind place (column_expr place ref)
column_knows ref place w x w' proper settled same =
    let made = mapped (column place ref w) met_typed x w' same in
    let met = made.given in
    let g = column-gives place ref w met w' settled made.begins in
    let kinds = column_kinds place ref w met w' settled made.begins in
    let here : Knows HasKind place w (met_typed met) w' = record {
      grows = g.grows;
      met = g.outer;
      typed = λ aggs begins columns sees. kind_col columns met.column.number ∙ kinds.typed aggs columns sees;
      aggs = λ unreached rows own before. subst (AggsTyped rows) (sym g.kept) before;
      made = λ before. subst (AggsMade w'.numbers) (sym g.kept) (made-later g.grows w.aggs before);
      unmet = kinds.unmet;
      references = kinds.references;
      taken = kinds.taken;
      uses = kinds.uses;
    } in
    subst (λ y. Knows HasKind place w y w') (sym made.makes) here

-- ---- literals

literal_knows : (k : Kind) (v : Value) → literal_kind v ≡ Some k → (place : Place) → Knowing HasKind place (pure (typed k (scalar.Lit v)))
literal_knows k v is place w x w' proper settled same =
    let here : Knows HasKind place w (typed k (scalar.Lit v)) w = knows_pure w (λ columns. kind_lit columns v ∙ is) in
    subst (λ y. Knows HasKind place w y w') (done-value same) (subst (λ v'. Knows HasKind place w (typed k (scalar.Lit v)) v') (done-walk same) here)

text_kind : (t : List ℕ) → leb (length t) MOST_TEXT_BYTES ≡ true → literal_kind (value.Text t) ≡ Some kind.Text
text_kind t short = ap (λ b. if b then Some kind.Text else None) short

-- ---- signs

sign_kind : (minus : Bool) (x : Typed) (columns : Columns) → same_kind kind.Int x.kind ≡ true → HasKind x columns → scalar_kind columns (with_sign minus x.scalar) ≡ Some kind.Int
sign_kind true x columns same has = kind_neg columns x.scalar ∙ ap number_if (int_number x columns same has)
sign_kind false x columns same has = int_kind x columns same has

signed_goes_on : (minus : Bool) (place : Place) → GoesOn HasKind place (signed minus) HasKind
unfolding signed
signed_goes_on minus place =
    ends_checked HasKind place (λ x. typed kind.Int (with_sign minus x.scalar)) (λ x. not (list_all (λ (z : Typed). same_kind kind.Int z.kind) (x ∷ []))) TypeMismatch
    (λ x tested columns has. sign_kind minus x columns (and_parts _ _ (not-false _ tested)).0 has)

signed_knows : (minus : Bool) (walk : Place → Step Typed) (place : Place) → Knowing HasKind place (walk place) → Knowing HasKind place (walk place >>= signed minus)
signed_knows minus walk place x = knowing_then HasKind place (walk place) (signed minus) x (signed_goes_on minus place)

-- ---- chains

-- an operator's right operand has its kind
abbrev LinkHasKind : Arith × Typed → Columns → Type 0
LinkHasKind link columns = HasKind link.1 columns

operand_knows : (place : Place) (link : Arith × (Place → Step Typed)) → Knowing HasKind place (link.1 place) → Knowing LinkHasKind place (operand place link)
operand_knows place link knowing w y w' proper settled same =
    let made = mapped (link.1 place w) (λ x. (link.0, x)) y w' same in
    subst (λ z. Knows LinkHasKind place w z w') (sym made.makes) (knows_made (λ columns has. has) (knowing w made.given w' proper settled made.begins))

abbrev link_scalars : List (Arith × Typed) → List (Arith × Scalar)
link_scalars links = map (λ link. (link.0, link.1.scalar)) links

links_numbers : (links : List (Arith × Typed)) (columns : Columns) → list_all (λ link. same_kind kind.Int link.1.kind) links ≡ true → Every LinkHasKind links columns
    → list_all (λ link. is_number (scalar_kind columns link.1)) (link_scalars links) ≡ true
links_numbers [] columns same has = refl
links_numbers (link ∷ links) columns same has =
    let parts = and_parts _ _ same in
    and_from _ _ (int_number link.1 columns parts.0 has.0) (links_numbers links columns parts.1 has.1)

chain_kind : (first : Typed) (links : List (Arith × Typed)) (columns : Columns) → are_numbers first links ≡ true → HasKind first columns → Every LinkHasKind links columns
    → scalar_kind columns (scalar.Chain first.scalar (link_scalars links)) ≡ Some kind.Int
chain_kind first links columns same has all =
    let parts = and_parts _ _ same in
    kind-chain columns first.scalar (link_scalars links)
    ∙ ap number_if (and_from _ _ (int_number first columns parts.0 has) (links_numbers links columns parts.1 all))

abbrev LinkEvery : List (Arith × Typed) → Columns → Type 0
LinkEvery = Every LinkHasKind

chain_knows : (walk : Place → Step Typed) (links : List (Arith × (Place → Step Typed))) (place : Place) → Knowing HasKind place (walk place)
    → AllByRecursion (λ link. Knowing HasKind place (link.1 place)) links → Knowing HasKind place (chain walk links place)
unfolding chained
chain_knows walk links place first rest =
    knowing_then HasKind place (walk place) (λ start. each (operand place) links >>= chained start) first
    (goes_on_then HasKind place LinkEvery (each (operand place) links) chained
    (each_knows LinkHasKind place (operand place) links (all-map (λ (link : Arith × (Place → Step Typed)). Knowing HasKind place (link.1 place)) (StepKnows LinkHasKind place (operand place)) (operand_knows place) links rest))
    (ends_checked (λ (both : Typed × List (Arith × Typed)) columns. HasKind both.0 columns × LinkEvery both.1 columns) place
    (λ both. typed kind.Int (scalar.Chain both.0.scalar (link_scalars both.1))) (λ both. not (are_numbers both.0 both.1)) TypeMismatch
    (λ both tested columns has. chain_kind both.0 both.1 columns (not-false _ tested) has.0 has.1)))

-- ---- aggregates

-- the next number, and an aggregate of this number
record AggregateMade (aggregate : AggKind) (argument : Kind) (x : Option Scalar) (w : Walk) (y : Typed) (w' : Walk) : Type 0 where
  column : Numbered
  typed_as : y ≡ column_typed (walk.aggregate_kind aggregate argument) column
  grows : Grows w w'
  aggs : w'.aggs ≡ w.aggs ++ record { kind = aggregate; arg = x; out = column.number } ∷ []
  -- it has the next number, and so have those before it theirs
  stands : Proper w.numbers → position (same_slot (Made column.number.0)) w'.numbers ≡ Some column.number.0
  adds : w'.numbers ≡ w.numbers ++ Made (length w.numbers) ∷ []
  outer : w'.outer ≡ w.outer
  references : w'.references ≡ w.references
  taken : w'.taken ≡ w.taken

aggregate-grows : (w w' : Walk) (agg : Agg) → agg.out ≡ col_id (length w.numbers) → w'.numbers ≡ w.numbers ++ Made (length w.numbers) ∷ [] → w'.references ≡ w.references
    → (Proper w.numbers → Proper w'.numbers) → w'.aggs ≡ w.aggs ++ agg ∷ [] → Grows w w'
aggregate-grows w w' agg out numbers references proper aggs = record {
  added = Made (length w.numbers) ∷ [];
  numbers = numbers;
  references = subst (λ n. w.references ≤ n) (sym references) (le_refl w.references);
  proper = proper;
  new_aggs = agg ∷ [];
  aggs = aggs;
  made = record {
    low = (let h = ap (λ (c : ColId). c.0) out in omega arith, tt);
    high = (let h = ap (λ (c : ColId). c.0) out in let is = ap length numbers in let long = length-append w.numbers (Made (length w.numbers) ∷ []) in omega arith, tt);
    rising = λ i j d before within. absurd (let h : j < 1 = within in omega arith);
  };
}

made_aggregate-made : (aggregate : AggKind) (argument : Kind) (x : Option Scalar) (w : Walk) (y : Typed) (w' : Walk) → made_aggregate aggregate argument x w ≡ done y w' → AggregateMade aggregate argument x w y w'
unfolding made_aggregate
made_aggregate-made aggregate argument x w y w' same =
    let t = turn (made_number w) (λ column. add_aggregate (record { kind = aggregate; arg = x; out = column.number }) >> pure (column_typed (walk.aggregate_kind aggregate argument) column)) y w' same in
    let column = t.given in
    let made = made_number-done w column t.between t.begins in
    let agg : Agg = record { kind = aggregate; arg = x; out = column.number } in
    let u = turn (add_aggregate agg t.between) (λ n. pure (column_typed (walk.aggregate_kind aggregate argument) column)) y w' t.goes_on in
    let here : with_aggs ((t.between).aggs ++ agg ∷ []) t.between ≡ w' = add_aggregate-done agg t.between u.given u.between u.begins ∙ done-walk u.goes_on in
    let numbers = sym (ap (λ (v : Walk). v.numbers) here) ∙ ap (λ (v : Walk). v.numbers) (sym made.walk) in
    let aggs = sym (ap (λ (v : Walk). v.aggs) here) ∙ ap (λ (v : Walk). v.aggs ++ agg ∷ []) (sym made.walk) in
    let references = sym (ap (λ (v : Walk). v.references) here) ∙ ap (λ (v : Walk). v.references) (sym made.walk) in
    record {
      column = column;
      typed_as = sym (done-value u.goes_on);
      grows = aggregate-grows w w' agg made.number numbers references (λ p. subst (λ (v : Walk). Proper v.numbers) here ((made.grows).proper p)) aggs;
      aggs = aggs;
      stands = λ p.
          ap (λ (v : Walk). position (same_slot (Made column.number.0)) v.numbers) (sym here)
          ∙ subst (λ (c : ColId). position (same_slot (Made c.0)) (t.between).numbers ≡ Some c.0) (sym made.number) (made.stands p);
      adds = numbers;
      outer = sym (ap (λ (v : Walk). v.outer) here) ∙ ap (λ (v : Walk). v.outer) (sym made.walk);
      references = references;
      taken = sym (ap (λ (v : Walk). v.taken) here) ∙ ap (λ (v : Walk). v.taken) (sym made.walk);
    }

-- the aggregate has the walk's kind over columns of FROM
abbrev KindOver : AggKind → Kind → Option Scalar → Place → Walk → Type 0
KindOver aggregate argument x place w =
    place.reaches ≡ false → (rows : Columns) → KindsOf w.numbers rows place.own → aggregate_kind_by rows aggregate x ≡ Some (walk.aggregate_kind aggregate argument)

-- an aggregate that was made stands among the columns of a grouped query
aggregate_at : (rows columns : Columns) (before aggs : List Agg) (agg : Agg) → AllByRecursion (λ agg. kind_at columns agg.out ≡ numbered.aggregate_kind rows agg) aggs → BeginsWith (before ++ agg ∷ []) aggs
    → kind_at columns agg.out ≡ numbered.aggregate_kind rows agg
aggregate_at rows columns before aggs agg all begins =
    let P : Agg → Type 0 = λ agg. kind_at columns agg.out ≡ numbered.aggregate_kind rows agg in
    let parts : AllByRecursion P ((before ++ agg ∷ []) ++ begins.0) = subst (AllByRecursion P) begins.1 all in
    (all-right P before (agg ∷ []) (all-left P (before ++ agg ∷ []) begins.0 parts)).0

-- where nothing is said of what was walked
abbrev Nothing : {A : Type 0} → A → Columns → Type 0
Nothing a columns = ⊤

made_knows : {A : Type 0} {a : A} (aggregate : AggKind) (argument : Kind) (x : Option Scalar) (place : Place) (keys : List Slot) (w v : Walk) (y : Typed) (w' : Walk) → place.keys ≡ Some keys → Proper v.numbers
    → Knows Nothing place w a v → KindOver aggregate argument x place v → AggregateMade aggregate argument x v y w' → Knows HasKind place w y w'
made_knows aggregate argument x place keys w v y w' grouped proper before over made =
    subst (λ z. Knows HasKind place w z w') (sym made.typed_as) here
  where
    agg : Agg
    agg = record { kind = aggregate; arg = x; out = made.column.number }

    own_kinds_at : (rows : Columns) → KindsOf w'.numbers rows place.own → KindsOf v.numbers rows place.own
    own_kinds_at rows = kinds_of-fewer v.numbers w'.numbers (extends-grows made.grows) rows place.own

    rows_kind : place.reaches ≡ false → (rows : Columns) → KindsOf w'.numbers rows place.own → numbered.aggregate_kind rows agg ≡ Some (walk.aggregate_kind aggregate argument)
    rows_kind unreached rows kinds = over unreached rows (own_kinds_at rows kinds)

    all_typed : place.reaches ≡ false → (rows : Columns) → KindsOf w'.numbers rows place.own → AggsTyped rows w.aggs → AggsTyped rows w'.aggs
    all_typed unreached rows kinds typed = subst (AggsTyped rows) (sym made.aggs)
        (all-append (λ (agg : Agg). is_some (numbered.aggregate_kind rows agg) ≡ true) v.aggs (agg ∷ []) (before.aggs unreached rows (own_kinds_at rows kinds) typed) (ap is_some (rows_kind unreached rows kinds), tt))

    all_made : AggsMade w.numbers w.aggs → AggsMade w'.numbers w'.aggs
    all_made earlier = subst (AggsMade w'.numbers) (sym made.aggs)
        (all-append (λ (agg : Agg). position (same_slot (Made agg.out.0)) w'.numbers ≡ Some agg.out.0) v.aggs (agg ∷ []) (made-later made.grows v.aggs (before.made earlier)) (made.stands proper, tt))

    here : Knows HasKind place w (column_typed (walk.aggregate_kind aggregate argument) made.column) w'
    here = record {
      grows = grows-trans before.grows made.grows;
      met = λ h. made.outer ∙ before.met h;
      typed = λ aggs begins columns sees.
          let g : GroupKinds w'.numbers place columns aggs = subst (GroupKindsIn w'.numbers place columns aggs) grouped sees.grouped in
          kind_col columns made.column.number
          ∙ (aggregate_at g.rows columns v.aggs aggs agg g.aggregates (subst (λ first. BeginsWith first aggs) made.aggs begins)
          ∙ rows_kind g.unreached g.rows g.own);
      aggs = all_typed;
      made = all_made;
      unmet = λ unreached. made.outer ∙ before.unmet unreached;
      references = made.references ∙ before.references;
      taken = made.taken ∙ before.taken;
      uses = adds-trans (Used place) before.uses (adds-one (Used place) (Made (length v.numbers)) made.adds tt);
    }

keys-some : (keys : Option (List Slot)) → is_none keys ≡ false → (some : List Slot) × (keys ≡ Some some)
keys-some (Some keys) same = (keys, refl)
keys-some None same = absurd (true≢false same)

count_kind : (aggregate : AggKind) (rows : Columns) → counts_rows aggregate ≡ true → aggregate_kind_by rows aggregate None ≡ Some (walk.aggregate_kind aggregate kind.Int)
count_kind aggregate.CountStar rows counts = refl
count_kind aggregate.Count rows counts = absurd (true≢false (sym counts))
count_kind aggregate.Sum rows counts = absurd (true≢false (sym counts))
count_kind aggregate.Min rows counts = absurd (true≢false (sym counts))
count_kind aggregate.Max rows counts = absurd (true≢false (sym counts))

count_knows : (aggregate : AggKind) → counts_rows aggregate ≡ true → (place : Place) → Knowing HasKind place (aggregated aggregate None place)
count_knows aggregate counts place w y w' proper settled same =
    let r = refuse_if-then (is_none place.keys) AggregatePlace (made_aggregate aggregate kind.Int None) w y w' same in
    let keys = keys-some place.keys r.0 in
    let before : Knows Nothing place w kind.Int w = knows_pure w (λ columns. tt) in
    made_knows aggregate kind.Int None place keys.0 w w y w' keys.1 proper before (λ unreached rows kinds. count_kind aggregate rows counts) (made_aggregate-made aggregate kind.Int None w y w' r.1)

-- SUM is of numbers
abbrev Summed : AggKind → Kind → Type 0
Summed aggregate.Sum k = k ≡ kind.Int
Summed _ k = ⊤

over_kind : (aggregate : AggKind) (k : Kind) → not (counts_rows aggregate) ≡ true → Summed aggregate k → kind_over aggregate (Some k) ≡ Some (walk.aggregate_kind aggregate k)
over_kind aggregate.CountStar k counts summed = absurd (true≢false (sym counts))
over_kind aggregate.Count k counts summed = refl
over_kind aggregate.Sum k counts summed = ap (λ k. number_if (is_number (Some k))) summed
over_kind aggregate.Min k counts summed = refl
over_kind aggregate.Max k counts summed = refl

fits-then : (aggregate : AggKind) (x : Typed) (after : Step Typed) (w : Walk) (y : Typed) (w' : Walk) → and_then (argument_fits aggregate x w) (λ u. after) ≡ done y w'
    → Summed aggregate x.kind × (after w ≡ done y w')
fits-then aggregate.Sum x after w y w' same =
    let r = refuse_if-then (not (list_all (λ z. same_kind kind.Int z.kind) (x ∷ []))) TypeMismatch after w y w' same in
    (is_int x.kind (and_parts _ _ (not-false _ r.0)).0, r.1)
fits-then aggregate.CountStar x after w y w' same = (tt, same)
fits-then aggregate.Count x after w y w' same = (tt, same)
fits-then aggregate.Min x after w y w' same = (tt, same)
fits-then aggregate.Max x after w y w' same = (tt, same)

aggregate_of-made : (aggregate : AggKind) (x : Typed) (w : Walk) (y : Typed) (w' : Walk) → aggregate_of aggregate x w ≡ done y w'
    → Summed aggregate x.kind × AggregateMade aggregate x.kind (Some x.scalar) w y w'
unfolding aggregate_of
aggregate_of-made aggregate x w y w' same =
    let r = fits-then aggregate x (made_aggregate aggregate x.kind (Some x.scalar)) w y w' same in
    (r.0, made_aggregate-made aggregate x.kind (Some x.scalar) w y w' r.1)

-- columns of FROM have what an aggregate's argument may use
argument_sees : (numbers : List Slot) (aggs : List Agg) (met : Bool) (place : Place) (rows : Columns) → place.reaches ≡ false → KindsOf numbers rows place.own → Sees numbers aggs met (argument_place place) rows
argument_sees numbers aggs met place rows unreached kinds = record {
  own = all-map (KindAt numbers rows) (λ entry. Allowed None entry.slot → KindAt numbers rows entry) (λ entry kinds allowed. kinds) place.own kinds;
  near = λ reaches met. absurd (true≢false (sym reaches ∙ unreached));
  grouped = tt;
}

argument_used : (place : Place) (slot : Slot) → Used (argument_place place) slot → Used place slot
argument_used place (Base reference column) used = used
argument_used place (Made n) used = tt

-- the argument's walk, at the place of its aggregate
argument_before : {place : Place} {w : Walk} {x : Typed} {v : Walk} → Knows HasKind (argument_place place) w x v → Knows Nothing place w x v
argument_before {place} knows = record {
  grows = knows.grows;
  met = knows.met;
  typed = λ aggs begins columns sees. tt;
  aggs = knows.aggs;
  made = knows.made;
  unmet = knows.unmet;
  references = knows.references;
  taken = knows.taken;
  uses = adds-map (Used (argument_place place)) (Used place) (argument_used place) knows.uses;
}

argument_knows : (aggregate : AggKind) (x : Place → Step Typed) → not (counts_rows aggregate) ≡ true → (place : Place) → Knowing HasKind (argument_place place) (x (argument_place place))
    → Knowing HasKind place (aggregated aggregate (Some x) place)
argument_knows aggregate x counts place argument w y w' proper settled same =
    let r = refuse_if-then (is_none place.keys) AggregatePlace (x (argument_place place) >>= aggregate_of aggregate) w y w' same in
    let keys = keys-some place.keys r.0 in
    let t = turn (x (argument_place place) w) (aggregate_of aggregate) y w' r.1 in
    let knows = argument w t.given t.between proper settled t.begins in
    let made = aggregate_of-made aggregate t.given t.between y w' t.goes_on in
    made_knows aggregate (t.given).kind (Some (t.given).scalar) place keys.0 w t.between y w' keys.1 ((knows.grows).proper proper) (argument_before knows)
    (λ unreached rows kinds.
    ap (kind_over aggregate) (knows.typed (t.between).aggs (begins-itself (t.between).aggs) rows (argument_sees (t.between).numbers (t.between).aggs (t.between).outer place rows unreached kinds))
    ∙ over_kind aggregate (t.given).kind counts made.0)
    made.1

-- ---- any expression

abbrev ExprKnows : SqlExpr → Type 0
ExprKnows x = expr_written x ≡ true → (place : Place) → Knowing HasKind place (expr x place)

abbrev Known : Type 0
Known = (x : SqlExpr) × ExprKnows x

abbrev known : SqlExpr-F Known → SqlExpr-F SqlExpr
known = map-SqlExpr Known SqlExpr (λ x. x.0)

links_know : (place : Place) (h : Arith × Known → Arith × SqlExpr) (g : Arith × SqlExpr → Arith × Bool) (g' : Arith × SqlExpr → Arith × (Place → Step Typed))
    → ((link : Arith × Known) → (g (h link)).1 ≡ true → Knowing HasKind place ((g' (h link)).1 place)) → (links : List (Arith × Known))
    → list_all (λ link. link.1) (map g (map h links)) ≡ true → AllByRecursion (λ link. Knowing HasKind place (link.1 place)) (map g' (map h links))
links_know place h g g' one [] all = tt
links_know place h g g' one (link ∷ links) all =
    let parts = and_parts _ _ all in
    (one link parts.0, links_know place h g g' one links parts.1)

layer : (y : SqlExpr-F Known) → expr_written_step (map-SqlExpr SqlExpr Bool expr_written (known y)) ≡ true
    → (place : Place) → Knowing HasKind place (expr_step (map-SqlExpr SqlExpr (Place → Step Typed) expr (known y)) place)
layer (SqlExpr-F.Col ref) written place = column_knows ref place
layer (SqlExpr-F.Number n) written place = literal_knows kind.Int (value.Int n) refl place
layer (SqlExpr-F.Text t) written place = literal_knows kind.Text (value.Text t) (text_kind t written) place
layer (SqlExpr-F.Signed minus x) written place = signed_knows minus (expr x.0) place (x.1 written place)
layer (SqlExpr-F.Chain first rest) written place =
    let parts = and_parts _ _ written in
    chain_knows (expr first.0) _ place (first.1 parts.0 place) (links_know place _ _ _ (λ link here. link.1.1 here place) rest parts.1)
layer (SqlExpr-F.Agg aggregate None) written place = count_knows aggregate written place
layer (SqlExpr-F.Agg aggregate (Some x)) written place =
    let parts = and_parts _ _ written in
    argument_knows aggregate (expr x.0) parts.0 place (x.1 parts.1 (argument_place place))
layer (SqlExpr-F.Paren x) written place = x.1 written place

pub expr_knows : (x : SqlExpr) → ExprKnows x
expr_knows = ind-SqlExpr ExprKnows (λ x y is. subst (λ z. ExprKnows (roll-SqlExpr z)) is (λ written place.
    subst (λ (walk : Place → Step Typed). Knowing HasKind place (walk place)) (sym (fold-roll-SqlExpr (Place → Step Typed) expr_step (known y)))
    (layer y (sym (fold-roll-SqlExpr Bool expr_written_step (known y)) ∙ written) place)))

pub expr_sound : (x : SqlExpr) → expr_written x ≡ true → ExprSound (expr x)
expr_sound x written = record {
  meaning = named.value_of x;
  means = expr-means x;
  kinds = λ place w y w' proper settled same. knows_expr (expr_knows x written place w y w' proper settled same);
}
