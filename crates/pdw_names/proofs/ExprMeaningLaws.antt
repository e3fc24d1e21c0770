-- Value expressions: what the walk makes of one has the value that the names give it.
use Rattle.std.proofs.Common.{◌≡◌, ℕ, ◌<◌, Bool, true, false, true≢false, not, List, [], ◌∷◌, ◌++◌, length, map, fold, Option, Some, None, is_none, position, refl, sym, ap, ap₂, subst, ◌∙◌, le_refl, length-append, arith}
use Rattle.std.specs.List.{AllByRecursion, list_all}
use Rattle.pdw_syntax.specs.declared.expr.ColRef.{ColRef}
use Rattle.pdw_syntax.specs.declared.expr.SqlExpr.{SqlExpr}
use Rattle.pdw_syntax.specs.declared.expr.SqlExpr.TheOpen.{SqlExpr-F}
use Rattle.pdw_syntax.specs.declared.expr.SqlExpr.TheViews.{roll-SqlExpr}
use Rattle.pdw_syntax.specs.declared.expr.SqlExpr.TheFolds.{fold-roll-SqlExpr, ind-SqlExpr, map-SqlExpr}
use Rattle.pdw_base.specs.Schema.{Env}
use Rattle.pdw_base.specs.declared.schema.ColId.{ColId}
use Rattle.pdw_base.specs.declared.value.Kind.{Kind}
use Rattle.pdw_base.specs.declared.value.Kind.TheVariants as kind
use Rattle.pdw_base.specs.declared.value.Value.{Value}
use Rattle.pdw_base.specs.declared.value.Value.TheVariants as value
use Rattle.pdw_expr.specs.Aggregate.{aggregated}
use Rattle.pdw_expr.specs.Arithmetic.{computed, negated}
use Rattle.pdw_expr.specs.Rows as rows
use Rattle.pdw_expr.specs.Scalar.{value_of, value_step}
use Rattle.pdw_expr.specs.declared.agg.Agg.{Agg}
use Rattle.pdw_expr.specs.declared.agg.AggKind.{AggKind}
use Rattle.pdw_expr.specs.declared.agg.AggKind.TheVariants.{Sum}
use Rattle.pdw_expr.specs.declared.scalar.Arith.{Arith}
use Rattle.pdw_expr.specs.declared.scalar.Scalar.{Scalar}
use Rattle.pdw_expr.specs.declared.scalar.Scalar.TheOpen.{Scalar-F}
use Rattle.pdw_expr.specs.declared.scalar.Scalar.TheFolds.{fold-roll-Scalar}
use Rattle.pdw_expr.specs.declared.scalar.Scalar.TheVariants as scalar
use Rattle.pdw_names.proofs.LookupLaws.{column-gives}
use Rattle.pdw_form.proofs.Related.{Related, related-same}
use Rattle.pdw_form.proofs.Related as related
use Rattle.pdw_names.proofs.Relations.{BareAt, BeginsWith, ExprGives, ExprMeans, Fits, GroupOf, GroupedIn, Grows, Numbering, Proper, SettledAt, Source, Stands}
use Rattle.pdw_names.proofs.WalkLaws.{Chain, Takes, add_aggregate-done, all-left, all-right, begins-grows, begins-itself, each-chain, ends, fits-grows, grows-length, grows-refl, grows-trans, made_number-done, mapped, next, none-some, proper-push, next-fresh, refuse_if-then, done-value, done-walk, settled_at-grows, some-is, turn}
use Rattle.pdw_semantics.specs.Environment.{Group, alone, environment, looked_up}
use Rattle.pdw_semantics.specs.Exprs as meaning
use Rattle.pdw_walk.specs.Exprs.{aggregate_kind, aggregate_of, aggregated as aggregated_walk, are_numbers, argument_fits, argument_place, chain, chained, column_expr, column_typed, expr, expr_step, made_aggregate, met_typed, operand, same_kind, signed, typed, with_sign}
use Rattle.pdw_walk.specs.Lookup.{Place, column}
use Rattle.pdw_walk.specs.Slot.{same_slot}
use Rattle.pdw_walk.specs.Walk.{Step, Walk, ◌>>=◌, ◌>>◌, add_aggregate, and_then, col_id, done, each, made_number, pure, with_aggs, with_numbers}
use Rattle.pdw_walk.specs.declared.entry.Numbered.{Numbered}
use Rattle.pdw_walk.specs.declared.entry.Slot.{Slot}
use Rattle.pdw_walk.specs.declared.entry.Slot.TheVariants.{Made}
use Rattle.pdw_walk.specs.declared.entry.Typed.{Typed}
use Rattle.pdw_walk.specs.declared.fault.JudgeFault.TheVariants.{TypeMismatch, AggregatePlace}

-- ---- values of numbered expressions

pub value-col : (c : ColId) (m : Env) → value_of (scalar.Col c) m ≡ m c
value-col c m = ap (λ f. f m) (ap value_of (sym (scalar.rolls-Col c)) ∙ fold-roll-Scalar (Env → Value) value_step (Scalar-F.Col c))

pub value-lit : (v : Value) (m : Env) → value_of (scalar.Lit v) m ≡ v
value-lit v m = ap (λ f. f m) (ap value_of (sym (scalar.rolls-Lit v)) ∙ fold-roll-Scalar (Env → Value) value_step (Scalar-F.Lit v))

pub value-neg : (x : Scalar) (m : Env) → value_of (scalar.Neg x) m ≡ negated (value_of x m)
value-neg x m = ap (λ f. f m) (ap value_of (sym (scalar.rolls-Neg x)) ∙ fold-roll-Scalar (Env → Value) value_step (Scalar-F.Neg x))

links-value : (g : Arith × Scalar → Arith × (Env → Value)) → ((link : Arith × Scalar) → g link ≡ (link.0, value_of link.1)) → (links : List (Arith × Scalar)) (m : Env) (start : Value)
    → fold (λ value link. computed link.0 value (link.1 m)) start (map g links) ≡ fold (λ value link. computed link.0 value (value_of link.1 m)) start links
links-value g is [] m start = refl
links-value g is (link ∷ links) m start =
    ap (λ (l : Arith × (Env → Value)). fold (λ value link. computed link.0 value (link.1 m)) (computed l.0 start (l.1 m)) (map g links)) (is link)
    ∙ links-value g is links m (computed link.0 start (value_of link.1 m))

pub value-chain : (first : Scalar) (rest : List (Arith × Scalar)) (m : Env) → value_of (scalar.Chain first rest) m ≡ fold (λ value link. computed link.0 value (value_of link.1 m)) (value_of first m) rest
value-chain first rest m =
    ap (λ f. f m) (ap value_of (sym (scalar.rolls-Chain first rest)) ∙ fold-roll-Scalar (Env → Value) value_step (Scalar-F.Chain first rest))
    ∙ links-value _ (λ link. refl) rest m (value_of first m)

-- ---- what the walk of an expression keeps

pub record Keeps (place : Place) (w w' : Walk) : Type 0 where
  pub grows : Grows w w'
  pub met : w.outer ≡ true → w'.outer ≡ true
  pub plain : place.keys ≡ None → w'.aggs ≡ w.aggs

pub keeps-refl : (place : Place) (w : Walk) → Keeps place w w
keeps-refl place w = record { grows = grows-refl w; met = λ h. h; plain = λ h. refl }

pub keeps-is : (place : Place) {w w' : Walk} → w ≡ w' → Keeps place w w'
keeps-is place {w} same = subst (Keeps place w) same (keeps-refl place w)

pub keeps-trans : {place : Place} {a b c : Walk} → Keeps place a b → Keeps place b c → Keeps place a c
keeps-trans first second = record {
  grows = grows-trans first.grows second.grows;
  met = λ h. second.met (first.met h);
  plain = λ h. second.plain h ∙ first.plain h;
}

pub gives-keeps : {place : Place} {value : Group → Value} {w : Walk} {x : Typed} {w' : Walk} → ExprGives place value w x w' → Keeps place w w'
gives-keeps g = record { grows = g.grows; met = g.met; plain = g.plain }

pub stands-before : {N : Numbering} {place : Place} {met met' : Bool} {group : Group} {m : Env} {aggs : List Agg} → (met ≡ true → met' ≡ true) → Stands N place met' group m aggs → Stands N place met group m aggs
stands-before later stands = record {
  own = stands.own;
  near = λ reaches met. stands.near reaches (later met);
  grouped = stands.grouped;
}

-- the value of an operand, at the end of a walk that goes on after it
pub means-later : {place : Place} {value : Group → Value} {w : Walk} {x : Typed} {v w' : Walk} → ExprGives place value w x v → Keeps place v w'
    → (N : Numbering) → Fits N w'.numbers → (aggs : List Agg) → BeginsWith w'.aggs aggs → (group : Group) (m : Env) → Stands N place w'.outer group m aggs → value group ≡ value_of x.scalar m
means-later g keeps N fit aggs begins group m stands =
    g.means N (fits-grows N fit keeps.grows) aggs (begins-grows begins keeps.grows) group m (stands-before keeps.met stands)

-- ---- columns and literals

pub column-means : (ref : ColRef) → ExprMeans (λ place. column_expr place ref) (λ group. looked_up ref (environment group))
column-means ref = record { gives = gives }
  where
    gives : (place : Place) (w : Walk) (x : Typed) (w' : Walk) → Proper w.numbers → SettledAt w.numbers place → column_expr place ref w ≡ done x w'
        → ExprGives place (λ group. looked_up ref (environment group)) w x w'
    gives place w x w' proper settled same =
        let made = mapped (column place ref w) met_typed x w' same in
        let met = made.given in
        let g = column-gives place ref w met w' settled made.begins in
        let here : ExprGives place (λ group. looked_up ref (environment group)) w (met_typed met) w' = record {
          grows = g.grows;
          met = g.outer;
          plain = λ h. g.kept;
          bare = λ column is. subst (BareAt place w w' (met_typed met)) (some-is is) (record { scalar = refl; number = g.number; source = g.source });
          means = λ N fit aggs begins group m stands. g.means N fit aggs group m stands ∙ sym (value-col met.column.number m);
        } in
        subst (λ y. ExprGives place (λ group. looked_up ref (environment group)) w y w') (sym made.makes) here

pub literal-means : (k : Kind) (v : Value) → ExprMeans (λ place. pure (typed k (scalar.Lit v))) (λ group. v)
literal-means k v = record { gives = gives }
  where
    gives : (place : Place) (w : Walk) (x : Typed) (w' : Walk) → Proper w.numbers → SettledAt w.numbers place → pure (typed k (scalar.Lit v)) w ≡ done x w' → ExprGives place (λ group. v) w x w'
    gives place w x w' proper settled same =
        let keeps = keeps-is place (done-walk same) in
        let here : ExprGives place (λ group. v) w (typed k (scalar.Lit v)) w' = record {
          grows = keeps.grows;
          met = keeps.met;
          plain = keeps.plain;
          bare = λ column is. none-some is;
          means = λ N fit aggs begins group m stands. sym (value-lit v m);
        } in
        subst (λ y. ExprGives place (λ group. v) w y w') (done-value same) here

-- ---- signs

sign-value : (minus : Bool) (x : Scalar) (v : Value) (m : Env) → v ≡ value_of x m → meaning.signed minus v ≡ value_of (with_sign minus x) m
sign-value true x v m same = ap negated same ∙ sym (value-neg x m)
sign-value false x v m same = same

signed-done : (minus : Bool) (x : Typed) (w : Walk) (y : Typed) (w' : Walk) → signed minus x w ≡ done y w' → (typed kind.Int (with_sign minus x.scalar) ≡ y) × (w ≡ w')
unfolding signed
signed-done minus x w y w' same =
    let r = (refuse_if-then (not (list_all (λ z. same_kind kind.Int z.kind) (x ∷ []))) TypeMismatch (pure (typed kind.Int (with_sign minus x.scalar))) w y w' same).1 in
    (done-value r, done-walk r)

pub signed-means : (minus : Bool) {walk : Place → Step Typed} {value : Group → Value} → ExprMeans walk value → ExprMeans (λ place. walk place >>= signed minus) (λ group. meaning.signed minus (value group))
signed-means minus {walk} {value} x = record { gives = gives }
  where
    gives : (place : Place) (w : Walk) (y : Typed) (w' : Walk) → Proper w.numbers → SettledAt w.numbers place → (walk place >>= signed minus) w ≡ done y w'
        → ExprGives place (λ group. meaning.signed minus (value group)) w y w'
    gives place w y w' proper settled same =
        let t = turn (walk place w) (signed minus) y w' same in
        let g = x.gives place w t.given t.between proper settled t.begins in
        let r = signed-done minus t.given t.between y w' t.goes_on in
        let after = keeps-is place r.1 in
        let keeps = keeps-trans (gives-keeps g) after in
        let here : ExprGives place (λ group. meaning.signed minus (value group)) w (typed kind.Int (with_sign minus (t.given).scalar)) w' = record {
          grows = keeps.grows;
          met = keeps.met;
          plain = keeps.plain;
          bare = λ column is. none-some is;
          means = λ N fit aggs begins group m stands. sign-value minus (t.given).scalar (value group) m (means-later g after N fit aggs begins group m stands);
        } in
        subst (λ z. ExprGives place (λ group. meaning.signed minus (value group)) w z w') r.0 here

-- ---- chains

module _ {X Y : Type 0} {R : X → Y → Type 0} where
  related_head : {x : X} {y : Y} {xs : List X} {ys : List Y} → Related R (x ∷ xs) (y ∷ ys) → R x y
  related_head (related.more first rest) = first

  related_tail : {x : X} {y : Y} {xs : List X} {ys : List Y} → Related R (x ∷ xs) (y ∷ ys) → Related R xs ys
  related_tail (related.more first rest) = rest

  related_none : {B : Type 0} {y : Y} {ys : List Y} → Related R [] (y ∷ ys) → B
  related_none r = elim r [ ]

  related_none' : {B : Type 0} {x : X} {xs : List X} → Related R (x ∷ xs) [] → B
  related_none' r = elim r [ ]

-- an operator with its operand
pub record LinkMeans (link : Arith × (Place → Step Typed)) (meant : Arith × (Group → Value)) : Type 0 where
  pub operator : link.0 ≡ meant.0
  pub operand : ExprMeans link.1 meant.1

abbrev meant_chain : List (Arith × (Group → Value)) → Group → Value → Value
meant_chain links group start = fold (λ value link. computed link.0 value (link.1 group)) start links

abbrev link_scalars : List (Arith × Typed) → List (Arith × Scalar)
link_scalars links = map (λ link. (link.0, link.1.scalar)) links

abbrev computed_chain : List (Arith × Typed) → Env → Value → Value
computed_chain links m start = fold (λ value link. computed link.0 value (value_of link.1 m)) start (link_scalars links)

record LinksGive (place : Place) (meant : List (Arith × (Group → Value))) (w : Walk) (links : List (Arith × Typed)) (w' : Walk) : Type 0 where
  keeps : Keeps place w w'
  means : (N : Numbering) → Fits N w'.numbers → (aggs : List Agg) → BeginsWith w'.aggs aggs → (group : Group) (m : Env) → Stands N place w'.outer group m aggs
      → (start : Value) → meant_chain meant group start ≡ computed_chain links m start

-- one more operand
link-more : (place : Place) (link : Arith × (Place → Step Typed)) (meant : Arith × (Group → Value)) (others : List (Arith × (Group → Value))) (w : Walk) (y : Arith × Typed) (v : Walk) (ys : List (Arith × Typed)) (w' : Walk)
    → LinkMeans link meant → Proper w.numbers → SettledAt w.numbers place → operand place link w ≡ done y v
    → (Proper v.numbers → SettledAt v.numbers place → LinksGive place others v ys w') → LinksGive place (meant ∷ others) w (y ∷ ys) w'
link-more place link meant others w y v ys w' one proper settled same rest =
    let made = mapped (link.1 place w) (λ x. (link.0, x)) y v same in
    let g = (one.operand).gives place w made.given v proper settled made.begins in
    let after = rest ((g.grows).proper proper) (settled_at-grows g.grows place settled) in
    let here : LinksGive place (meant ∷ others) w ((link.0, made.given) ∷ ys) w' = record {
      keeps = keeps-trans (gives-keeps g) after.keeps;
      means = λ N fit aggs begins group m stands start.
          ap (meant_chain others group) (ap₂ (λ (op : Arith) (value : Value). computed op start value) (sym one.operator) (means-later g after.keeps N fit aggs begins group m stands))
          ∙ after.means N fit aggs begins group m stands (computed link.0 start (value_of (made.given).scalar m));
    } in
    subst (λ (z : Arith × Typed). LinksGive place (meant ∷ others) w (z ∷ ys) w') (sym made.makes) here

links-give : (place : Place) {links : List (Arith × (Place → Step Typed))} {w : Walk} {ys : List (Arith × Typed)} {w' : Walk} (meant : List (Arith × (Group → Value))) → Related LinkMeans links meant
    → Chain (Takes (operand place)) links w ys w' → Proper w.numbers → SettledAt w.numbers place → LinksGive place meant w ys w'
links-give place [] r (ends {w = w}) proper settled = record { keeps = keeps-refl place w; means = λ N fit aggs begins group m stands start. refl }
links-give place (meant ∷ others) r (next {x = link} {b = y} {bs = ys} {w = w} {v = v} {w' = w'} taken rest) proper settled =
    link-more place link meant others w y v ys w' (related_head r) proper settled taken (λ p s. links-give place others (related_tail r) rest p s)
links-give place (meant ∷ others) r ends proper settled = related_none r
links-give place [] r (next taken rest) proper settled = related_none' r

chained-done : (first : Typed) (rest : List (Arith × Typed)) (w : Walk) (y : Typed) (w' : Walk) → chained first rest w ≡ done y w' → (typed kind.Int (scalar.Chain first.scalar (link_scalars rest)) ≡ y) × (w ≡ w')
unfolding chained
chained-done first rest w y w' same =
    let r = (refuse_if-then (not (are_numbers first rest)) TypeMismatch (pure (typed kind.Int (scalar.Chain first.scalar (link_scalars rest)))) w y w' same).1 in
    (done-value r, done-walk r)

pub chain-means : {walk : Place → Step Typed} {value : Group → Value} {links : List (Arith × (Place → Step Typed))} {meant : List (Arith × (Group → Value))} → ExprMeans walk value → Related LinkMeans links meant
    → ExprMeans (chain walk links) (λ group. fold (λ value link. computed link.0 value (link.1 group)) (value group) meant)
chain-means {walk} {value} {links} {meant} first rest = record { gives = gives }
  where
    gives : (place : Place) (w : Walk) (y : Typed) (w' : Walk) → Proper w.numbers → SettledAt w.numbers place → chain walk links place w ≡ done y w'
        → ExprGives place (λ group. fold (λ value link. computed link.0 value (link.1 group)) (value group) meant) w y w'
    gives place w y w' proper settled same =
        let t = turn (walk place w) (λ start. each (operand place) links >>= chained start) y w' same in
        let g = first.gives place w t.given t.between proper settled t.begins in
        let u = turn (each (operand place) links t.between) (chained t.given) y w' t.goes_on in
        let others = links-give place meant rest (each-chain (operand place) links t.between u.given u.between u.begins) ((g.grows).proper proper) (settled_at-grows g.grows place settled) in
        let r = chained-done t.given u.given u.between y w' u.goes_on in
        let last = keeps-is place r.1 in
        let later = keeps-trans others.keeps last in
        let keeps = keeps-trans (gives-keeps g) later in
        let here : ExprGives place (λ group. fold (λ value link. computed link.0 value (link.1 group)) (value group) meant) w (typed kind.Int (scalar.Chain (t.given).scalar (link_scalars u.given))) w' = record {
          grows = keeps.grows;
          met = keeps.met;
          plain = keeps.plain;
          bare = λ column is. none-some is;
          means = λ N fit aggs begins group m stands.
              ap (meant_chain meant group) (means-later g later N fit aggs begins group m stands)
              ∙ others.means N (fits-grows N fit last.grows) aggs (begins-grows begins last.grows) group m (stands-before last.met stands) (value_of (t.given).scalar m)
              ∙ sym (value-chain (t.given).scalar (link_scalars u.given) m);
        } in
        subst (λ z. ExprGives place (λ group. fold (λ value link. computed link.0 value (link.1 group)) (value group) meant) w z w') r.0 here

-- ---- aggregates

-- the next number, and an aggregate of this number
pub record MakesAggregate (aggregate : AggKind) (argument : Kind) (x : Option Scalar) (w : Walk) (y : Typed) (w' : Walk) : Type 0 where
  pub column : Numbered
  pub typed_as : y ≡ column_typed (aggregate_kind aggregate argument) column
  pub slot : column.slot ≡ Made (length w.numbers)
  pub number : Proper w.numbers → position (same_slot column.slot) w'.numbers ≡ Some column.number.0
  pub grows : Grows w w'
  pub aggs : w'.aggs ≡ w.aggs ++ record { kind = aggregate; arg = x; out = column.number } ∷ []
  pub outer : w'.outer ≡ w.outer
  pub longer : length w.numbers < length w'.numbers

-- the walk with one aggregate more
abbrev with_aggregate : Agg → Walk → Walk
with_aggregate agg w = with_aggs (w.aggs ++ agg ∷ []) (with_numbers (w.numbers ++ Made (length w.numbers) ∷ []) w)

aggregate-grows : (aggregate : AggKind) (x : Option Scalar) (w : Walk) → Grows w (with_aggregate (record { kind = aggregate; arg = x; out = col_id (length w.numbers) }) w)
aggregate-grows aggregate x w = record {
  added = Made (length w.numbers) ∷ [];
  numbers = refl;
  references = le_refl w.references;
  proper = λ p. proper-push w.numbers (Made (length w.numbers)) (next-fresh w.numbers p) (λ n is. made-number is) p;
  new_aggs = record { kind = aggregate; arg = x; out = col_id (length w.numbers) } ∷ [];
  aggs = refl;
  made = record {
    low = (le_refl (length w.numbers), tt);
    high = (let long = length-append w.numbers (Made (length w.numbers) ∷ []) in omega arith, tt);
    rising = λ i j d before within. absurd (let h : j < 1 = within in omega arith);
  };
}
  where
    made-number : {n m : ℕ} → Made m ≡ Made n → n ≡ m
    made-number {n} {m} same = sym (ap get same)
      where
        get : Slot → ℕ
        get (Made k) = k
        get s = m

made_aggregate-done : (aggregate : AggKind) (argument : Kind) (x : Option Scalar) (w : Walk) (y : Typed) (w' : Walk) → made_aggregate aggregate argument x w ≡ done y w' → MakesAggregate aggregate argument x w y w'
unfolding made_aggregate
made_aggregate-done aggregate argument x w y w' same =
    let t = turn (made_number w) (λ column. add_aggregate (record { kind = aggregate; arg = x; out = column.number }) >> pure (column_typed (aggregate_kind aggregate argument) column)) y w' same in
    let column = t.given in
    let made = made_number-done w column t.between t.begins in
    let u = turn (add_aggregate (record { kind = aggregate; arg = x; out = column.number }) t.between) (λ n. pure (column_typed (aggregate_kind aggregate argument) column)) y w' t.goes_on in
    let added = add_aggregate-done (record { kind = aggregate; arg = x; out = column.number }) t.between u.given u.between u.begins in
    let last = done-walk u.goes_on in
    let agg : Agg = record { kind = aggregate; arg = x; out = column.number } in
    let here : with_aggregate agg w ≡ w' = ap (λ (v : Walk). with_aggs (v.aggs ++ agg ∷ []) v) made.walk ∙ added ∙ last in
    record {
      column = column;
      typed_as = sym (done-value u.goes_on);
      slot = made.slot;
      number = λ p.
          ap (λ (v : Walk). position (same_slot column.slot) v.numbers) (sym here)
          ∙ ap (λ (v : Walk). position (same_slot column.slot) v.numbers) made.walk
          ∙ ap (λ s. position (same_slot s) (t.between).numbers) made.slot
          ∙ made.stands p
          ∙ ap (λ (c : ColId). Some c.0) (sym made.number);
      grows = subst (Grows w) (ap (λ c. with_aggregate (record { kind = aggregate; arg = x; out = c }) w) (sym made.number) ∙ here) (aggregate-grows aggregate x w);
      aggs = sym (ap (λ (v : Walk). v.aggs) here);
      outer = sym (ap (λ (v : Walk). v.outer) here);
      longer = let long = length-append w.numbers (Made (length w.numbers) ∷ []) in let is = ap (λ (v : Walk). length v.numbers) here in omega arith;
    }

-- the values of the argument, in the rows of a group by names and by numbers
abbrev SameArguments : (Group → Value) → Option Scalar → Place → Walk → Type 0
SameArguments value x place w' =
    (N : Numbering) → Fits N w'.numbers → (aggs : List Agg) (group : Group) (m : Env) (g : GroupOf N place group m aggs)
    → map (λ row. value (alone group.outers row)) group.rows ≡ map (rows.argument x) g.maps

abbrev meant_aggregate : AggKind → (Group → Value) → Group → Value
meant_aggregate aggregate value group = aggregated aggregate (map (λ row. value (alone group.outers row)) group.rows)

-- the value of an aggregate that was made, over a group
value-at : (N : Numbering) (place : Place) (group : Group) (m : Env) (before aggs : List Agg) (agg : Agg) (g : GroupOf N place group m aggs) → BeginsWith (before ++ agg ∷ []) aggs
    → m agg.out ≡ aggregated agg.kind (map (rows.argument agg.arg) g.maps)
value-at N place group m before aggs agg g begins =
    let P : Agg → Type 0 = λ agg. m agg.out ≡ aggregated agg.kind (map (rows.argument agg.arg) g.maps) in
    let all : AllByRecursion P ((before ++ agg ∷ []) ++ begins.0) = subst (AllByRecursion P) begins.1 g.values in
    (all-right P before (agg ∷ []) (all-left P (before ++ agg ∷ []) begins.0 all)).0

aggregate-gives : (aggregate : AggKind) (argument : Kind) (x : Option Scalar) (value : Group → Value) (place : Place) (keys : List Slot) (w v : Walk) (y : Typed) (w' : Walk) → place.keys ≡ Some keys → Proper w.numbers
    → Keeps place w v → MakesAggregate aggregate argument x v y w' → SameArguments value x place w'
    → ExprGives place (λ group. aggregated aggregate (map (λ row. value (alone group.outers row)) group.rows)) w y w'
aggregate-gives aggregate argument x value place keys w v y w' grouped proper keeps made same = subst (λ z. ExprGives place (meant_aggregate aggregate value) w z w') (sym made.typed_as) here
  where
    bare_at : BareAt place w w' (column_typed (aggregate_kind aggregate argument) made.column) made.column
    bare_at = record {
      scalar = refl;
      number = made.number ((keeps.grows).proper proper);
      source = subst (Source place w w') (sym made.slot) (Source.made (length v.numbers) (grows-length keeps.grows) made.longer);
    }

    here : ExprGives place (meant_aggregate aggregate value) w (column_typed (aggregate_kind aggregate argument) made.column) w'
    here = record {
      grows = grows-trans keeps.grows made.grows;
      met = λ h. made.outer ∙ keeps.met h;
      plain = λ h. none-some (sym h ∙ grouped);
      bare = λ column is. subst (BareAt place w w' (column_typed (aggregate_kind aggregate argument) made.column)) (some-is is) bare_at;
      means = λ N fit aggs begins group m stands.
          let g : GroupOf N place group m aggs = subst (GroupedIn N place group m aggs) grouped stands.grouped in
          let agg : Agg = record { kind = aggregate; arg = x; out = made.column.number } in
          ap (aggregated aggregate) (same N fit aggs group m g)
          ∙ sym (value-at N place group m v.aggs aggs agg g (subst (λ first. BeginsWith first aggs) made.aggs begins))
          ∙ sym (value-col made.column.number m);
    }

keys-some : (keys : Option (List Slot)) → is_none keys ≡ false → (some : List Slot) × (keys ≡ Some some)
keys-some (Some keys) same = (keys, refl)
keys-some None same = absurd (true≢false same)

fits-then : (aggregate : AggKind) (x : Typed) (after : Step Typed) (w : Walk) (y : Typed) (w' : Walk) → and_then (argument_fits aggregate x w) (λ u. after) ≡ done y w' → after w ≡ done y w'
fits-then Sum x after w y w' same = (refuse_if-then (not (list_all (λ z. same_kind kind.Int z.kind) (x ∷ []))) TypeMismatch after w y w' same).1
fits-then aggregate x after w y w' same = same

aggregate_of-done : (aggregate : AggKind) (x : Typed) (w : Walk) (y : Typed) (w' : Walk) → aggregate_of aggregate x w ≡ done y w' → MakesAggregate aggregate x.kind (Some x.scalar) w y w'
unfolding aggregate_of
aggregate_of-done aggregate x w y w' same =
    made_aggregate-done aggregate x.kind (Some x.scalar) w y w' (fits-then aggregate x (made_aggregate aggregate x.kind (Some x.scalar)) w y w' same)

-- COUNT of `*` counts rows
pub count-means : (aggregate : AggKind) → ExprMeans (λ place. aggregated_walk aggregate None place) (λ group. aggregated aggregate (map (λ row. value.Null) group.rows))
count-means aggregate = record { gives = gives }
  where
    gives : (place : Place) (w : Walk) (y : Typed) (w' : Walk) → Proper w.numbers → SettledAt w.numbers place → aggregated_walk aggregate None place w ≡ done y w'
        → ExprGives place (λ group. aggregated aggregate (map (λ row. value.Null) group.rows)) w y w'
    gives place w y w' proper settled same =
        let r = refuse_if-then (is_none place.keys) AggregatePlace (made_aggregate aggregate kind.Int None) w y w' same in
        let keys = keys-some place.keys r.0 in
        aggregate-gives aggregate kind.Int None (λ row. value.Null) place keys.0 w w y w' keys.1 proper (keeps-refl place w) (made_aggregate-done aggregate kind.Int None w y w' r.1)
        (λ N fit aggs group m g. related-same (λ row. value.Null) (rows.argument None) (λ row v shows. refl) g.rows)

pub aggregate-means : (aggregate : AggKind) {walk : Place → Step Typed} {value : Group → Value} → ExprMeans walk value
    → ExprMeans (λ place. aggregated_walk aggregate (Some walk) place) (λ group. aggregated aggregate (map (λ row. value (alone group.outers row)) group.rows))
aggregate-means aggregate {walk} {value} x = record { gives = gives }
  where
    gives : (place : Place) (w : Walk) (y : Typed) (w' : Walk) → Proper w.numbers → SettledAt w.numbers place → aggregated_walk aggregate (Some walk) place w ≡ done y w'
        → ExprGives place (λ group. aggregated aggregate (map (λ row. value (alone group.outers row)) group.rows)) w y w'
    gives place w y w' proper settled same =
        let r = refuse_if-then (is_none place.keys) AggregatePlace (walk (argument_place place) >>= aggregate_of aggregate) w y w' same in
        let keys = keys-some place.keys r.0 in
        let t = turn (walk (argument_place place) w) (aggregate_of aggregate) y w' r.1 in
        let g = x.gives (argument_place place) w t.given t.between proper settled t.begins in
        let made = aggregate_of-done aggregate t.given t.between y w' t.goes_on in
        let keeps : Keeps place w t.between = record { grows = g.grows; met = g.met; plain = λ h. g.plain refl } in
        aggregate-gives aggregate (t.given).kind (Some (t.given).scalar) value place keys.0 w t.between y w' keys.1 proper keeps made
        (λ N fit aggs group m in_group. related-same (λ row. value (alone group.outers row)) (value_of (t.given).scalar)
        (λ row v shows. g.means N (fits-grows N fit made.grows) (t.between).aggs (begins-itself (t.between).aggs) (alone group.outers row) v
        (record { own = shows; near = λ reaches met. absurd (true≢false (sym reaches ∙ in_group.unreached)); grouped = tt }))
        in_group.rows)

-- ---- any expression

abbrev Known : Type 0
Known = (x : SqlExpr) × ExprMeans (expr x) (meaning.value_of x)

abbrev known : SqlExpr-F Known → SqlExpr-F SqlExpr
known = map-SqlExpr Known SqlExpr (λ x. x.0)

links-mean : (h : Arith × Known → Arith × SqlExpr) (g : Arith × SqlExpr → Arith × (Place → Step Typed)) (g' : Arith × SqlExpr → Arith × (Group → Value))
    → ((link : Arith × Known) → LinkMeans (g (h link)) (g' (h link))) → (links : List (Arith × Known)) → Related LinkMeans (map g (map h links)) (map g' (map h links))
links-mean h g g' each [] = related.none
links-mean h g g' each (link ∷ links) = related.more (each link) (links-mean h g g' each links)

layer : (y : SqlExpr-F Known) → ExprMeans (expr_step (map-SqlExpr SqlExpr (Place → Step Typed) expr (known y))) (meaning.value_step (map-SqlExpr SqlExpr (Group → Value) meaning.value_of (known y)))
layer (SqlExpr-F.Col ref) = column-means ref
layer (SqlExpr-F.Number n) = literal-means kind.Int (value.Int n)
layer (SqlExpr-F.Text t) = literal-means kind.Text (value.Text t)
layer (SqlExpr-F.Signed minus x) = signed-means minus x.1
layer (SqlExpr-F.Chain first rest) = chain-means first.1 (links-mean _ _ _ (λ link. record { operator = refl; operand = link.1.1 }) rest)
layer (SqlExpr-F.Agg aggregate None) = count-means aggregate
layer (SqlExpr-F.Agg aggregate (Some x)) = aggregate-means aggregate x.1
layer (SqlExpr-F.Paren x) = x.1

pub expr-means : (x : SqlExpr) → ExprMeans (expr x) (meaning.value_of x)
expr-means = ind-SqlExpr (λ x. ExprMeans (expr x) (meaning.value_of x)) (λ x y is. subst (λ z. ExprMeans (expr (roll-SqlExpr z)) (meaning.value_of (roll-SqlExpr z))) is
    (subst (λ walk. ExprMeans walk (meaning.value_of (roll-SqlExpr (known y)))) (sym (fold-roll-SqlExpr (Place → Step Typed) expr_step (known y)))
    (subst (λ value. ExprMeans (expr_step (map-SqlExpr SqlExpr (Place → Step Typed) expr (known y))) value) (sym (fold-roll-SqlExpr (Group → Value) meaning.value_step (known y)))
    (layer y))))
