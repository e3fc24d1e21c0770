-- The elements of FROM side by side: each named row shows the union of the numbered ones.
use Rattle.std.proofs.Common.{◌≡◌, List, [], ◌∷◌, ◌++◌, map, fold, Some, refl, sym, ap, ap₂, subst, ◌∙◌, append_assoc, append-nil}
use Rattle.std.proofs.lemmas.List.{map-append}
use Rattle.std.proofs.lemmas.List.Sums.{fold-append}
use Rattle.std.specs.List.{AllByRecursion}
use Rattle.pdw_base.specs.Schema.{Env}
use Rattle.pdw_base.specs.declared.schema.ColId.{ColId}
use Rattle.pdw_base.specs.declared.value.Value.TheVariants.{Null}
use Rattle.pdw_catalog.specs.Database.{Database}
use Rattle.pdw_expr.specs.Env.{nulls, or_else, union}
use Rattle.pdw_expr.specs.Join.{crossed}
use Rattle.pdw_expr.proofs.EnvLaws.{union-nulls}
use Rattle.pdw_names.proofs.JoinMeaningLaws.{beside_rows, range_begins, range_ends}
use Rattle.pdw_walk.proofs.Loops.{Turns, again, turned}
use Rattle.pdw_form.proofs.Related as related
use Rattle.pdw_form.proofs.Related.{Related, related-crossed}
use Rattle.pdw_names.proofs.Relations as rel
use Rattle.pdw_names.proofs.Relations.{ElementGives, ElementMeans, Every, Exact, Fits, Grows, Numbering, OnlyIn, Proper, RowOf, SettledAll, SettledIn, Settled, Shows, Within}
use Rattle.pdw_names.proofs.WalkLaws.{all-append, all-map, grows-refl, grows-trans, mapped, settled_all-grows, settled_in-grows}
use Rattle.pdw_semantics.specs.Environment.{Environment, Scope}
use Rattle.pdw_semantics.specs.Froms.{ElementMeaning, beside, label_of}
use Rattle.pdw_form.specs.Numbered.{from_rows}
use Rattle.pdw_semantics.specs.Queries.{all_labels, side_by_side}
use Rattle.pdw_expr.specs.Rows.{products}
use Rattle.pdw_semantics.specs.declared.labels.Label.{Label}
use Rattle.pdw_walk.specs.Froms.{ElementWalk, Sources, finished, no_sources, source, with_element}
use Rattle.pdw_walk.specs.Lookup as lookup
use Rattle.pdw_walk.specs.Walk.{Walk}
use Rattle.pdw_walk.specs.declared.entry.Draft.{Draft}
use Rattle.pdw_walk.specs.declared.entry.Element.{Element}
use Rattle.pdw_walk.specs.declared.entry.Entry.{Entry}
use Rattle.pdw_walk.specs.declared.entry.Slot.{Slot}

-- ---- rows

module _ (N : Numbering) where
  -- a row that shows one map shows another that has the same values
  pub shows-again : {m m' : Env} {P Q : Slot → Type 0} (Z : Slot → Type 0) → ((slot : Slot) (c : ColId) → Z slot → Q slot → N.number_of slot ≡ Some c → P slot × (m c ≡ m' c))
      → {entries : List Entry} {cells : Scope} → AllByRecursion (λ entry. Z entry.slot) entries → Shows N m P entries cells → Shows N m' Q entries cells
  shows-again Z give all rel.none = rel.none
  shows-again Z give all (rel.more {entry = entry} alias column value rest) =
      rel.more alias column (λ c q number. let here = give entry.slot c all.0 q number in value c here.0 number ∙ here.1) (shows-again Z give all.1 rest)

pub union-left : (a b : Env) (c : ColId) → b c ≡ Null → a c ≡ union a b c
union-left a b c none = sym (ap (or_else (a c)) none ∙ ap (λ m. m c) (union-nulls a))

pub union-right : (a b : Env) (c : ColId) → a c ≡ Null → b c ≡ union a b c
union-right a b c none = sym (ap (λ value. or_else value (b c)) none)

-- ---- elements

module _ (database : Database) (w0 : Walk) where
  -- what the elements so far give
  pub record Sided (labels : List Label) (scopes : Environment → List Scope) (entries : List Entry) (rows : List Slot → List Env) (w : Walk) : Type 0 where
    pub grows : Grows w0 w
    pub kept : w.aggs ≡ w0.aggs
    pub labels_are : map (λ entry. label_of entry.alias entry.column) entries ≡ labels
    pub within : AllByRecursion (λ entry. Within w0 w entry.slot) entries
    pub settled : SettledIn w.numbers entries
    pub shown : (env : Environment) (later : List Slot) (N : Numbering) → Exact N (w.numbers ++ later) → Fits N (w.numbers ++ later)
        → Related (RowOf database N w0 w entries) (scopes env) (rows (w.numbers ++ later))

  pub sided-none : Sided [] (λ env. [] ∷ []) [] (λ numbers. nulls ∷ []) w0
  sided-none = record {
    grows = grows-refl w0;
    kept = refl;
    labels_are = refl;
    within = tt;
    settled = tt;
    shown = λ env later N exact fits. related.more (rel.none, λ c outside. refl) related.none;
  }

  sided-more : {labels : List Label} {scopes : Environment → List Scope} {entries : List Entry} {rows : List Slot → List Env} {w w' : Walk} {meaning : ElementMeaning} {e : Element}
      → Sided labels scopes entries rows w → ElementGives database meaning w e w'
      → Sided (labels ++ meaning.labels) (λ env. crossed beside (scopes env) (meaning.scopes env)) (entries ++ e.entries)
      (λ numbers. crossed union (rows numbers) (from_rows database (finished numbers e.draft))) w'
  sided-more {labels = labels} {scopes = scopes} {entries = entries} {rows = rows} {w = w} {w' = w'} {meaning = meaning} {e = e} before gives =
      let wider = all-map (λ (entry : Entry). Within w0 w entry.slot) (λ (entry : Entry). Within w0 w' entry.slot) (λ entry at. range_ends w0 gives.grows entry.slot at) entries before.within in
      let those = all-map (λ (entry : Entry). Within w w' entry.slot) (λ (entry : Entry). Within w0 w' entry.slot) (λ entry at. range_begins w' before.grows entry.slot at) e.entries gives.within in
      record {
        grows = grows-trans before.grows gives.grows;
        kept = gives.kept ∙ before.kept;
        labels_are = map-append (λ (entry : Entry). label_of entry.alias entry.column) entries e.entries ∙ ap₂ (λ xs ys. xs ++ ys) before.labels_are gives.labels;
        within = all-append (λ (entry : Entry). Within w0 w' entry.slot) entries e.entries wider those;
        settled = all-append (λ (entry : Entry). Settled w'.numbers entry.slot) entries e.entries (settled_in-grows gives.grows entries before.settled) gives.settled;
        shown = λ env later N exact fits.
            let numbers : w'.numbers ++ later ≡ w.numbers ++ (gives.grows.added ++ later) = ap (λ ns. ns ++ later) gives.grows.numbers ∙ append_assoc w.numbers gives.grows.added later in
            let left : Related (RowOf database N w0 w entries) (scopes env) (rows (w'.numbers ++ later)) =
            subst (λ ns. Related (RowOf database N w0 w entries) (scopes env) (rows ns)) (sym numbers)
            (before.shown env (gives.grows.added ++ later) N (subst (Exact N) numbers exact) (subst (Fits N) numbers fits)) in
            related-crossed {Left = RowOf database N w0 w entries} {Right = RowOf database N w w' e.entries} {Out = RowOf database N w0 w' (entries ++ e.entries)} beside union
            (λ l l' r r' at of. beside_rows database N w0 w w' w' before.grows gives.grows (grows-refl w') entries e.entries before.within gives.within l l' r r' at of)
            left (gives.rows env later N exact fits);
      }

  -- the rows of these drafts side by side
  abbrev pub rows_of : List Draft → List Slot → List Env
  rows_of drafts numbers = products (map (from_rows database) (map (finished numbers) drafts))

  rows-push : (drafts : List Draft) (d : Draft) (numbers : List Slot) → rows_of (drafts ++ d ∷ []) numbers ≡ crossed union (rows_of drafts numbers) (from_rows database (finished numbers d))
  rows-push drafts d numbers =
      ap (λ ds. products (map (from_rows database) ds)) (map-append (finished numbers) drafts (d ∷ []))
      ∙ ap products (map-append (from_rows database) (map (finished numbers) drafts) (finished numbers d ∷ []))
      ∙ fold-append (crossed union) (nulls ∷ []) (map (from_rows database) (map (finished numbers) drafts)) (from_rows database (finished numbers d) ∷ [])

  sided-all : {walks : List ElementWalk} {meanings : List ElementMeaning} → Related (ElementMeans database) walks meanings → (outers : List lookup.Scope)
      → {labels : List Label} {scopes : Environment → List Scope} {w w' : Walk} {before after : Sources}
      → Proper w.numbers → SettledAll w.numbers outers → Turns (source database.tables outers) before walks w after w' → Sided labels scopes before.own (rows_of before.drafts) w
      → Sided (labels ++ all_labels meanings) (λ env. fold (λ scopes element. crossed beside scopes (element.scopes env)) (scopes env) meanings) after.own (rows_of after.drafts) w'
  sided-all related.none outers {labels = labels} {scopes = scopes} {w = w} {before = before} proper settled turned so_far =
      subst (λ ls. Sided ls scopes before.own (rows_of before.drafts) w) (sym (append-nil labels)) so_far
  sided-all (related.more {x = walk} {y = meaning} {ys = meanings} means others) outers {labels = labels} {scopes = scopes} {w = w} {w' = w'} {before = before} {after = after} proper settled (again {more = more} {middle = middle} walked turns) so_far =
      let m = mapped (walk database.tables outers w) (with_element before) more middle walked in
      let gives = means.gives outers w m.given middle proper settled m.begins in
      let here : Sided (labels ++ meaning.labels) (λ env. crossed beside (scopes env) (meaning.scopes env)) more.own (rows_of more.drafts) middle =
      subst (λ sources. Sided (labels ++ meaning.labels) (λ env. crossed beside (scopes env) (meaning.scopes env)) sources.own (rows_of sources.drafts) middle) (sym m.makes)
      (subst (λ rows. Sided (labels ++ meaning.labels) (λ env. crossed beside (scopes env) (meaning.scopes env)) (before.own ++ (m.given).entries) rows middle) (λ i numbers. sym (rows-push before.drafts (m.given).draft numbers) i)
      (sided-more so_far gives)) in
      subst (λ ls. Sided ls (λ env. fold (λ scopes element. crossed beside scopes (element.scopes env)) (crossed beside (scopes env) (meaning.scopes env)) meanings) after.own (rows_of after.drafts) w')
      (append_assoc labels meaning.labels (all_labels meanings))
      (sided-all others outers (gives.grows.proper proper) (settled_all-grows gives.grows outers settled) turns here)

  -- the whole of FROM
  pub from-sided : {walks : List ElementWalk} {meanings : List ElementMeaning} → Related (ElementMeans database) walks meanings → (outers : List lookup.Scope) {w' : Walk} {sources : Sources}
      → Proper w0.numbers → SettledAll w0.numbers outers → Turns (source database.tables outers) no_sources walks w0 sources w'
      → Sided (all_labels meanings) (side_by_side meanings) sources.own (rows_of sources.drafts) w'
  from-sided all outers proper settled turns = sided-all all outers proper settled turns sided-none
