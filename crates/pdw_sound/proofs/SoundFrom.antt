-- FROM: its elements, each with its joins, and all of them together.
use Rattle.std.proofs.Common.{◌≡◌, ℕ, ◌+◌, ◌<◌, ◌≤◌, ◌&&◌, ◌||◌, Bool, true, false, List, [], ◌∷◌, ◌++◌, length, map, refl, sym, ap, subst, subst₂, le_trans, length-append, append_assoc, append-nil, ◌∙◌, arith}
use Rattle.std.specs.List.{AllByRecursion, flat_map, list_all, list_any}
use Rattle.std.specs.Str.{bytes_eq}
use Rattle.std.proofs.lemmas.Bool.{and_from}
use Rattle.std.proofs.lemmas.List.{map-append}
use Rattle.std.proofs.lemmas.List.Folds.{list_all-append, list_any-append}
use Rattle.std.proofs.lemmas.List.Sums.{fold-append}
use Rattle.pdw_algebra.specs.Shape.{all_apart, are_apart}
use Rattle.pdw_syntax.specs.declared.query.Primary.TheOpen.{Primary-F}
use Rattle.pdw_sound.proofs.Added.{adds-grows, adds-map, adds-trans, behind-new, new-begins, new-ends, or-true}
use Rattle.pdw_sound.proofs.Ranges.{all_apart-push}
use Rattle.pdw_sound.proofs.SoundJoins.{apart, both-leaves, fits-block, later-covers-left, later-covers-right, right-covers, straight}
use Rattle.pdw_sound.proofs.SoundRelations.{Adds, Behind, Covered, ElementFits, ElementFitsAt, ElementSound, FromFits, JoinSound, KeepsLimit, New, TakenIn, shapes_of}
use Rattle.pdw_form.specs.Sound.{ElementShape, element_shape, fit_block, from_columns, from_leaves}
use Rattle.pdw_catalog.specs.Database.{Database}
use Rattle.pdw_names.proofs.FromMeaningLaws.{paren_means, table_ref_means}
use Rattle.pdw_names.proofs.JoinMeaningLaws.{range_begins, range_ends}
use Rattle.pdw_walk.proofs.Loops.{Turns, again, over-turns, turned}
use Rattle.pdw_form.proofs.Related as related
use Rattle.pdw_form.proofs.Related.{Related}
use Rattle.pdw_names.proofs.Relations.{ElementGives, Grows, JoinMeans, Proper, SettledAll, Within}
use Rattle.pdw_names.proofs.WalkLaws.{all-append, all-map, done-value, done-walk, grows-refl, grows-trans, mapped, settled_all-grows, turn}
use Rattle.pdw_semantics.specs.Froms.{ElementMeaning, JoinMeaning}
use Rattle.pdw_semantics.specs.Froms as meaning
use Rattle.pdw_walk.specs.Froms as walk
use Rattle.pdw_walk.specs.Froms.{ElementWalk, JoinWalk, Sources, finished, no_sources, source, with_element}
use Rattle.pdw_walk.specs.Lookup.{Scope}
use Rattle.pdw_walk.specs.Walk.{Walk, done, is_among, over}
use Rattle.pdw_walk.specs.declared.entry.Draft.{Draft}
use Rattle.pdw_walk.specs.declared.entry.Element.{Element}
use Rattle.pdw_walk.specs.declared.entry.Entry.{Entry}
use Rattle.pdw_walk.specs.declared.entry.Slot.{Slot}
use Rattle.pdw_walk.specs.declared.fault.TheConstants.{MOST_REFERENCES}

-- ---- an element with its joins

module _ (database : Database) where
  pub paren_sound : (element : ElementWalk) → ElementSound database element → ElementSound database (walk.primary_step (Primary-F.«Primary::Paren» element))
  paren_sound element sound = record {
    meaning = meaning.primary_step database (Primary-F.«Primary::Paren» sound.meaning);
    means = paren_means database element sound.meaning sound.means;
    gives = sound.gives;
  }

  abbrev join_meanings : (joins : List JoinWalk) → AllByRecursion (JoinSound database) joins → List JoinMeaning
  join_meanings [] sound = []
  join_meanings (join ∷ joins) sound = (sound.0).meaning ∷ join_meanings joins sound.1

  joins-mean : (joins : List JoinWalk) (sound : AllByRecursion (JoinSound database) joins) → Related (JoinMeans database) joins (join_meanings joins sound)
  joins-mean [] sound = related.none
  joins-mean (join ∷ joins) sound = related.more (sound.0).means (joins-mean joins sound.1)

  joins-fit : (joins : List JoinWalk) → AllByRecursion (JoinSound database) joins → (outers : List Scope) (before : ElementMeaning) (left : Element) (w0 w : Walk) → Proper w0.numbers → SettledAll w0.numbers outers → Behind w0 outers
      → ElementGives database before w0 left w → ElementFits database w0 left w → (e : Element) (w' : Walk) → over (walk.join_after database.tables outers) left joins w ≡ done e w' → ElementFits database w0 e w'
  joins-fit [] sound outers before left w0 w proper settled behind gives fits e w' walked = subst₂ (λ e w'. ElementFits database w0 e w') (done-value walked) (done-walk walked) fits
  joins-fit (join ∷ joins) sound outers before left w0 w proper settled behind gives fits e w' walked =
      let first = turn (join database.tables outers left w) (λ left. over (walk.join_after database.tables outers) left joins) e w' walked in
      let here = (gives.grows).proper proper in
      let seen = settled_all-grows gives.grows outers settled in
      let one = ((sound.0).means).gives outers before left w0 w first.given first.between here seen gives first.begins in
      let fit = (sound.0).gives outers left w0 w first.given first.between here seen (behind-new gives.grows behind fits.uses) (before, gives) fits first.begins in
      joins-fit joins sound.1 outers ((sound.0).meaning before) first.given w0 first.between proper settled behind one fit e w' first.goes_on

  pub table_ref_sound : (first : ElementWalk) (joins : List JoinWalk) → ElementSound database first → AllByRecursion (JoinSound database) joins → ElementSound database (walk.table_ref_step (record { first = first; joins = joins }))
  table_ref_sound first joins first_sound joins_sound = record {
    meaning = meaning.table_ref_step database (record { first = first_sound.meaning; joins = join_meanings joins joins_sound });
    means = table_ref_means database first first_sound.meaning joins (join_meanings joins joins_sound) first_sound.means (joins-mean joins joins_sound);
    gives = λ outers w e w' proper settled behind walked.
        let begun = turn (first database.tables outers w) (λ left. over (walk.join_after database.tables outers) left joins) e w' walked in
        let gives = (first_sound.means).gives outers w begun.given begun.between proper settled begun.begins in
        let fits = first_sound.gives outers w begun.given begun.between proper settled behind begun.begins in
        joins-fit joins joins_sound outers first_sound.meaning begun.given w begun.between proper settled behind gives fits e w' begun.goes_on;
  }

-- ---- lists of shapes

flat-push : {X Y : Type 0} (f : X → List Y) (xs : List X) (last : X) → flat_map f (xs ++ last ∷ []) ≡ flat_map f xs ++ f last
flat-push f [] last = append-nil (f last)
flat-push f (x ∷ xs) last = ap (λ rest. f x ++ rest) (flat-push f xs last) ∙ sym (append_assoc (f x) (flat_map f xs) (f last))

flat-map : {X Y : Type 0} (f : X → List Y) (xs : List X) → flat_map (λ ys. ys) (map f xs) ≡ flat_map f xs
flat-map f [] = refl
flat-map f (x ∷ xs) = ap (λ rest. f x ++ rest) (flat-map f xs)

-- elements side by side, as one
abbrev all_of : List ElementShape → ElementShape
all_of shapes = record { columns = from_columns shapes; made = flat_map (λ shape. shape.made) shapes; leaves = from_leaves shapes; sound = true }

abbrev with_shape : ElementShape → ElementShape → ElementShape
with_shape before last = record { columns = before.columns ++ last.columns; made = before.made ++ last.made; leaves = before.leaves + last.leaves; sound = true }

all-push : (shapes : List ElementShape) (last : ElementShape) → all_of (shapes ++ last ∷ []) ≡ with_shape (all_of shapes) last
all-push shapes last = λ i. record {
  columns = flat-push (λ (shape : ElementShape). shape.columns) shapes last i;
  made = flat-push (λ (shape : ElementShape). shape.made) shapes last i;
  leaves = fold-append (λ leaves (shape : ElementShape). leaves + shape.leaves) 0 shapes (last ∷ []) i;
  sound = true;
}

all-one : (shape : ElementShape) → all_of (shape ∷ []) ≡ record { columns = shape.columns; made = shape.made; leaves = shape.leaves; sound = true }
all-one shape = λ i. record {
  columns = append-nil shape.columns i;
  made = append-nil shape.made i;
  leaves = nothing-before shape.leaves i;
  sound = true;
}
  where
    nothing-before : (n : ℕ) → 0 + n ≡ n
    nothing-before n = omega arith

-- ---- all elements together

module _ (database : Database) (w0 : Walk) where
  -- the elements that were walked so far, from w0 on
  record Gathered (before : Sources) (w : Walk) : Type 0 where
    grows : Grows w0 w
    within : AllByRecursion (λ entry. Within w0 w entry.slot) before.own
    limit : KeepsLimit w0 w
    some : 0 < length before.own
    aliases : TakenIn database w0 w before.own
    taken : (alias : List ℕ) → is_among alias w0.taken ≡ true → is_among alias w.taken ≡ true
    uses : Adds (New w0 w) w0 w
    shape : (later : List Slot) → Proper (w.numbers ++ later) → ElementFitsAt database (w.numbers ++ later) w0 before.own (all_of (shapes_of database (w.numbers ++ later) before.drafts)) w
    apart : (later : List Slot) → Proper (w.numbers ++ later) → all_apart (map (λ (shape : ElementShape). shape.columns) (shapes_of database (w.numbers ++ later) before.drafts)) ≡ true
    sound : (later : List Slot) → Proper (w.numbers ++ later) → AllByRecursion (Covered w0 w before.own) later → w.references ≤ MOST_REFERENCES → list_all (λ (shape : ElementShape). shape.sound) (shapes_of database (w.numbers ++ later) before.drafts) ≡ true

  abbrev shape_in : List Slot → Draft → ElementShape
  shape_in numbers draft = element_shape database.tables (finished numbers draft)

  gathered-first : {meaning : ElementMeaning} (e : Element) (w : Walk) → ElementGives database meaning w0 e w → ElementFits database w0 e w → Gathered (with_element no_sources e) w
  gathered-first e w gives fits = record {
    grows = gives.grows;
    within = gives.within;
    limit = fits.limit;
    some = fits.some;
    aliases = fits.aliases;
    taken = fits.taken;
    uses = fits.uses;
    shape = λ later proper.
        let at = fits.shape later proper in
        subst (λ shape. ElementFitsAt database (w.numbers ++ later) w0 e.entries shape w) (sym (all-one (shape_in (w.numbers ++ later) e.draft)))
        (record { kinds = at.kinds; columns = at.columns; made = at.made; distinct = at.distinct; some = at.some; leaves = at.leaves });
    apart = λ later proper. all_apart-push [] (shape_in (w.numbers ++ later) e.draft).columns refl refl;
    sound = λ later proper covered limit. and_from (shape_in (w.numbers ++ later) e.draft).sound true (fits.sound later proper covered limit) refl;
  }

  -- one more element
  module _ (before : Sources) (w : Walk) (gathered : Gathered before w) {meaning : ElementMeaning} (e : Element) (w' : Walk) (gives : ElementGives database meaning w e w') (fits : ElementFits database w e w') where
    abbrev own : Scope
    own = before.own ++ e.entries

    from-before : (later : List Slot) → w'.numbers ++ later ≡ w.numbers ++ ((gives.grows).added ++ later)
    from-before later = ap (λ ns. ns ++ later) (gives.grows).numbers ∙ append_assoc w.numbers (gives.grows).added later

    module _ (later : List Slot) (proper : Proper (w'.numbers ++ later)) where
      abbrev shapes : List ElementShape
      shapes = shapes_of database (w'.numbers ++ later) before.drafts

      abbrev last : ElementShape
      last = shape_in (w'.numbers ++ later) e.draft

      earlier : Proper (w.numbers ++ ((gives.grows).added ++ later))
      earlier = subst Proper (from-before later) proper

      shapes-push : shapes_of database (w'.numbers ++ later) (before.drafts ++ e.draft ∷ []) ≡ shapes ++ last ∷ []
      shapes-push = map-append (shape_in (w'.numbers ++ later)) before.drafts (e.draft ∷ [])

      before-at : ElementFitsAt database (w'.numbers ++ later) w0 before.own (all_of shapes) w
      before-at = subst (λ ns. ElementFitsAt database ns w0 before.own (all_of (shapes_of database ns before.drafts)) w) (sym (from-before later)) (gathered.shape ((gives.grows).added ++ later) earlier)

      last-at : ElementFitsAt database (w'.numbers ++ later) w e.entries last w'
      last-at = fits.shape later proper

      all-at : ElementFitsAt database (w'.numbers ++ later) w0 own (all_of (shapes_of database (w'.numbers ++ later) (before.drafts ++ e.draft ∷ []))) w'
      all-at =
          subst (λ shape. ElementFitsAt database (w'.numbers ++ later) w0 own shape w') (sym (ap all_of shapes-push ∙ all-push shapes last))
          (straight database (w'.numbers ++ later) w0 w w' w' gathered.grows gives.grows (grows-refl w') refl before.own e.entries (all_of shapes) last before-at last-at
          (from_leaves shapes + last.leaves) true (let some = before-at.some in omega (arith, some))
          (both-leaves database (w'.numbers ++ later) w0 w w' w' gathered.grows gives.grows (grows-refl w') refl before.own e.entries (all_of shapes) last before-at last-at))

      all-apart : all_apart (map (λ (shape : ElementShape). shape.columns) (shapes_of database (w'.numbers ++ later) (before.drafts ++ e.draft ∷ []))) ≡ true
      all-apart =
          ap (λ some. all_apart (map (λ (shape : ElementShape). shape.columns) some)) shapes-push
          ∙ ap all_apart (map-append (λ (shape : ElementShape). shape.columns) shapes (last ∷ []))
          ∙ all_apart-push (map (λ (shape : ElementShape). shape.columns) shapes) last.columns
          (subst (λ ns. all_apart (map (λ (shape : ElementShape). shape.columns) (shapes_of database ns before.drafts)) ≡ true) (sym (from-before later)) (gathered.apart ((gives.grows).added ++ later) earlier))
          (ap (λ columns. are_apart columns last.columns) (flat-map (λ (shape : ElementShape). shape.columns) shapes)
          ∙ apart database (w'.numbers ++ later) w0 w w' w' gathered.grows gives.grows (grows-refl w') refl before.own e.entries (all_of shapes) last before-at last-at)

      module _ (covered : AllByRecursion (Covered w0 w' own) later) (limit : w'.references ≤ MOST_REFERENCES) where
        before-covered : AllByRecursion (Covered w0 w before.own) ((gives.grows).added ++ later)
        before-covered = all-append (Covered w0 w before.own) (gives.grows).added later
            (all-map (New w w') (Covered w0 w before.own) (right-covers w0 w w' w' gathered.grows gives.grows (grows-refl w') [] before.own e.entries gathered.within gives.within) (gives.grows).added (adds-grows (New w w') fits.uses gives.grows))
            (all-map (Covered w0 w' own) (Covered w0 w before.own) (later-covers-left w0 w w' w' gathered.grows gives.grows (grows-refl w') [] before.own e.entries gathered.within gives.within) later covered)

        last-covered : AllByRecursion (Covered w w' e.entries) later
        last-covered = all-map (Covered w0 w' own) (Covered w w' e.entries) (later-covers-right w0 w w' w' gathered.grows gives.grows (grows-refl w') [] before.own e.entries gathered.within gives.within) later covered

        all-sound : list_all (λ (shape : ElementShape). shape.sound) (shapes_of database (w'.numbers ++ later) (before.drafts ++ e.draft ∷ [])) ≡ true
        all-sound =
            ap (list_all (λ (shape : ElementShape). shape.sound)) shapes-push
            ∙ list_all-append (λ (shape : ElementShape). shape.sound) shapes (last ∷ [])
            ∙ and_from (list_all (λ (shape : ElementShape). shape.sound) shapes) (last.sound && true)
            (subst (λ ns. list_all (λ (shape : ElementShape). shape.sound) (shapes_of database ns before.drafts) ≡ true) (sym (from-before later))
            (gathered.sound ((gives.grows).added ++ later) earlier before-covered (le_trans (gives.grows).references limit)))
            (and_from last.sound true (fits.sound later proper last-covered limit) refl)

    taken-more : TakenIn database w0 w' own
    taken-more alias now not_before = by (is_among alias w.taken) refl
      where
        by : (b : Bool) → is_among alias w.taken ≡ b → list_any (λ entry. bytes_eq alias entry.alias) (before.own ++ e.entries) ≡ true
        by true is =
            list_any-append (λ (entry : Entry). bytes_eq alias entry.alias) before.own e.entries
            ∙ ap (λ b. b || list_any (λ entry. bytes_eq alias entry.alias) e.entries) (gathered.aliases alias is not_before)
        by false is =
            list_any-append (λ (entry : Entry). bytes_eq alias entry.alias) before.own e.entries
            ∙ or-true (list_any (λ entry. bytes_eq alias entry.alias) before.own) (list_any (λ entry. bytes_eq alias entry.alias) e.entries) (fits.aliases alias now is)

    gathered-more : Gathered (with_element before e) w'
    gathered-more = record {
      grows = grows-trans gathered.grows gives.grows;
      within = all-append (λ (entry : Entry). Within w0 w' entry.slot) before.own e.entries
          (all-map (λ (entry : Entry). Within w0 w entry.slot) (λ (entry : Entry). Within w0 w' entry.slot) (λ entry inside. range_ends w0 gives.grows entry.slot inside) before.own gathered.within)
          (all-map (λ (entry : Entry). Within w w' entry.slot) (λ (entry : Entry). Within w0 w' entry.slot) (λ entry inside. range_begins w' gathered.grows entry.slot inside) e.entries gives.within);
      limit = λ most. fits.limit (gathered.limit most);
      some = let long = length-append before.own e.entries in let some = gathered.some in omega (arith, long, some);
      aliases = taken-more;
      taken = λ alias is. fits.taken alias (gathered.taken alias is);
      uses = adds-trans (New w0 w') (adds-map (New w0 w) (New w0 w') (new-ends w0 gives.grows) gathered.uses) (adds-map (New w w') (New w0 w') (new-begins w' gathered.grows) fits.uses);
      shape = all-at;
      apart = all-apart;
      sound = all-sound;
    }

  -- ---- the loop

  gathered-all : (walks : List ElementWalk) → AllByRecursion (ElementSound database) walks → (outers : List Scope) {w w' : Walk} {before after : Sources} → Proper w.numbers → SettledAll w.numbers outers → Behind w outers
      → Turns (source database.tables outers) before walks w after w' → Gathered before w → Gathered after w'
  gathered-all [] sound outers proper settled behind turned gathered = gathered
  gathered-all (walk ∷ walks) sound outers {w = w} {w' = w'} {before = before} {after = after} proper settled behind (again {more = more} {middle = middle} walked turns) gathered =
      let m = mapped (walk database.tables outers w) (with_element before) more middle walked in
      let gives = ((sound.0).means).gives outers w m.given middle proper settled m.begins in
      let fits = (sound.0).gives outers w m.given middle proper settled behind m.begins in
      gathered-all walks sound.1 outers ((gives.grows).proper proper) (settled_all-grows gives.grows outers settled) (behind-new gives.grows behind fits.uses) turns
      (subst (λ sources. Gathered sources middle) (sym m.makes) (gathered-more before w gathered m.given middle gives fits))

  gathered-from : (walks : List ElementWalk) → AllByRecursion (ElementSound database) walks → 0 < length walks → (outers : List Scope) {w' : Walk} {sources : Sources} → Proper w0.numbers → SettledAll w0.numbers outers → Behind w0 outers
      → Turns (source database.tables outers) no_sources walks w0 sources w' → Gathered sources w'
  gathered-from [] sound some outers proper settled behind turns = absurd (let h : 0 < 0 = some in omega (arith, h))
  gathered-from (walk ∷ walks) sound some outers proper settled behind (again {more = more} {middle = middle} walked turns) =
      let m = mapped (walk database.tables outers w0) (with_element no_sources) more middle walked in
      let gives = ((sound.0).means).gives outers w0 m.given middle proper settled m.begins in
      let fits = (sound.0).gives outers w0 m.given middle proper settled behind m.begins in
      gathered-all walks sound.1 outers ((gives.grows).proper proper) (settled_all-grows gives.grows outers settled) (behind-new gives.grows behind fits.uses) turns
      (subst (λ sources. Gathered sources middle) (sym m.makes) (gathered-first m.given middle gives fits))

  -- ---- what FROM gives

  from-gathered : (sources : Sources) (w' : Walk) → Proper w'.numbers → Gathered sources w' → FromFits database w0 sources w'
  from-gathered sources w' proper gathered =
      let whole = gathered.shape [] (subst Proper (sym (append-nil w'.numbers)) proper) in
      record {
        limit = gathered.limit;
        references = let some = whole.some in let fit = whole.leaves in omega (arith, some, fit);
        some = gathered.some;
        aliases = gathered.aliases;
        uses = gathered.uses;
        shape = λ later proper. let at = gathered.shape later proper in record { kinds = at.kinds; columns = at.columns; made = at.made; distinct = at.distinct };
        sound = λ later proper covered limit.
            let at = gathered.shape later proper in
            let shapes = shapes_of database (w'.numbers ++ later) sources.drafts in
            and_from (list_all (λ (shape : ElementShape). shape.sound) shapes) (fit_block (from_leaves shapes) && all_apart (map (λ (shape : ElementShape). shape.columns) shapes)) (gathered.sound later proper covered limit)
            (and_from (fit_block (from_leaves shapes)) (all_apart (map (λ (shape : ElementShape). shape.columns) shapes)) (fits-block (from_leaves shapes) w0.references w'.references at.some at.leaves limit) (gathered.apart later proper));
      }

  pub from_turns_fit : (elements : List ElementWalk) → AllByRecursion (ElementSound database) elements → 0 < length elements → (outers : List Scope) (sources : Sources) (w' : Walk) → Proper w0.numbers → SettledAll w0.numbers outers → Behind w0 outers
      → Turns (source database.tables outers) no_sources elements w0 sources w' → FromFits database w0 sources w'
  from_turns_fit elements sound some outers sources w' proper settled behind turns =
      let gathered = gathered-from elements sound some outers proper settled behind turns in
      from-gathered sources w' ((gathered.grows).proper proper) gathered

pub from_fits : (database : Database) (elements : List ElementWalk) → AllByRecursion (ElementSound database) elements → 0 < length elements → (outers : List Scope) (w : Walk) (sources : Sources) (w' : Walk)
    → Proper w.numbers → SettledAll w.numbers outers → Behind w outers → over (source database.tables outers) no_sources elements w ≡ done sources w' → FromFits database w sources w'
from_fits database elements sound some outers w sources w' proper settled behind walked =
    from_turns_fit database w elements sound some outers sources w' proper settled behind (over-turns (source database.tables outers) no_sources elements w sources w' walked)
