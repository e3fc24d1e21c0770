-- How the plain state follows the appliance.
use Rattle.std.proofs.Common.{◌≡◌, ℕ, Bool, true, false, cond, List, [], ◌∷◌, ◌++◌, refl, sym, ap, subst, ◌∙◌, Option, None, Some, if◌then◌else◌}
use Rattle.std.specs.Map.{remove_entry}
use Rattle.std.specs.Option.{option_map}
use Rattle.std.specs.Str.{bytes_eq}
use Rattle.std.proofs.lemmas.Slice.Eq.{bytes_eq-Decides}
use Rattle.pdw_base.specs.SameBag.{SameBag}
use Rattle.pdw_base.proofs.SameBagLaws.{SameBag-refl, SameBag-≡}
use Rattle.pdw_catalog.specs.Table.{Row}
use Rattle.pdw_catalog.specs.Catalog.{Tables, table_named}
use Rattle.pdw_catalog.specs.Appliance.{Bags, Contents, GainsRows, bags_named, bags_of, bags_without, dropping, whole_of, whole_in}
use Rattle.pdw_engine.specs.Names.{HaveOwnNames}
use Rattle.pdw_engine.specs.Plain.{Plain, SamePlain, plain_of, with_handed, with_measured, with_rows, without_table}
use Rattle.pdw_engine.specs.State.{State}
use Rattle.pdw_engine.specs.Statistics.{Numbers, handed}
use Rattle.pdw_engine.specs.declared.settings.Settings.{Settings}
use Rattle.pdw_engine.proofs.NameLemmas.{removed_absent, removed_other}
use Rattle.pdw_stats.specs.Book.{Book, Changes, stats_of}
use Rattle.pdw_stats.specs.Measured.{measured_table}
use Rattle.pdw_stats.specs.declared.stats.Stats.{Stats}

-- rows that a table gains at the nodes it gains as a whole
pub SamePlain-gained : (old new : Contents) (book : Book) (settings : Settings) (name : List ℕ) (rows : List Row) → GainsRows old new name rows
    → SamePlain (with_rows name rows (plain_of (record { contents = old; book = book; settings = settings }))) (plain_of (record { contents = new; book = book; settings = settings }))
SamePlain-gained old new book settings name rows gains = record {
  nodes = gains.nodes;
  tables = gains.tables;
  rows = λ other. by other (bytes_eq other name) refl;
  stats = λ other. refl;
  settings = refl;
}
  where
    by : (other : List ℕ) (b : Bool) → bytes_eq other name ≡ b → SameBag (whole_of other new) (if b then whole_of name old ++ rows else whole_of other old)
    by other true same =
        let found = (bytes_eq-Decides other name).0 same in
        subst (λ n. SameBag (whole_of n new) (whole_of name old ++ rows)) (sym found) gains.gained
    by other false apart = SameBag-≡ (λ i. whole_in (table_named other (gains.tables i)) (gains.others other apart i))

pub SamePlain-refl : (state : Plain) → SamePlain state state
SamePlain-refl state = record { nodes = refl; tables = refl; rows = λ name. SameBag-refl (state.rows name); stats = λ name. refl; settings = refl }

no_bags : (name : List ℕ) (tables : Tables) → bags_named name tables [] ≡ []
no_bags name [] = refl
no_bags name (entry ∷ tables) = refl

-- the rows of another name stay
bags_other : (name other : List ℕ) (tables : Tables) (bags : List Bags) → bytes_eq other name ≡ false
    → bags_named other (remove_entry (bytes_eq name) tables) (bags_without name tables bags) ≡ bags_named other tables bags
bags_other name other [] bags apart = refl
bags_other name other (entry ∷ tables) [] apart = no_bags other (remove_entry (bytes_eq name) (entry ∷ tables))
bags_other name other (entry ∷ tables) (b ∷ bags) apart = by (bytes_eq name entry.0) refl (bags_other name other tables bags apart)
  where
    by : (t : Bool) → bytes_eq name entry.0 ≡ t → bags_named other (remove_entry (bytes_eq name) tables) (bags_without name tables bags) ≡ bags_named other tables bags
        → bags_named other (cond t tables (entry ∷ remove_entry (bytes_eq name) tables)) (if t then bags else b ∷ bags_without name tables bags) ≡ bags_named other (entry ∷ tables) (b ∷ bags)
    by true same rest =
        let e : bytes_eq other entry.0 ≡ false = subst (λ n. bytes_eq other n ≡ false) ((bytes_eq-Decides name entry.0).0 same) apart in
        sym (ap (λ t. if t then b else bags_named other tables bags) e)
    by false other_name rest = ap (λ found. if bytes_eq other entry.0 then b else found) rest

-- a table that is dropped is gone as a whole
pub SamePlain-dropped : (contents : Contents) (old new : Book) (settings : Settings) (name : List ℕ) → HaveOwnNames contents.tables → Changes old new name None
    → SamePlain (without_table name (plain_of (record { contents = contents; book = old; settings = settings }))) (plain_of (record { contents = dropping contents name; book = new; settings = settings }))
SamePlain-dropped contents old new settings name own gone = record {
  nodes = refl;
  tables = refl;
  rows = λ other. by other (bytes_eq other name) refl;
  stats = gone;
  settings = refl;
}
  where
    by : (other : List ℕ) (b : Bool) → bytes_eq other name ≡ b → SameBag (whole_of other (dropping contents name)) (if b then [] else whole_of other contents)
    by other true same =
        let found = (bytes_eq-Decides other name).0 same in
        let gone : table_named other (remove_entry (bytes_eq name) contents.tables) ≡ None = subst (λ n. table_named n (remove_entry (bytes_eq name) contents.tables) ≡ None) (sym found) (removed_absent name contents.tables own) in
        SameBag-≡ (ap (λ t. whole_in t (bags_of other (dropping contents name))) gone)
    by other false apart = SameBag-≡ (λ i. whole_in (removed_other name other contents.tables apart i) (bags_other name other contents.tables contents.bags apart i))

-- ---- statistics and settings

module _ (contents : Contents) (old new : Book) (settings : Settings) (name : List ℕ) where
  abbrev before : State
  before = record { contents = contents; book = old; settings = settings }

  abbrev after : State
  after = record { contents = contents; book = new; settings = settings }

  -- a table is measured
  pub SamePlain-measured : (stats : Stats) → measured_table name contents ≡ Some stats → Changes old new name (Some stats) → SamePlain (with_measured name (plain_of before)) (plain_of after)
  SamePlain-measured stats is changes = record {
    nodes = refl;
    tables = refl;
    rows = λ other. SameBag-refl (whole_of other contents);
    stats = λ other. subst (λ now. stats_of other new ≡ (if bytes_eq name other then now else stats_of other old)) (sym is) (changes other);
    settings = refl;
  }

  -- numbers are handed over for a table that had statistics
  pub SamePlain-handed : (rows : ℕ) (numbers : Numbers) (had : Stats) → stats_of name old ≡ Some had → Changes old new name (Some (handed rows numbers had)) → SamePlain (with_handed name rows numbers (plain_of before)) (plain_of after)
  SamePlain-handed rows numbers had is changes = record {
    nodes = refl;
    tables = refl;
    rows = λ other. SameBag-refl (whole_of other contents);
    stats = λ other. subst (λ (found : Option Stats). stats_of other new ≡ (if bytes_eq name other then option_map (handed rows numbers) found else stats_of other old)) (sym is) (changes other);
    settings = refl;
  }

-- a table without statistics gets none by numbers
pub SamePlain-not_handed : (state : State) (name : List ℕ) (rows : ℕ) (numbers : Numbers) → stats_of name state.book ≡ None → SamePlain (with_handed name rows numbers (plain_of state)) (plain_of state)
SamePlain-not_handed state name rows numbers none = record {
  nodes = refl;
  tables = refl;
  rows = λ other. SameBag-refl (whole_of other state.contents);
  stats = λ other. by other (bytes_eq name other) refl;
  settings = refl;
}
  where
    by : (other : List ℕ) (b : Bool) → bytes_eq name other ≡ b → stats_of other state.book ≡ (if b then option_map (handed rows numbers) (stats_of name state.book) else stats_of other state.book)
    by other true same =
        let found = (bytes_eq-Decides name other).0 same in
        subst (λ n. stats_of n state.book ≡ option_map (handed rows numbers) (stats_of name state.book)) found (none ∙ sym (ap (option_map (handed rows numbers)) none))
    by other false apart = refl
