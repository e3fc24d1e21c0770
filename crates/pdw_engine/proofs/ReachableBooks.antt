-- A book that tells the statistics of each name, after those of one name have changed.
use Rattle.std.proofs.Common.{◌≡◌, ◌∙◌, ℕ, Bool, true, false, not, cond, List, [], ◌∷◌, filter, Option, None, Some, IfSome, if◌then◌else◌, refl, sym, ap}
use Rattle.std.specs.Str.{bytes_eq}
use Rattle.std.proofs.lemmas.Cmp.{nat_list_eq_equiv}
use Rattle.std.proofs.lemmas.Map.Entries.{lookup-filter-keys}
use Rattle.std.proofs.lemmas.Slice.Eq.{bytes_eq-Decides}
use Rattle.pdw_stats.specs.Book.{AreInRange, Book, stats_of}
use Rattle.pdw_stats.specs.Stats.{IsInRange}
use Rattle.pdw_stats.specs.declared.stats.Stats.{Stats}

-- without those of a name
abbrev others : List ℕ → Book → Book
others name book = filter (λ entry. not (bytes_eq name entry.0)) book

-- with these of a name, or none
abbrev pub changed : List ℕ → Option Stats → Book → Book
changed name None book = others name book
changed name (Some stats) book = (name, stats) ∷ others name book

others_told : (name other : List ℕ) (book : Book) → stats_of other (others name book) ≡ cond (not (bytes_eq name other)) (stats_of other book) None
others_told name other book =
    lookup-filter-keys (bytes_eq other) (λ key. not (bytes_eq name key)) (not (bytes_eq name other))
    (λ key same. ap (λ k. not (bytes_eq name k)) (sym ((bytes_eq-Decides other key).0 same))) book

pub stats_of-changed : (name : List ℕ) (now : Option Stats) (book : Book) (other : List ℕ) → stats_of other (changed name now book) ≡ (if bytes_eq name other then now else stats_of other book)
stats_of-changed name None book other = others_told name other book ∙ by (bytes_eq name other)
  where
    by : (test : Bool) → cond (not test) (stats_of other book) None ≡ (if test then None else stats_of other book)
    by true = refl
    by false = refl
stats_of-changed name (Some stats) book other =
    ap (λ rest. cond (bytes_eq other name) (Some stats) rest) (others_told name other book)
    ∙ ap (λ test. cond test (Some stats) (cond (not (bytes_eq name other)) (stats_of other book) None)) (nat_list_eq_equiv.symm other name)
    ∙ by (bytes_eq name other)
  where
    by : (test : Bool) → cond test (Some stats) (cond (not test) (stats_of other book) None) ≡ (if test then Some stats else stats_of other book)
    by true = refl
    by false = refl

AreInRange-others : (test : List ℕ → Bool) (book : Book) → AreInRange book → AreInRange (filter (λ entry. test entry.0) book)
AreInRange-others test [] all = tt
AreInRange-others test (entry ∷ book) all = by (test entry.0) (AreInRange-others test book all.1)
  where
    by : (b : Bool) → AreInRange (filter (λ e. test e.0) book) → AreInRange (cond b (entry ∷ filter (λ e. test e.0) book) (filter (λ e. test e.0) book))
    by true rest = (all.0, rest)
    by false rest = rest

pub AreInRange-changed : (name : List ℕ) (now : Option Stats) (book : Book) → IfSome now IsInRange → AreInRange book → AreInRange (changed name now book)
AreInRange-changed name None book one all = AreInRange-others (λ key. not (bytes_eq name key)) book all
AreInRange-changed name (Some stats) book one all = (one, AreInRange-others (λ key. not (bytes_eq name key)) book all)
