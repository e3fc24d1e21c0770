-- The book before and after it is changed.
use Rattle.std.proofs.Common.{◌≡◌, ℕ, Bool, true, false, cond, List, [], ◌∷◌, Option, None, Some, refl, ap, ◌∙◌, if◌then◌else◌}
use Rattle.std.specs.Str.{bytes_eq}
use Rattle.std.proofs.lemmas.Slice.Eq.{bytes_eq-Decides}
use Rattle.pdw_stats.specs.Book.{Book, stats_of, with_stats, without_stats}
use Rattle.pdw_stats.specs.declared.stats.Stats.{Stats}

no_some : {X : Type 0} {x : X} → Some x ≡ None → ⊥
no_some e = cc

-- the first of entries among which a name is missing has another name
absent_first : (test : Bool) (stats : Stats) (rest : Option Stats) → cond test (Some stats) rest ≡ None → (test ≡ false) × (rest ≡ None)
absent_first true stats rest e = absurd (no_some e)
absent_first false stats rest e = (refl, e)

same_name : (name : List ℕ) → bytes_eq name name ≡ true
same_name name = (bytes_eq-Decides name name).1 refl

-- statistics of a table that had none are put and removed again
pub without-with : (name : List ℕ) (stats : Stats) (book : Book) → stats_of name book ≡ None → without_stats name (with_stats name stats book) ≡ book
without-with name stats [] absent = ap (λ test. cond test [] ((name, stats) ∷ [])) (same_name name)
without-with name stats (entry ∷ book) absent =
    let first = absent_first (bytes_eq name entry.0) entry.1 (stats_of name book) absent in
    ap (λ test. without_stats name (if test then (entry.0, stats) ∷ book else entry ∷ with_stats name stats book)) first.0
    ∙ ap (λ test. cond test (with_stats name stats book) (entry ∷ without_stats name (with_stats name stats book))) first.0
    ∙ ap (λ rest. entry ∷ rest) (without-with name stats book first.1)
