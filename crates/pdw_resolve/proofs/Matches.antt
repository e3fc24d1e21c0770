-- A loop that gathers the columns of a scope that a reference fits.
use Rattle.std.proofs.Common.{◌≡◌, ℕ, ◌+◌, ◌<◌, ◌≤◌, Bool, true, false, List, [], ◌∷◌, ◌++◌, take, length, get_or, ap, sym, ◌∙◌, refl, arith}
use Rattle.std.proofs.lemmas.Grind.{common_steps}
use Rattle.std.specs.List.{filter}
use Rattle.pdw_walk.specs.Lookup.{Found, nothing, found_of}
use Rattle.pdw_resolve.specs.Matches.{and_one}
use Rattle.pdw_walk.specs.declared.entry.Entry.{Entry}

-- what was found is what fits of those that were gone over
pub record Seen (test : Entry → Bool) (xs : List Entry) (at : ℕ) (found : Found) : Type 0 where
  pub same : found ≡ found_of (filter test (take at xs))

pub begins : {test : Entry → Bool} {xs : List Entry} → Seen test xs 0 nothing
begins = record { same = refl }

one_more : (xs : List Entry) (x : Entry) → found_of (xs ++ x ∷ []) ≡ and_one (found_of xs) x
one_more [] x = refl
one_more (y ∷ []) x = refl
one_more (y ∷ z ∷ ys) x = refl

pub fits : {test : Entry → Bool} {xs : List Entry} {at : ℕ} {found more : Found} (d : Entry)
    → Seen test xs at found → at < length xs → test (get_or xs at d) ≡ true → more ≡ and_one found (get_or xs at d)
    → Seen test xs (at + 1) more
fits {test = test} {xs = xs} {at = at} d before below is next =
    let longer : filter test (take (at + 1) xs) ≡ filter test (take at xs) ++ get_or xs at d ∷ [] = grind (arith, common_steps)
    in record { same = next ∙ ap (λ found. and_one found (get_or xs at d)) before.same ∙ sym (one_more (filter test (take at xs)) (get_or xs at d)) ∙ ap found_of (sym longer) }

pub passes : {test : Entry → Bool} {xs : List Entry} {at : ℕ} {found : Found} (d : Entry)
    → Seen test xs at found → at < length xs → test (get_or xs at d) ≡ false
    → Seen test xs (at + 1) found
passes {test = test} {xs = xs} {at = at} d before below is =
    let same : filter test (take (at + 1) xs) ≡ filter test (take at xs) = grind (arith, common_steps)
    in record { same = before.same ∙ ap found_of (sym same) }

pub ends : {test : Entry → Bool} {xs : List Entry} {at : ℕ} {found : Found}
    → Seen test xs at found → length xs ≤ at → found ≡ found_of (filter test xs)
ends {test = test} {xs = xs} {at = at} before past =
    let same : filter test (take at xs) ≡ filter test xs = grind (arith, common_steps)
    in before.same ∙ ap found_of same

pub ruleset fitting = (begins, fits, passes, ends)
