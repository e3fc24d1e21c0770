-- The least of some bounds, at one bound more.
use Rattle.std.proofs.Common.{◌≡◌, ◌+◌, ◌<◌, ℕ, List, length, take, get_or, Option, Some, None, ap, sym, ◌∙◌}
use Rattle.std.specs.List.{slice_get}
use Rattle.std.proofs.lemmas.List.{get_or_default}
use Rattle.std.proofs.lemmas.Option.{slice_get-get_or}
use Rattle.pdw_base.proofs.Steps.{fold-one_more}
use Rattle.pdw_enum.specs.Root.{Stands, bound_at}
use Rattle.pdw_ways.specs.Bounds.{least_in, lesser}
use Rattle.pdw_enum.specs.declared.root.Least.{Least}

module _ (bounds : List (Option ℕ)) (place : ℕ) (any : Option ℕ) (within : place < length bounds) where
  abbrev bound : Option ℕ
  bound = get_or bounds place any

  pub one-more : (found next : Option Least) → bound_at found ≡ least_in (take place bounds) → Stands bounds found → bound_at next ≡ lesser (bound_at found) bound
      → ((others : List (Option ℕ)) → slice_get others place ≡ Some bound → Stands others found → Stands others next)
      → record { least : bound_at next ≡ least_in (take (place + 1) bounds); there : Stands bounds next }
  one-more found next least there is stands = record {
    least = is ∙ ap (λ b. lesser b bound) least ∙ sym (fold-one_more bounds place bound within (get_or_default bounds place any bound within) lesser None);
    there = stands bounds (slice_get-get_or bounds place any within) there;
  }
