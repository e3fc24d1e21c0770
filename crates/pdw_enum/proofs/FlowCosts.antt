-- What moves cost by the flows of groups is what they cost by the sizes of groups.
use Rattle.std.proofs.Common.{◌≡◌, ◌≤◌, ◌<◌, ◌^◌, ℕ, ◌+◌, List, [], ◌∷◌, ◌++◌, length, take, Option, Some, None, refl, sym, ap, subst, ◌∙◌, arith}
use Rattle.std.specs.List.{slice_get}
use Rattle.std.specs.Option.{option_map}
use Rattle.std.proofs.Math.Path.{fun_ext}
use Rattle.std.proofs.lemmas.List.{length-map, take_all, take_more}
use Rattle.std.proofs.lemmas.Option.{get_or_from_slice_get, slice_get-map, slice_get_within}
use Rattle.pdw_enum.specs.Flows.{flow_by, flows_in}
use Rattle.pdw_groups.proofs.OrderLaws.{found}
use Rattle.pdw_groups.specs.Memo.{Contents}
use Rattle.pdw_memo.proofs.EachGroup.{all-at, some-same}
use Rattle.pdw_memo.proofs.MemoMeans.{memo-each}
use Rattle.pdw_memo.specs.Laws.{meanings_in}
use Rattle.pdw_memo.specs.Memo.{IsMemo}
use Rattle.pdw_move.specs.Cost.{cost_of_move}
use Rattle.pdw_move.specs.declared.cost.Constants.{Constants}
use Rattle.pdw_move.specs.declared.cost.Flow.{Flow}
use Rattle.pdw_plan.specs.Cost.{costs_in, flow_of}
use Rattle.pdw_sizes.proofs.RowsLemmas.{sizes-in}
use Rattle.pdw_sizes.specs.Sizes.{IsSizeInRange, size_of_meaning, sizes_in}
use Rattle.pdw_sizes.specs.declared.size.Size.{Size}
use Rattle.pdw_stats.specs.Book.{AreInRange, Book}
use Rattle.pdw_ways.specs.Costing.{AreReckoned, costs_by, flow_or_none}

module _ (memo : Contents) (is : IsMemo memo) (book : Book) (n : ℕ) where
  abbrev sizes : List Size
  sizes = sizes_in memo is book n

  abbrev flows : List Flow
  flows = flows_in memo is book n

  pub flow-at : (number : ℕ) (size : Size) → slice_get sizes number ≡ Some size → slice_get flows number ≡ Some (record { rows = size.rows; width = size.width })
  flow-at number size there = slice_get-map flow_by sizes number ∙ ap (option_map flow_by) there

  -- there is one for each group
  pub flow-count : length flows ≡ length memo.groups
  flow-count = length-map sizes flow_by ∙ length-map (meanings_in memo is) (size_of_meaning book n is.tables) ∙ memo-each memo is

  -- the flows so far, and one more
  pub flows-more : (number : ℕ) (flow : Flow) → slice_get flows number ≡ Some flow → take (number + 1) flows ≡ take number flows ++ flow ∷ []
  flows-more number flow there =
      take_more flows number flow (slice_get_within flows number flow there) ∙ ap (λ (f : Flow). take number flows ++ f ∷ []) (get_or_from_slice_get flows number flow flow there)

  pub flows-all : (number : ℕ) → length memo.groups ≤ number → take number flows ≡ flows
  flows-all number all = take_all number flows (let count = flow-count in omega (arith, all, count))

  -- nothing flows where there is no group
  flow-same : (number : ℕ) → flow_or_none (slice_get flows number) ≡ flow_of (slice_get sizes number)
  flow-same number = ap flow_or_none (slice_get-map flow_by sizes number) ∙ by (slice_get sizes number)
    where
      by : (size : Option Size) → flow_or_none (option_map flow_by size) ≡ flow_of size
      by None = refl
      by (Some size) = refl

  pub costs-same : (constants : Constants) → costs_by n constants flows ≡ costs_in memo is book n constants
  costs-same constants = fun_ext (λ group. fun_ext (λ move. ap (cost_of_move n constants move) (flow-same group.0)))

  pub flows-reckoned : AreInRange book → n ≤ 16 → AreReckoned flows
  flows-reckoned range few number flow there =
      let at : option_map flow_by (slice_get sizes number) ≡ Some flow = sym (slice_get-map flow_by sizes number) ∙ there in
      let own = found flow_by (slice_get sizes number) flow at in
      let same : flow_by own.0 ≡ flow = some-same (flow_by own.0) flow (sym (ap (option_map flow_by) own.1) ∙ at) in
      let within = all-at IsSizeInRange sizes (sizes-in book n is.tables range few (meanings_in memo is)) number own.0 own.1 in
      let rows : own.0.rows ≤ 1000000000000 = within.rows in
      let width : own.0.width ≤ 4294967295 = within.most_width in
      subst (λ (f : Flow). (f.rows ≤ 1000000000000) × (f.width < 2 ^ 32)) same (rows, omega (arith, width))
