-- The machine keeps its shape, and an enabled event names nodes that are there.
use Rattle.std.proofs.Common.{◌≡◌, ℕ, zero, suc, ◌<◌, ◌≤◌, ◌&&◌, nat_lt, Bool, true, false, List, [], ◌∷◌, ◌++◌, length, map, set, take, drop, get_or, refl, ap, ◌∙◌, arith}
use Rattle.std.proofs.lemmas.List.{length-set}
use Rattle.pdw_move.specs.declared.kinds.Receivers.{Receivers}
use Rattle.pdw_move.specs.declared.kinds.Receivers.TheVariants.{Nobody, One, AllCompute}
use Rattle.pdw_move.specs.Placed.{Row}
use Rattle.pdw_machine.specs.Machine.{IsShaped, Lane, Source, State, Target, after_read, can_read, can_flush, can_deliver, can_copy, copied, copy_at, dealt, deliver_at, delivered, fed, flush_at, flushed, lane_at, no_source, no_target, place, read_at, read_first, received, source_at, target_at, unread, with_lane, with_source, with_target}

-- what holds of an item and of all others holds after the item is put among them
pub holds-set : {X : Type 0} (P : X → Type 0) (xs : List X) (i at : ℕ) (x d : X) → P x → P (get_or xs at d) → P (get_or (set xs i x) at d)
holds-set P [] i at x d here there = there
holds-set P (first ∷ xs) zero zero x d here there = here
holds-set P (first ∷ xs) zero (suc at) x d here there = there
holds-set P (first ∷ xs) (suc i) zero x d here there = there
holds-set P (first ∷ xs) (suc i) (suc at) x d here there = holds-set P xs i at x d here there

length-fed_first : (row : Row) (n : ℕ) (lanes : List Lane) → length (map (fed row) (take n lanes) ++ drop n lanes) ≡ length lanes
length-fed_first row zero lanes = refl
length-fed_first row (suc n) [] = refl
length-fed_first row (suc n) (lane ∷ lanes) = ap suc (length-fed_first row n lanes)

length-dealt : (n : ℕ) (next : Receivers) (row : Row) (lanes : List Lane) → length (dealt n next row lanes) ≡ length lanes
length-dealt n Nobody row lanes = refl
length-dealt n (One to) row lanes = length-set lanes (place n to) (fed row (lane_at (place n to) lanes))
length-dealt n AllCompute row lanes = length-fed_first row n lanes

length-read_first : (n : ℕ) (next : Receivers) (source : Source) (rows : List Row) → length (read_first n next source rows).lanes ≡ length source.lanes
length-read_first n next source [] = refl
length-read_first n next source (row ∷ rows) = length-dealt n next row source.lanes

module _ (n : ℕ) (s : State) (shaped : IsShaped n s) where
  -- a source with as many lanes in the place of another
  with_source-shaped : (from : ℕ) (source : Source) → length source.lanes ≡ suc n → IsShaped n (with_source from source s)
  with_source-shaped from source wide = record {
    sources = length-set s.sources from source ∙ shaped.sources;
    targets = shaped.targets;
    lanes = λ at inside. holds-set (λ (x : Source). length x.lanes ≡ suc n) s.sources from at source no_source wide (shaped.lanes at inside);
  }

  with_target-shaped : (to : ℕ) (target : Target) → IsShaped n (with_target to target s)
  with_target-shaped to target = record {
    sources = shaped.sources;
    targets = length-set s.targets to target ∙ shaped.targets;
    lanes = shaped.lanes;
  }

  pub read-shaped : (next : Receivers) (from : ℕ) → from ≤ n → IsShaped n (read_at n next from s)
  read-shaped next from inside =
      with_source-shaped from (after_read n next (source_at from s))
      (length-read_first n next (source_at from s) (unread (source_at from s)) ∙ shaped.lanes from inside)

  lane-shaped : (from to : ℕ) (lane : Lane) → from ≤ n → IsShaped n (with_source from (with_lane to lane (source_at from s)) s)
  lane-shaped from to lane inside =
      with_source-shaped from (with_lane to lane (source_at from s)) (length-set (source_at from s).lanes to lane ∙ shaped.lanes from inside)

  pub flush-shaped : (from to : ℕ) → from ≤ n → IsShaped n (flush_at from to s)
  flush-shaped from to inside = lane-shaped from to (flushed (lane_at to (source_at from s).lanes)) inside

  pub copy-shaped : (to : ℕ) → IsShaped n (copy_at to s)
  copy-shaped to = with_target-shaped to (copied (target_at to s))

pub deliver-shaped : (n : ℕ) (s : State) → IsShaped n s → (from to : ℕ) → from ≤ n → IsShaped n (deliver_at from to s)
deliver-shaped n s shaped from to inside =
    let lane = lane_at to (source_at from s).lanes in
    with_target-shaped n (with_source from (with_lane to (delivered lane) (source_at from s)) s)
    (lane-shaped n s shaped from to (delivered lane) inside)
    to (received (take 1 lane.link) (target_at to s))

-- ---- places of enabled events

pub both : (a b : Bool) → a && b ≡ true → (a ≡ true) × (b ≡ true)
both true true e = (refl, refl)
both true false e = cc
both false b e = cc

source_there : (sources : List Source) (from : ℕ) → nat_lt (get_or sources from no_source).count (length (get_or sources from no_source).rows) ≡ true → from < length sources
source_there [] from e = cc
source_there (source ∷ sources) zero e = omega arith
source_there (source ∷ sources) (suc from) e = let rest = source_there sources from e in omega arith

filling_there : (lanes : List Lane) (to : ℕ) → nat_lt 0 (length (lane_at to lanes).filling) ≡ true → to < length lanes
filling_there [] to e = cc
filling_there (lane ∷ lanes) zero e = omega arith
filling_there (lane ∷ lanes) (suc to) e = let rest = filling_there lanes to e in omega arith

link_there : (lanes : List Lane) (to : ℕ) → nat_lt 0 (length (lane_at to lanes).link) ≡ true → to < length lanes
link_there [] to e = cc
link_there (lane ∷ lanes) zero e = omega arith
link_there (lane ∷ lanes) (suc to) e = let rest = link_there lanes to e in omega arith

-- a source that has lanes is there
lanes_there : (sources : List Source) (from to : ℕ) → to < length (get_or sources from no_source).lanes → from < length sources
lanes_there [] from to within = absurd (omega arith)
lanes_there (source ∷ sources) zero to within = omega arith
lanes_there (source ∷ sources) (suc from) to within = let rest = lanes_there sources from to within in omega arith

inbox_there : (targets : List Target) (to : ℕ) → nat_lt 0 (length (get_or targets to no_target).inbox) ≡ true → to < length targets
inbox_there [] to e = cc
inbox_there (target ∷ targets) zero e = omega arith
inbox_there (target ∷ targets) (suc to) e = let rest = inbox_there targets to e in omega arith

module _ (n : ℕ) (s : State) (shaped : IsShaped n s) where
  pub read_inside : (next : Receivers) (from : ℕ) → can_read n next (source_at from s) ≡ true → from ≤ n
  read_inside next from enabled = let there = source_there s.sources from (both _ _ enabled).0 in omega (arith, shaped.sources)

  from_inside : (from to : ℕ) → to < length (source_at from s).lanes → (from ≤ n) × (to ≤ n)
  from_inside from to within =
      let there = lanes_there s.sources from to within in
      let inside : from ≤ n = omega (arith, shaped.sources) in
      let wide = shaped.lanes from inside in
      (inside, omega arith)

  pub flush_inside : (from to : ℕ) → can_flush (lane_at to (source_at from s).lanes) ≡ true → (from ≤ n) × (to ≤ n)
  flush_inside from to enabled = from_inside from to (filling_there (source_at from s).lanes to (both _ _ enabled).0)

  pub deliver_inside : (from to : ℕ) → can_deliver (lane_at to (source_at from s).lanes) (target_at to s) ≡ true → (from ≤ n) × (to ≤ n)
  deliver_inside from to enabled = from_inside from to (link_there (source_at from s).lanes to (both _ _ enabled).0)

  pub copy_inside : (to : ℕ) → can_copy (target_at to s) ≡ true → to ≤ n
  copy_inside to enabled = let there = inbox_there s.targets to enabled in omega (arith, shaped.targets)
