-- A written block's second groups stay, and in the place of its sets come those of its level.
use Rattle.std.proofs.Common.{◌≡◌, ℕ, suc, ◌+◌, ◌-◌, ◌^◌, ◌<◌, ◌≤◌, leb, Bool, true, false, cond, List, [], ◌∷◌, ◌++◌, filter, length, map, Some, refl, sym, ap, ap₂, subst, ◌∙◌, arith, append-nil, length-append, eq-eqb, ne_eqb, true≢false, if◌then◌else◌}
use Rattle.std.specs.Bool.{⊤}
use Rattle.std.specs.List.{AllByRecursion, flat_map, slice_get, slice_index_or}
use Rattle.std.specs.Option.{option_map}
use Rattle.std.proofs.lemmas.Bool.{and_parts}
use Rattle.std.proofs.lemmas.List.{length-map}
use Rattle.std.proofs.lemmas.Option.{slice_get_within}
use Rattle.std.proofs.lemmas.Simd.{map-map}
use Rattle.pdw_algebra.specs.Schema.{rising}
use Rattle.pdw_base.specs.Schema.{Columns}
use Rattle.pdw_base.specs.declared.schema.ColId.{ColId}
use Rattle.pdw_catalog.specs.Catalog.{Tables}
use Rattle.pdw_expr.specs.declared.cond.Cond.{Cond}
use Rattle.pdw_explore.proofs.GrowLaws.{Finds, Goes, after, finds-more, goes-append, goes-none, goes-one, index-found, kept}
use Rattle.pdw_explore.proofs.InTurn.{HasSchema, most}
use Rattle.pdw_explore.proofs.InterestingLaws.{some-again}
use Rattle.pdw_explore.proofs.OperatorGrows.{one-renumbered}
use Rattle.pdw_explore.specs.Grown.{CanExplore, CanStay, after_leaves, explored, grown_with, is_whole, last_of, leaf_at, left_out, level_at, new_number, no_block, no_group, part_at, set_grown, stays, with_sets}
use Rattle.pdw_explore.specs.declared.grown.Grown.{Grown}
use Rattle.pdw_groups.proofs.CountLaws.{chosen-whole, power-ones, whole-set}
use Rattle.pdw_groups.proofs.KeptLaws.{sets-kept}
use Rattle.pdw_groups.proofs.OrderLaws.{at-left, found}
use Rattle.pdw_groups.specs.Block.{BlockLeaf, inside_leaf, leaf_filtered, own_child, second_group, second_groups, set_group}
use Rattle.pdw_groups.specs.Columns.{interesting_in}
use Rattle.pdw_groups.specs.Group.{GroupOf, id_of, kept_group}
use Rattle.pdw_groups.specs.Level.{below, has_set, is_one, is_several, lefts, set_of}
use Rattle.pdw_groups.specs.Meaning.{exactly}
use Rattle.pdw_groups.specs.Sets.{all_flags, join_at, kept_part, kept_seconds, kept_sets, kept_singles, schemas, side_of}
use Rattle.pdw_groups.specs.declared.block.BlockPart.{BlockPart}
use Rattle.pdw_groups.specs.declared.block.Level.{Level}
use Rattle.pdw_groups.specs.declared.block.Level.TheVariants as level
use Rattle.pdw_groups.specs.declared.group.Group.{Group}
use Rattle.pdw_groups.specs.declared.key.GroupId.{GroupId}
use Rattle.pdw_groups.specs.declared.key.GroupKey.TheVariants as key
use Rattle.pdw_groups.specs.declared.op.Op.TheVariants as op
use Rattle.pdw_groups.specs.declared.sets.Side.{Side}
use Rattle.pdw_parts.specs.Part.{columns_in, is_inside}

-- ---- leaves in both memos

pub record OneLeaf (numbers : List GroupId) (old new : BlockLeaf) : Type 0 where
  pub found : slice_get numbers old.number ≡ Some (record { 0 = new.number })
  pub columns : old.columns ≡ new.columns

abbrev pub SameLeaves : List GroupId → List BlockLeaf → List BlockLeaf → Type 0
SameLeaves numbers [] [] = ⊤
SameLeaves numbers [] (new ∷ news) = ⊥
SameLeaves numbers (old ∷ olds) [] = ⊥
SameLeaves numbers (old ∷ olds) (new ∷ news) = OneLeaf numbers old new × SameLeaves numbers olds news

leaves-more : (numbers more : List GroupId) (olds news : List BlockLeaf) → SameLeaves numbers olds news → SameLeaves (numbers ++ more) olds news
leaves-more numbers more [] [] same = tt
leaves-more numbers more [] (new ∷ news) same = same
leaves-more numbers more (old ∷ olds) [] same = same
leaves-more numbers more (old ∷ olds) (new ∷ news) same =
    (record { found = at-left numbers more old.number (record { 0 = new.number }) same.0.found; columns = same.0.columns }, leaves-more numbers more olds news same.1)

pub columns-same : (numbers : List GroupId) (olds news : List BlockLeaf) → SameLeaves numbers olds news → map (λ (leaf : BlockLeaf). leaf.columns) olds ≡ map (λ (leaf : BlockLeaf). leaf.columns) news
columns-same numbers [] [] same = refl
columns-same numbers [] (new ∷ news) same = absurd same
columns-same numbers (old ∷ olds) [] same = absurd same
columns-same numbers (old ∷ olds) (new ∷ news) same = ap₂ (λ c cs. c ∷ cs) same.0.columns (columns-same numbers olds news same.1)

pub leaves-length : (numbers : List GroupId) (olds news : List BlockLeaf) → SameLeaves numbers olds news → length olds ≡ length news
leaves-length numbers [] [] same = refl
leaves-length numbers [] (new ∷ news) same = absurd same
leaves-length numbers (old ∷ olds) [] same = absurd same
leaves-length numbers (old ∷ olds) (new ∷ news) same = ap suc (leaves-length numbers olds news same.1)

-- the number of a leaf's group
abbrev pub leaf_id : BlockLeaf → GroupId
leaf_id leaf = record { 0 = leaf.number }

not-several : (place : ℕ) → is_several (2 ^ place) ≡ false
not-several place = ap (λ n. leb 2 n) (power-ones place)

schema-index : (groups : List Group) (number : ℕ) (columns : Columns) → HasSchema groups number columns → (slice_index_or groups number no_group).schema ≡ columns
schema-index groups number columns has =
    let at = found (λ (g : Group). g.schema) (slice_get groups number) columns has in
    let same : Some at.0.schema ≡ Some columns = sym (ap (option_map (λ (g : Group). g.schema)) at.1) ∙ has in
    ap (λ (g : Group). g.schema) (index-found groups number at.0 no_group at.1) ∙ some-same at.0.schema columns same
  where
    some-same : (a b : Columns) → Some a ≡ Some b → a ≡ b
    some-same a b same = cc

sides-same : (grown : Grown) (ids : List GroupId) (leaves : List BlockLeaf) → Finds grown.numbers ids (map leaf_id leaves) → AllByRecursion (λ leaf. HasSchema grown.groups leaf.number leaf.columns) leaves
    → map (leaf_at grown) ids ≡ map side_of leaves
sides-same grown [] [] finds all = refl
sides-same grown [] (leaf ∷ leaves) finds all = absurd finds
sides-same grown (id ∷ ids) [] finds all = absurd finds
sides-same grown (id ∷ ids) (leaf ∷ leaves) finds all =
    let number = index-found grown.numbers id.0 (leaf_id leaf) (record { 0 = 0 }) finds.0 in
    ap₂ (λ (side : Side) sides. side ∷ sides)
    (ap₂ (λ (n : GroupId) columns. record { group = n; schema = columns }) number
    (ap (λ (n : GroupId). (slice_index_or grown.groups n.0 no_group).schema) number ∙ schema-index grown.groups leaf.number leaf.columns all.0))
    (sides-same grown ids leaves finds.1 all.1)

module _ (tables : Tables) (blocks : List BlockPart) (levels : List Level) (useful : List ColId) where
  -- ---- second groups

  module _ (block place : ℕ) (old new : BlockLeaf) (grown : Grown) (leaf : OneLeaf grown.numbers old new) where
    pub second-goes : (first : Cond) (rest : List Cond) → length grown.groups < most
        → Goes blocks levels useful grown (second_group block place old (first ∷ rest)) (second_group block place new (first ∷ rest)) (record { 0 = length grown.groups } ∷ [])
    second-goes first rest room =
        let go : GroupOf = record { key = key.Part block (2 ^ place); means = exactly (leaf_filtered old (first ∷ rest)); schema = old.columns; exprs = record { operator = op.Filter (first ∷ rest); children = own_child old ∷ [] } ∷ [] } in
        let gn : GroupOf = record { key = key.Part block (2 ^ place); means = exactly (leaf_filtered new (first ∷ rest)); schema = new.columns; exprs = record { operator = op.Filter (first ∷ rest); children = own_child new ∷ [] } ∷ [] } in
        let found : Finds grown.numbers (map id_of (own_child old ∷ [])) (map id_of (own_child new ∷ [])) = (leaf.found, tt) in
        goes-one blocks levels useful grown go gn
        (ap (λ (b : Bool). if b then set_grown blocks levels grown (kept_group useful go).interesting block (2 ^ place) else stays grown (kept_group useful go)) (not-several place))
        ((λ several. absurd (true≢false (sym several ∙ not-several place))), (λ other. record { children = ((slice_get_within grown.numbers old.number (leaf_id new) leaf.found, tt), tt); room = room }))
        (λ i. record {
          key = key.Part block (2 ^ place);
          schema = leaf.columns i;
          interesting = interesting_in useful (leaf.columns i);
          exprs = one-renumbered tables blocks levels useful grown.numbers (op.Filter (first ∷ rest)) (own_child old ∷ []) (own_child new ∷ []) found i;
        })

    one-second : (inside : List Cond) → length grown.groups + length (second_group block place new inside) < most
        → (added : List GroupId) × Goes blocks levels useful grown (second_group block place old inside) (second_group block place new inside) added
    one-second [] room = ([], goes-none blocks levels useful grown)
    one-second (first ∷ rest) room = (record { 0 = length grown.groups } ∷ [], second-goes first rest (omega (arith, room)))

  pub seconds-go : (block : ℕ) (conds : List Cond) (place : ℕ) (olds news : List BlockLeaf) (grown : Grown) → SameLeaves grown.numbers olds news
      → length grown.groups + length (second_groups block conds place news) < most
      → (added : List GroupId) × Goes blocks levels useful grown (second_groups block conds place olds) (second_groups block conds place news) added
  seconds-go block conds place [] [] grown same room = ([], goes-none blocks levels useful grown)
  seconds-go block conds place [] (new ∷ news) grown same room = absurd same
  seconds-go block conds place (old ∷ olds) [] grown same room = absurd same
  seconds-go block conds place (old ∷ olds) (new ∷ news) grown same room =
      let inside = inside_leaf block conds new in
      let here = second_group block place new inside in
      let sum = length-append here (second_groups block conds (suc place) news) in
      let first = one-second block place old new grown same.0 inside (omega (arith, sum, room)) in
      let next = after blocks levels useful grown here first.0 in
      let count = length-append grown.groups (kept blocks levels useful here) in
      let kept_length = length-map here (kept_group useful) in
      let rest = seconds-go block conds (suc place) olds news next (leaves-more grown.numbers first.0 olds news same.1) (omega (arith, sum, room, count, kept_length)) in (
        first.0 ++ rest.0,
        subst (λ columns. Goes blocks levels useful grown (second_group block place old (filter (is_inside columns) conds) ++ second_groups block conds (suc place) olds) (second_groups block conds place (new ∷ news)) (first.0 ++ rest.0))
            (sym same.0.columns)
            (goes-append blocks levels useful grown (second_group block place old inside) (second_groups block conds (suc place) olds) here (second_groups block conds (suc place) news) first.0 rest.0 first.1 rest.1),
      )

  -- ---- sets

  -- the leaves of a block have these new numbers
  pub record Ready (grown : Grown) (block : ℕ) (part : BlockPart) (ids : List GroupId) : Type 0 where
    pub at : slice_get blocks block ≡ Some part
    pub few : length part.leaves ≤ 10
    pub finds : Finds grown.numbers part.leaves ids
    pub there : AllByRecursion (λ id. id.0 < length grown.groups) ids
    pub room : length grown.groups < most

  each-there : (numbers : List GroupId) (n : ℕ) (olds ids : List GroupId) → Finds numbers olds ids → AllByRecursion (λ id. id.0 < n) ids → AllByRecursion (λ leaf. (leaf.0 < length numbers) × ((new_number numbers leaf).0 < n)) olds
  each-there numbers n [] [] finds all = tt
  each-there numbers n [] (id ∷ ids) finds all = absurd finds
  each-there numbers n (old ∷ olds) [] finds all = absurd finds
  each-there numbers n (old ∷ olds) (id ∷ ids) finds all = (
    (slice_get_within numbers old.0 id finds.0, subst (λ (found : GroupId). found.0 < n) (sym (index-found numbers old.0 id (record { 0 = 0 }) finds.0)) all.0),
    each-there numbers n olds ids finds.1 all.1,
  )

  part-found : (block : ℕ) (part : BlockPart) → slice_get blocks block ≡ Some part → part_at blocks levels block ≡ part
  part-found block part at = index-found blocks block part no_block at

  module _ (each_level : length levels ≡ length blocks) (block : ℕ) (part : BlockPart) (ids : List GroupId) where
    can-explore : (grown : Grown) → Ready grown block part ids → CanExplore blocks levels grown block
    can-explore grown ready =
        let within = slice_get_within blocks block part ready.at in
        let same = sym (part-found block part ready.at) in
        record {
          part = within;
          level = omega (arith, within, each_level);
          few = subst (λ (p : BlockPart). length p.leaves ≤ 10) same ready.few;
          leaves = subst (λ (p : BlockPart). AllByRecursion (λ leaf. (leaf.0 < length grown.numbers) × ((new_number grown.numbers leaf).0 < length grown.groups)) p.leaves) same
              (each-there grown.numbers (length grown.groups) part.leaves ids ready.finds ready.there);
          room = ready.room;
        }

    ready-more : (grown : Grown) (more : List GroupId) → Ready grown block part ids → Ready (after blocks levels useful grown [] more) block part ids
    ready-more grown more ready =
        let same = ap length (sym (append-nil grown.groups)) in
        record {
          at = ready.at;
          few = ready.few;
          finds = finds-more grown.numbers more part.leaves ids ready.finds;
          there = subst (λ n. AllByRecursion (λ id. id.0 < n) ids) same ready.there;
          room = subst (λ n. n < most) same ready.room;
        }

    module _ (conds : List Cond) (olds : List BlockLeaf) (first : ℕ) where
      abbrev pub written_set : ℕ → GroupOf
      written_set mask = set_group block level.Written conds olds first mask

      is-several : (mask : ℕ) → has_set level.Written mask ≡ true → is_several mask ≡ true
      is-several mask has = (and_parts (is_several mask) (is_one (mask + 1)) has).0

      -- a set is gone past as its block's
      set-step : (grown : Grown) (mask : ℕ) → has_set level.Written mask ≡ true
          → grown_with blocks levels grown (kept_group useful (written_set mask)) ≡ set_grown blocks levels grown (kept_group useful (written_set mask)).interesting block mask
      set-step grown mask has =
          ap (λ (b : Bool). if b then set_grown blocks levels grown (kept_group useful (written_set mask)).interesting block mask else stays grown (kept_group useful (written_set mask))) (is-several mask has)

      set-can : (grown : Grown) (mask : ℕ) → has_set level.Written mask ≡ true → Ready grown block part ids
          → (is_several mask ≡ true → CanExplore blocks levels grown block) × (is_several mask ≡ false → CanStay grown (kept_group useful (written_set mask)))
      set-can grown mask has ready = ((λ several. can-explore grown ready), (λ other. absurd (true≢false (sym (is-several mask has) ∙ other))))

      left-one : (grown : Grown) (mask : ℕ) → Ready grown block part ids → has_set level.Written mask ≡ true → mask + 1 < 2 ^ length part.leaves
          → Goes blocks levels useful grown (written_set mask ∷ []) [] (last_of grown.groups ∷ [])
      left-one grown mask ready has less = record {
        grown_is =
            set-step grown mask has
            ∙ ap (λ (b : Bool). if b then explored (kept_group useful (written_set mask)).interesting block (level_at blocks levels block) (part_at blocks levels block) grown else left_out grown)
            (ap (λ (p : BlockPart). is_whole p mask) (part-found block part ready.at) ∙ ne_eqb (mask + 1) (2 ^ length part.leaves) (λ same. absurd (omega (arith, same, less))))
            ∙ ap (λ gs. record { groups = gs; numbers = grown.numbers ++ last_of grown.groups ∷ [] }) (sym (append-nil grown.groups));
        each = refl;
        can = (set-can grown mask has ready, tt);
      }

      -- sets but the whole block are left out
      pub left-all : (masks : List ℕ) → AllByRecursion (λ mask. mask + 1 < 2 ^ length part.leaves) masks → (grown : Grown) → Ready grown block part ids
          → (added : List GroupId) × Goes blocks levels useful grown (map written_set (filter (has_set level.Written) masks)) [] added
      left-all [] all grown ready = ([], goes-none blocks levels useful grown)
      left-all (mask ∷ masks) all grown ready = by (has_set level.Written mask) refl (left-all masks all.1)
        where
          by : (b : Bool) → has_set level.Written mask ≡ b
              → ((grown : Grown) → Ready grown block part ids → (added : List GroupId) × Goes blocks levels useful grown (map written_set (filter (has_set level.Written) masks)) [] added)
              → (added : List GroupId) × Goes blocks levels useful grown (map written_set (cond b (mask ∷ filter (has_set level.Written) masks) (filter (has_set level.Written) masks))) [] added
          by false is rest = rest grown ready
          by true is rest =
              let one = left-one grown mask ready is all.0 in
              let more = rest (after blocks levels useful grown [] (last_of grown.groups ∷ [])) (ready-more grown (last_of grown.groups ∷ []) ready) in (
                last_of grown.groups ∷ more.0,
                goes-append blocks levels useful grown (written_set mask ∷ []) (map written_set (filter (has_set level.Written) masks)) [] [] (last_of grown.groups ∷ []) more.0 one more.1,
              )

      pub ready-on : (grown : Grown) (more : List GroupId) → Ready grown block part ids → Ready (after blocks levels useful grown [] more) block part ids
      ready-on grown more ready = ready-more grown more ready

      -- ---- the whole block

      module _ (news : List BlockLeaf) (new_first : ℕ) where
        abbrev those : List Side
        those = map side_of news

        abbrev pub its_level : Level
        its_level = level_at blocks levels block

        abbrev pub new_sets : List GroupOf
        new_sets = map (set_group block its_level conds news new_first) (filter (has_set its_level) (below (2 ^ length news)))

        abbrev pub whole : ℕ
        whole = 2 ^ length news - 1

        schemas-same : schemas those ≡ map (λ (leaf : BlockLeaf). leaf.columns) news
        schemas-same = map-map (λ (side : Side). side.schema) side_of news

        pub whole-columns : (columns : List Columns) → length columns ≡ length news → columns_in (set_of whole) columns ≡ flat_map (λ columns. columns) columns
        whole-columns columns same =
            ap (flat_map (λ columns. columns)) (chosen-whole columns (set_of whole) (λ i within. whole-set (length news) i (omega (arith, within, same))))

        -- the interesting columns of the written whole
        abbrev written_interesting : List ColId
        written_interesting = (kept_group useful (written_set whole)).interesting

        interesting-whole : map (λ (leaf : BlockLeaf). leaf.columns) olds ≡ map (λ (leaf : BlockLeaf). leaf.columns) news → written_interesting ≡ interesting_in useful (rising (flat_map (λ columns. columns) (schemas those)))
        interesting-whole columns =
            ap (λ all. interesting_in useful (rising (columns_in (set_of whole) all))) (columns ∙ sym schemas-same)
            ∙ ap (λ all. interesting_in useful (rising all)) (whole-columns (schemas those) (length-map those (λ (side : Side). side.schema) ∙ length-map news side_of))

        sets-again : (singles : List GroupId) (start n : ℕ) → map (λ (leaf : BlockLeaf). leaf.columns) olds ≡ map (λ (leaf : BlockLeaf). leaf.columns) news
            → kept_sets written_interesting block its_level those conds singles start n ≡ kept_sets useful block its_level those conds singles start n
        sets-again singles start n columns =
            let again : (mask : ℕ) → interesting_in written_interesting (rising (columns_in (set_of mask) (schemas those))) ≡ interesting_in useful (rising (columns_in (set_of mask) (schemas those))) =
            λ mask. ap (λ ints. interesting_in ints (rising (columns_in (set_of mask) (schemas those)))) (interesting-whole columns) ∙ some-again useful (schemas those) (set_of mask) in
            λ i. map (λ mask. record {
              key = key.Part block mask;
              schema = rising (columns_in (set_of mask) (schemas those));
              interesting = again mask i;
              exprs = map (join_at conds (all_flags those conds) (map (kept_part its_level singles start) (below mask)) mask) (lefts its_level mask);
            }) (filter (has_set its_level) (below n))

        pub record IsWhole (grown : Grown) : Type 0 where
          pub ready : Ready grown block part ids
          pub conds_same : part.conds ≡ conds
          pub ids_same : ids ≡ map leaf_id news
          pub schemas_at : AllByRecursion (λ leaf. HasSchema grown.groups leaf.number leaf.columns) news
          pub columns : map (λ (leaf : BlockLeaf). leaf.columns) olds ≡ map (λ (leaf : BlockLeaf). leaf.columns) news
          pub following : after_leaves those ≡ new_first
          pub starts : length grown.groups ≡ new_first + length (kept_seconds conds useful block 0 those)
          pub has : has_set level.Written whole ≡ true
          pub all : whole + 1 ≡ 2 ^ length part.leaves

        sets-made : (grown : Grown) → IsWhole grown
            → with_sets written_interesting block its_level part (map (leaf_at grown) part.leaves) grown.groups ≡ grown.groups ++ kept blocks levels useful new_sets
        sets-made grown is =
            ap (λ sides. with_sets written_interesting block its_level part sides grown.groups)
            (sides-same grown part.leaves news (subst (Finds grown.numbers part.leaves) is.ids_same is.ready.finds) is.schemas_at)
            ∙ ap (λ made. grown.groups ++ made)
            (ap (λ cs. kept_sets written_interesting block its_level those cs (kept_singles cs (after_leaves those) those) (length grown.groups) (2 ^ length those)) is.conds_same
            ∙ ap₂ (λ n start. kept_sets written_interesting block its_level those conds (kept_singles conds n those) start (2 ^ length those)) is.following is.starts
            ∙ sets-again (kept_singles conds new_first those) (new_first + length (kept_seconds conds useful block 0 those)) (2 ^ length those) is.columns
            ∙ sets-kept useful block its_level conds news new_first)

        pub whole-goes : (grown : Grown) → IsWhole grown → Goes blocks levels useful grown (written_set whole ∷ []) new_sets (last_of (grown.groups ++ kept blocks levels useful new_sets) ∷ [])
        whole-goes grown is = record {
          grown_is =
              set-step grown whole is.has
              ∙ ap (λ (b : Bool). if b then explored written_interesting block its_level (part_at blocks levels block) grown else left_out grown)
              (ap (λ (p : BlockPart). is_whole p whole) (part-found block part is.ready.at) ∙ eq-eqb (whole + 1) (2 ^ length part.leaves) is.all)
              ∙ ap (λ (p : BlockPart). explored written_interesting block its_level p grown) (part-found block part is.ready.at)
              ∙ ap (λ gs. record { groups = gs; numbers = grown.numbers ++ last_of gs ∷ [] }) (sets-made grown is);
          each = refl;
          can = (set-can grown whole is.has is.ready, tt);
        }
