-- A block of a written tree becomes that of its level.
use Rattle.std.proofs.Common.{◌≡◌, ℕ, ◌+◌, ◌-◌, ◌^◌, ◌<◌, ◌≤◌, true, false, cond, List, [], ◌∷◌, ◌++◌, filter, length, map, Some, refl, sym, ap, ap₂, subst, ◌∙◌, arith, append_assoc, append-nil, length-append, true≢false}
use Rattle.std.specs.List.{AllByRecursion, flat_map, slice_get}
use Rattle.std.specs.Option.{option_map}
use Rattle.std.proofs.lemmas.List.{length-map, map-append}
use Rattle.std.proofs.lemmas.List.Elements.{filter-append}
use Rattle.std.proofs.Math.Pow.{suc_ones}
use Rattle.pdw_algebra.specs.Schema.{rising}
use Rattle.pdw_algebra.specs.Shape.{is_empty, leaves_fit}
use Rattle.pdw_base.specs.Schema.{Columns}
use Rattle.pdw_base.specs.declared.schema.ColId.{ColId}
use Rattle.pdw_catalog.specs.Catalog.{Tables}
use Rattle.pdw_expr.specs.declared.cond.Cond.{Cond}
use Rattle.pdw_explore.proofs.GrowLaws.{Goes, after, finds-more, goes-append, kept}
use Rattle.pdw_explore.proofs.InTurn.{HasSchema, each-schema, most}
use Rattle.pdw_explore.proofs.OperatorGrows.{Ends, ends-append, ends-one}
use Rattle.pdw_explore.proofs.SetGrows.{IsWhole, OneLeaf, Ready, SameLeaves, columns-same, leaf_id, left-all, leaves-length, ready-on, second-goes, seconds-go, whole-columns, whole-goes}
use Rattle.pdw_explore.specs.Grown.{after_leaves, last_of, level_at}
use Rattle.pdw_explore.specs.declared.grown.Grown.{Grown}
use Rattle.pdw_groups.proofs.BlockWhole.{AllInside, all-inside_leaf, fitting, none-kept}
use Rattle.pdw_groups.proofs.CountLaws.{has-whole}
use Rattle.pdw_groups.proofs.KeptLaws.{seconds-kept}
use Rattle.pdw_groups.proofs.OrderLaws.{at-end}
use Rattle.pdw_groups.proofs.PartOrder.{below-less}
use Rattle.pdw_groups.specs.Block.{BlockLeaf, block_groups, second_group, second_groups, set_group}
use Rattle.pdw_groups.specs.Group.{GroupOf, kept_group}
use Rattle.pdw_groups.specs.Level.{below, has_set}
use Rattle.pdw_groups.specs.Sets.{side_of}
use Rattle.pdw_groups.specs.declared.block.BlockPart.{BlockPart}
use Rattle.pdw_groups.specs.declared.block.Level.{Level}
use Rattle.pdw_groups.specs.declared.block.Level.TheVariants as level
use Rattle.pdw_groups.specs.declared.group.Group.{Group}
use Rattle.pdw_groups.specs.declared.key.GroupId.{GroupId}

-- ---- the sets of several leaves, of which the last is the whole block

pub sets-split : (f : ℕ → GroupOf) (l : Level) (k : ℕ) → 2 ≤ k → map f (filter (has_set l) (below (2 ^ k))) ≡ map f (filter (has_set l) (below (2 ^ k - 1))) ++ f (2 ^ k - 1) ∷ []
sets-split f l k several =
    ap (λ n. map f (filter (has_set l) (below n))) (sym (suc_ones k))
    ∙ ap (map f) (filter-append (has_set l) (below (2 ^ k - 1)) ((2 ^ k - 1) ∷ []))
    ∙ map-append f (filter (has_set l) (below (2 ^ k - 1))) (filter (has_set l) ((2 ^ k - 1) ∷ []))
    ∙ ap (λ b. map f (filter (has_set l) (below (2 ^ k - 1))) ++ map f (cond b ((2 ^ k - 1) ∷ []) [])) (has-whole l k several)

each-below : (n most : ℕ) → n + 1 ≡ most → (masks : List ℕ) → AllByRecursion (λ mask. mask < n) masks → AllByRecursion (λ mask. mask + 1 < most) masks
each-below n most is [] all = tt
each-below n most is (mask ∷ masks) all = (omega (arith, is, all.0), each-below n most is masks all.1)

each-less : (m n : ℕ) → m ≤ n → (ids : List GroupId) → AllByRecursion (λ id. id.0 < m) ids → AllByRecursion (λ id. id.0 < n) ids
each-less m n less [] all = tt
each-less m n less (id ∷ ids) all = (omega (arith, less, all.0), each-less m n less ids all.1)

module _ (tables : Tables) (blocks : List BlockPart) (levels : List Level) (useful : List ColId) where
  last-schema : (groups : List Group) (xs : List GroupOf) (x : GroupOf) → HasSchema (groups ++ kept blocks levels useful (xs ++ x ∷ [])) ((length groups + length (xs ++ x ∷ [])) - 1) x.schema
  last-schema groups xs x =
      let count = length-append xs (x ∷ []) in
      let kept_length = length-map xs (kept_group useful) in
      let all = length-append groups (kept blocks levels useful xs) in
      let place : (length groups + length (xs ++ x ∷ [])) - 1 ≡ length (groups ++ kept blocks levels useful xs) = omega (arith, count, kept_length, all) in
      ap₂ (λ gs n. option_map (λ (g : Group). g.schema) (slice_get gs n))
      (ap (λ gs. groups ++ gs) (map-append (kept_group useful) xs (x ∷ [])) ∙ sym (append_assoc groups (kept blocks levels useful xs) (kept_group useful x ∷ []))) place
      ∙ ap (option_map (λ (g : Group). g.schema)) (at-end (groups ++ kept blocks levels useful xs) (kept_group useful x) [])

  -- a block's own groups become those of its level
  pub record OwnGoes (grown : Grown) (olds news : List GroupOf) (columns : Columns) : Type 0 where
    pub added : List GroupId
    pub goes : Goes blocks levels useful grown olds news added
    pub ends : Ends tables blocks levels useful grown olds news added columns
    pub some : 1 ≤ length news

  -- what is known of the leaves when the block's turn comes
  pub record LeavesReady (grown : Grown) (block : ℕ) (part : BlockPart) (conds : List Cond) (olds news : List BlockLeaf) (first : ℕ) : Type 0 where
    pub same : SameLeaves grown.numbers olds news
    pub ready : Ready tables blocks levels useful grown block part (map leaf_id news)
    pub conds_same : part.conds ≡ conds
    pub schemas_at : AllByRecursion (λ leaf. HasSchema grown.groups leaf.number leaf.columns) news
    pub following : after_leaves (map side_of news) ≡ first
    pub starts : length grown.groups ≡ first
    pub inside : AllInside (map (λ leaf. leaf.columns) news) conds
    pub fits : leaves_fit (length news) conds ≡ true
    pub risen : AllByRecursion (λ leaf. rising (leaf.columns ++ []) ≡ leaf.columns) news
    pub counted : length part.leaves ≡ length news

  module _ (each_level : length levels ≡ length blocks) (block : ℕ) (part : BlockPart) (conds : List Cond) (old_first first : ℕ) where
    abbrev its_level : Level
    its_level = level_at blocks levels block

    abbrev olds_of : List BlockLeaf → List GroupOf
    olds_of olds = block_groups block level.Written conds olds old_first

    abbrev news_of : List BlockLeaf → List GroupOf
    news_of news = block_groups block its_level conds news first

    -- ---- one leaf

    one-groups : (l : Level) (leaf : BlockLeaf) (start : ℕ) → AllInside (leaf.columns ∷ []) conds → is_empty conds ≡ false → block_groups block l conds (leaf ∷ []) start ≡ second_group block 0 leaf conds
    one-groups l leaf start all some =
        ap₂ (λ a b. (a ++ []) ++ map (set_group block l conds (leaf ∷ []) start) b) (ap (second_group block 0 leaf) (all-inside_leaf block l conds start leaf all some)) (none-kept block l conds start)
        ∙ append-nil (second_group block 0 leaf conds ++ []) ∙ append-nil (second_group block 0 leaf conds)

    one-second : (grown : Grown) (old new : BlockLeaf) (some : List Cond) → is_empty some ≡ false → OneLeaf grown.numbers old new → length grown.groups < most
        → OwnGoes grown (second_group block 0 old some) (second_group block 0 new some) new.columns
    one-second grown old new [] none leaf room = absurd (true≢false none)
    one-second grown old new (c ∷ rest) more leaf room = record {
      added = record { 0 = length grown.groups } ∷ [];
      goes = second-goes tables blocks levels useful block 0 old new grown leaf c rest room;
      ends = ends-one tables blocks levels useful grown _ _;
      some = omega arith;
    }

    one-own : (grown : Grown) (old new : BlockLeaf) → LeavesReady grown block part conds (old ∷ []) (new ∷ []) first
        → OwnGoes grown (olds_of (old ∷ [])) (news_of (new ∷ [])) (rising (new.columns ++ []))
    one-own grown old new is =
        let some = (fitting 1 conds is.fits).1 refl in
        let old_inside = subst (λ columns. AllInside (columns ∷ []) conds) (sym is.same.0.columns) is.inside in
        subst (OwnGoes grown (olds_of (old ∷ [])) (news_of (new ∷ []))) (sym is.risen.0)
        (subst (λ groups. OwnGoes grown (olds_of (old ∷ [])) groups new.columns) (sym (one-groups its_level new first is.inside some))
        (subst (λ groups. OwnGoes grown groups (second_group block 0 new conds) new.columns) (sym (one-groups level.Written old old_first old_inside some))
        (one-second grown old new conds some is.same.0 is.ready.room)))

    -- ---- several leaves

    module _ (grown : Grown) (olds news : List BlockLeaf) (is : LeavesReady grown block part conds olds news first) (several : 2 ≤ length news) (total : length grown.groups + length (news_of news) < most) where
      abbrev ids : List GroupId
      ids = map leaf_id news

      abbrev whole : ℕ
      whole = 2 ^ length news - 1

      abbrev seconds_of : List BlockLeaf → List GroupOf
      seconds_of leaves = second_groups block conds 0 leaves

      abbrev written : ℕ → GroupOf
      written mask = set_group block level.Written conds olds old_first mask

      abbrev sets : List GroupOf
      sets = map (set_group block its_level conds news first) (filter (has_set its_level) (below (2 ^ length news)))

      abbrev columns : List Columns
      columns = map (λ leaf. leaf.columns) news

      seconds-room : length grown.groups + length (seconds_of news) < most
      seconds-room = let sum = length-append (seconds_of news) sets in omega (arith, sum, total)

      some-sets : 1 ≤ length sets
      some-sets =
          let split = ap length (sets-split (set_group block its_level conds news first) its_level (length news) several) in
          let sum = length-append (map (set_group block its_level conds news first) (filter (has_set its_level) (below whole))) (set_group block its_level conds news first whole ∷ []) in
          omega (arith, split, sum)

      first-goes : (added : List GroupId) × Goes blocks levels useful grown (seconds_of olds) (seconds_of news) added
      first-goes = seconds-go tables blocks levels useful block conds 0 olds news grown is.same seconds-room

      module _ (added : List GroupId) (goes : Goes blocks levels useful grown (seconds_of olds) (seconds_of news) added) where
        abbrev next : Grown
        next = after blocks levels useful grown (seconds_of news) added

        next-length : length next.groups ≡ length grown.groups + length (seconds_of news)
        next-length =
            let sum = length-append grown.groups (kept blocks levels useful (seconds_of news)) in
            let kept_length = length-map (seconds_of news) (kept_group useful) in
            omega (arith, sum, kept_length)

        next-ready : Ready tables blocks levels useful next block part ids
        next-ready =
            let count = next-length in
            let sum = length-append (seconds_of news) sets in
            let some = some-sets in
            record {
              at = is.ready.at;
              few = is.ready.few;
              finds = finds-more grown.numbers added part.leaves ids is.ready.finds;
              there = each-less (length grown.groups) (length next.groups) (omega (arith, count)) ids is.ready.there;
              room = omega (arith, count, sum, some, total);
            }

        left-goes : (left : List GroupId) × Goes blocks levels useful next (map written (filter (has_set level.Written) (below whole))) [] left
        left-goes =
            left-all tables blocks levels useful each_level block part ids conds olds old_first (below whole)
            (each-below whole (2 ^ length part.leaves) (ones ∙ ap (λ n. 2 ^ n) (sym is.counted)) (below whole) (below-less whole whole (omega arith))) next next-ready
          where
            ones : whole + 1 ≡ 2 ^ length news
            ones = let is_suc = suc_ones (length news) in omega (arith, is_suc)

        module _ (left : List GroupId) (goes_left : Goes blocks levels useful next (map written (filter (has_set level.Written) (below whole))) [] left) where
          abbrev last : Grown
          last = after blocks levels useful next [] left

          last-length : length last.groups ≡ length next.groups
          last-length = ap length (append-nil next.groups)

          last-whole : IsWhole tables blocks levels useful each_level block part ids conds olds old_first news first last
          last-whole =
              let is_suc = suc_ones (length news) in
              let ones : whole + 1 ≡ 2 ^ length news = omega (arith, is_suc) in
              record {
                ready = ready-on tables blocks levels useful each_level block part ids conds olds old_first next left next-ready;
                conds_same = is.conds_same;
                ids_same = refl;
                schemas_at =
                    each-schema tables blocks levels useful next.groups [] news (each-schema tables blocks levels useful grown.groups (kept blocks levels useful (seconds_of news)) news is.schemas_at);
                columns = columns-same grown.numbers olds news is.same;
                following = is.following;
                starts =
                    let count = next-length in
                    let more = last-length in
                    let seconds = ap length (seconds-kept useful block conds 0 news) ∙ length-map (seconds_of news) (kept_group useful) in
                    omega (arith, count, more, seconds, is.starts);
                has = has-whole level.Written (length news) several;
                all = ones ∙ ap (λ n. 2 ^ n) (sym is.counted);
              }

          abbrev last_id : GroupId
          last_id = last_of (last.groups ++ kept blocks levels useful sets)

          whole-step : Goes blocks levels useful last (written whole ∷ []) sets (last_id ∷ [])
          whole-step = whole-goes tables blocks levels useful each_level block part ids conds olds old_first news first last last-whole

          whole-ends : Ends tables blocks levels useful last (written whole ∷ []) sets (last_id ∷ []) (rising (flat_map (λ columns. columns) columns))
          whole-ends =
              let numbers : (length last.numbers + 1) - 1 ≡ length last.numbers = omega arith in
              let count = length-append last.groups (kept blocks levels useful sets) in
              let kept_length = length-map sets (kept_group useful) in
              let value : length (last.groups ++ kept blocks levels useful sets) - 1 ≡ (length last.groups + length sets) - 1 = omega (arith, count, kept_length) in
              record {
                own = ap (slice_get (last.numbers ++ last_id ∷ [])) numbers ∙ at-end last.numbers last_id [] ∙ ap (λ n. Some (record { 0 = n })) value;
                schema =
                    ap (λ some. option_map (λ (g : Group). g.schema) (slice_get (last.groups ++ kept blocks levels useful some) ((length last.groups + length some) - 1)))
                    (sets-split (set_group block its_level conds news first) its_level (length news) several)
                    ∙ last-schema last.groups (map (set_group block its_level conds news first) (filter (has_set its_level) (below whole))) (set_group block its_level conds news first whole)
                    ∙ ap (λ all. Some (rising all)) (whole-columns tables blocks levels useful each_level block part ids conds olds old_first news first columns (length-map news (λ leaf. leaf.columns)));
              }

          split-olds : olds_of olds ≡ seconds_of olds ++ (map written (filter (has_set level.Written) (below whole)) ++ written whole ∷ [])
          split-olds =
              ap (λ n. seconds_of olds ++ map written (filter (has_set level.Written) (below (2 ^ n)))) (leaves-length grown.numbers olds news is.same)
              ∙ ap (λ all. seconds_of olds ++ all) (sets-split written level.Written (length news) several)

          several-made : OwnGoes grown (olds_of olds) (news_of news) (rising (flat_map (λ columns. columns) columns))
          several-made =
              subst (λ groups. OwnGoes grown groups (news_of news) (rising (flat_map (λ columns. columns) columns))) (sym split-olds)
              (record {
                added = added ++ (left ++ last_id ∷ []);
                goes =
                    goes-append blocks levels useful grown (seconds_of olds) (map written (filter (has_set level.Written) (below whole)) ++ written whole ∷ []) (seconds_of news) sets added (left ++ last_id ∷ []) goes
                    (goes-append blocks levels useful next (map written (filter (has_set level.Written) (below whole))) (written whole ∷ []) [] sets left (last_id ∷ []) goes_left whole-step);
                ends =
                    ends-append tables blocks levels useful grown (seconds_of olds) (map written (filter (has_set level.Written) (below whole)) ++ written whole ∷ []) (seconds_of news) sets added (left ++ last_id ∷ []) _ goes.each
                    (ends-append tables blocks levels useful next (map written (filter (has_set level.Written) (below whole))) (written whole ∷ []) [] sets left (last_id ∷ []) _ goes_left.each whole-ends);
                some = (let sum = length-append (seconds_of news) sets in let more = some-sets in omega (arith, sum, more));
              })

      several-own : OwnGoes grown (olds_of olds) (news_of news) (rising (flat_map (λ columns. columns) columns))
      several-own =
          let one = first-goes in
          let two = left-goes one.0 one.1 in
          several-made one.0 one.1 two.0 two.1

    pub own-goes : (grown : Grown) (olds news : List BlockLeaf) → LeavesReady grown block part conds olds news first → length grown.groups + length (news_of news) < most
        → OwnGoes grown (olds_of olds) (news_of news) (rising (flat_map (λ columns. columns) (map (λ leaf. leaf.columns) news)))
    own-goes grown [] [] is total = absurd (true≢false (sym is.fits))
    own-goes grown [] (new ∷ news) is total = absurd is.same
    own-goes grown (old ∷ olds) [] is total = absurd is.same
    own-goes grown (old ∷ []) (new ∷ []) is total = one-own grown old new is
    own-goes grown (old ∷ []) (new ∷ second ∷ news) is total = absurd is.same.1
    own-goes grown (old ∷ second ∷ olds) (new ∷ []) is total = absurd is.same.1
    own-goes grown (old ∷ second ∷ olds) (new ∷ other ∷ news) is total = several-own grown (old ∷ second ∷ olds) (new ∷ other ∷ news) is (omega arith) total
