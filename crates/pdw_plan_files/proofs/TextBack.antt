-- The compact text of a plan file is UTF-8, and is read as the data of the file.
use Rattle.std.proofs.Common.{◌≡◌, ◌≤◌, ◌<◌, ◌+◌, ◌^◌, ◌&&◌, ℕ, suc, Bool, true, false, List, [], ◌∷◌, map, codes, decimal, Option, Some, None, refl, sym, ap, subst, ◌∙◌, arith, append-nil}
use Rattle.std.proofs.lemmas.Bool.{and_parts, leb-true, ltb-true}
use Rattle.std.proofs.lemmas.Fmt.{IsAscii-decimal_wide}
use Rattle.std.proofs.lemmas.Str.{IsUtf8-append, IsUtf8-from_ascii, IsUtf8-nil}
use Rattle.std.specs.List.{AllByRecursion, list_all}
use Rattle.std.specs.Option.{option_and_then, option_map}
use Rattle.std.specs.Prelude.{IsUtf8}
use Rattle.json.proofs.Printed.Decimals.{IsNumber-decimal}
use Rattle.json.proofs.Printed.Tokens.{tokens-print}
use Rattle.json.proofs.Printed.Trees.{ArePrintable-json_tokens, value-json_tokens}
use Rattle.json.proofs.Printed.Utf8.{IsUtf8-are_ascii, IsUtf8-quoted, are_ascii}
use Rattle.json.specs.Json as json
use Rattle.json.specs.Lex.{tokens}
use Rattle.json.specs.Print.{quoted}
use Rattle.json.specs.Token.{Token}
use Rattle.json.specs.Tree as tree
use Rattle.json.specs.Tree.{HasNumbers, ItemsHaveNumbers, json_tokens}
use Rattle.serde_json.proofs.Numbers.{number_of-decimal}
use Rattle.serde_json.proofs.Texts.{print-outline}
use Rattle.serde_json.specs.Data.{Data, Members, array, member, no_members, number, object, string}
use Rattle.serde_json.specs.Read.{max_depth, of_items, of_json, read}
use Rattle.serde_json.specs.View.{items_of}
use Rattle.serde_json.specs.Written.{comma_if, compact_text, items_outline, items_text, members_text, outline}
use Rattle.pdw_cert.proofs.Searches.{all-append}
use Rattle.pdw_groups.specs.declared.key.GroupId.{GroupId}
use Rattle.pdw_move.specs.declared.kinds.Move.{Move}
use Rattle.pdw_move.specs.declared.kinds.Move.TheVariants as move
use Rattle.pdw_move.specs.declared.kinds.Prop.{Prop}
use Rattle.pdw_move.specs.declared.kinds.Prop.TheVariants as prop
use Rattle.pdw_planjson.specs.Limits.{IsBound, IsFile, has_column, has_numbers, is_group, numbers_step}
use Rattle.pdw_planjson.specs.Written.{Listing, bound_data, bound_word, count_of_all, file_data, kind_word, list_data, listed_over, listing, listing_step, move_word, node_data, nodes_of_all, prop_of, prop_word, roots, whole}
use Rattle.pdw_planjson.specs.declared.file.PlanFile.{PlanFile}
use Rattle.pdw_planjson.specs.declared.line.Task.{Task}
use Rattle.pdw_planjson.specs.declared.line.Task.TheVariants as task
use Rattle.pdw_ways.proofs.PlanFolds.{by_plans, fold-free, fold-moved, fold-op, fold-scan}
use Rattle.pdw_ways.specs.declared.plan.Plan.{Plan}

-- ---- data whose text is UTF-8 and reads back, and that is no deeper than this

record Back (n : ℕ) (d : Data) : Type 0 where
  numbers : HasNumbers (outline d)
  reads : of_json (outline d) ≡ Some d
  flat : tree.depth (outline d) ≤ n
  utf8 : IsUtf8 (compact_text d)

record BackItems (n : ℕ) (ds : List Data) : Type 0 where
  numbers : ItemsHaveNumbers (items_outline (items_of ds))
  reads : of_items (items_outline (items_of ds)) ≡ Some (items_of ds)
  flat : tree.items_depth (items_outline (items_of ds)) ≤ n
  utf8 : (later : Bool) → IsUtf8 (items_text later (items_of ds))

comma-utf8 : (later : Bool) → IsUtf8 (comma_if later)
comma-utf8 true = IsUtf8-are_ascii (44 ∷ []) refl
comma-utf8 false = IsUtf8-nil

back-items : (n : ℕ) (ds : List Data) → AllByRecursion (Back n) ds → BackItems n ds
back-items n [] all = record { numbers = tt; reads = refl; flat = omega arith; utf8 = λ later. IsUtf8-are_ascii (93 ∷ []) refl }
back-items n (d ∷ ds) all =
    let first = all.0 in
    let rest = back-items n ds all.1 in
    record {
      numbers = (first.numbers, rest.numbers);
      reads = rw (first.reads, rest.reads) refl;
      flat = omega (arith, first.flat, rest.flat);
      utf8 = λ later. IsUtf8-append (comma_if later) _ (comma-utf8 later) (IsUtf8-append (compact_text d) _ first.utf8 (rest.utf8 true));
    }

back-array : (n : ℕ) (ds : List Data) → AllByRecursion (Back n) ds → Back (suc n) (array (items_of ds))
back-array n ds all =
    let items = back-items n ds all in
    record {
      numbers = items.numbers;
      reads = ap (option_map array) items.reads;
      flat = omega (arith, items.flat);
      utf8 = IsUtf8-append (91 ∷ []) _ (IsUtf8-are_ascii (91 ∷ []) refl) (items.utf8 false);
    }

decimal-utf8 : (n : ℕ) → n < 10 ^ 64 → IsUtf8 (decimal n)
decimal-utf8 n small = IsUtf8-from_ascii (decimal n) (IsAscii-decimal_wide n small)

back-whole : (n : ℕ) → n < 2 ^ 64 → Back 0 (whole n)
back-whole n small = record { numbers = IsNumber-decimal n small; reads = ap (option_map number) (number_of-decimal n small); flat = omega arith; utf8 = decimal-utf8 n (omega arith) }

back-string : (s : List ℕ) → IsUtf8 s → Back 0 (string s)
back-string s utf8 = record { numbers = tt; reads = refl; flat = omega arith; utf8 = IsUtf8-quoted s utf8 }

-- members whose text is UTF-8, behind a comma or not
record MembersUtf8 (ms : Members) : Type 0 where
  utf8 : (later : Bool) → IsUtf8 (members_text later ms)

members-end : MembersUtf8 no_members
members-end = record { utf8 = λ later. IsUtf8-are_ascii (125 ∷ []) refl }

with-member : {n : ℕ} {d : Data} {more : Members} (key : List ℕ) → are_ascii key ≡ true → Back n d → MembersUtf8 more → MembersUtf8 (member key d more)
with-member {n} {d} {more} key ascii back rest = record {
  utf8 = λ later.
      IsUtf8-append (comma_if later) _ (comma-utf8 later)
      (IsUtf8-append (quoted key) _ (IsUtf8-quoted key (IsUtf8-are_ascii key ascii)) (IsUtf8-append (58 ∷ []) _ (IsUtf8-are_ascii (58 ∷ []) refl) (IsUtf8-append (compact_text d) _ back.utf8 (rest.utf8 true))));
}

object-utf8 : {ms : Members} → MembersUtf8 ms → IsUtf8 (compact_text (object ms))
object-utf8 of = IsUtf8-append (123 ∷ []) _ (IsUtf8-are_ascii (123 ∷ []) refl) (of.utf8 false)

-- ---- words

move-utf8 : (mv : Move) → IsUtf8 (move_word mv)
move-utf8 (move.Shuffle c) = IsUtf8-are_ascii (codes "shuffle") refl
move-utf8 move.ToSingle = IsUtf8-are_ascii (codes "tosingle") refl
move-utf8 move.ToControl = IsUtf8-are_ascii (codes "tocontrol") refl
move-utf8 move.Broadcast = IsUtf8-are_ascii (codes "broadcast") refl
move-utf8 (move.Trim c) = IsUtf8-are_ascii (codes "trim") refl
move-utf8 move.FromControl = IsUtf8-are_ascii (codes "fromcontrol") refl
move-utf8 move.FromSingle = IsUtf8-are_ascii (codes "fromsingle") refl

kind-utf8 : (t : Task) → IsUtf8 (kind_word t)
kind-utf8 (task.Scan p) = IsUtf8-are_ascii (codes "scan") refl
kind-utf8 (task.Op p) = IsUtf8-are_ascii (codes "op") refl
kind-utf8 (task.Free p) = IsUtf8-are_ascii (codes "free") refl
kind-utf8 (task.Move mv) = move-utf8 mv

prop-utf8 : (p : Prop) → has_column p ≡ true → IsUtf8 (prop_word p)
prop-utf8 prop.Spread fits = IsUtf8-are_ascii (codes "spread") refl
prop-utf8 (prop.Hash c) fits = let small = leb-true c.0 65535 fits in IsUtf8-append (codes "hash:") (decimal c.0) (IsUtf8-are_ascii (codes "hash:") refl) (decimal-utf8 c.0 (omega (arith, small)))
prop-utf8 prop.Replicated fits = IsUtf8-are_ascii (codes "replicated") refl
prop-utf8 prop.Single fits = IsUtf8-are_ascii (codes "single") refl
prop-utf8 prop.Control fits = IsUtf8-are_ascii (codes "control") refl

bound-utf8 : (bound : Option ℕ) → IsBound bound → IsUtf8 (bound_word bound)
bound-utf8 None small = IsUtf8-are_ascii (codes "none") refl
bound-utf8 (Some n) small = decimal-utf8 n (omega (arith, small))

-- ---- nodes

back-node : (kids : List Data) (group : GroupId) (t : Task) → AllByRecursion (Back 0) kids → group.0 < 2 ^ 64 → has_column (prop_of t) ≡ true → Back 2 (node_data kids group t)
back-node kids group t all small fits =
    let list = back-array 0 kids all in
    let number = back-whole group.0 small in
    let kind = back-string (kind_word t) (kind-utf8 t) in
    let stands = back-string (prop_word (prop_of t)) (prop-utf8 (prop_of t) fits) in
    record {
      numbers = (list.numbers, (number.numbers, (tt, (tt, tt))));
      reads = rw (list.reads, number.reads) refl;
      flat = omega (arith, list.flat, number.flat, kind.flat, stands.flat);
      utf8 = object-utf8 (with-member (codes "children") refl list (with-member (codes "group") refl number (with-member (codes "kind") refl kind (with-member (codes "prop") refl stands members-end))));
    }

back-roots : (start : ℕ) (ls : List Listing) → start + count_of_all ls ≤ 2 ^ 64 → AllByRecursion (Back 0) (roots start ls)
back-roots start [] few = tt
back-roots start (l ∷ more) few = (back-whole (start + l.before) (omega (arith, few)), back-roots (start + l.before + 1) more (omega (arith, few)))

record BackListing (l : Listing) : Type 0 where
  group : l.group.0 < 2 ^ 64
  nodes : (start : ℕ) → start + l.before < 2 ^ 64 → AllByRecursion (Back 2) (l.nodes start)

back-all : (ls : List Listing) → AllByRecursion BackListing ls → (start : ℕ) → start + count_of_all ls ≤ 2 ^ 64 → AllByRecursion (Back 2) (nodes_of_all start ls)
back-all [] all start few = tt
back-all (l ∷ more) all start few =
    let later = start + l.before + 1 in
    all-append (Back 2) (l.nodes start) (nodes_of_all later more) (all.0.nodes start (omega (arith, few))) (back-all more all.1 later (omega (arith, few)))

back-over : (ls : List Listing) (group : GroupId) (t : Task) → AllByRecursion BackListing ls → group.0 < 2 ^ 64 → has_column (prop_of t) ≡ true → BackListing (listed_over ls group t)
back-over ls group t all small fits = record {
  group = small;
  nodes = λ start few.
      all-append (Back 2) (nodes_of_all start ls) (node_data (roots start ls) group t ∷ []) (back-all ls all start (omega (arith, few)))
      (back-node (roots start ls) group t (back-roots start ls (omega (arith, few))) small fits, tt);
}

group-small : (group : GroupId) → is_group group ≡ true → group.0 < 2 ^ 64
group-small group is = let small = ltb-true group.0 (2 ^ 32) is in omega (arith, small)

abbrev BackPlan : Plan → Type 0
BackPlan p = has_numbers p ≡ true → BackListing (listing p)

back-children : (children : List Plan) → AllByRecursion BackPlan children → list_all (λ child. child) (map has_numbers children) ≡ true → AllByRecursion BackListing (map listing children)
back-children [] all numbers = tt
back-children (child ∷ more) all numbers = let parts = and_parts (has_numbers child) (list_all (λ child. child) (map has_numbers more)) numbers in (all.0 parts.0, back-children more all.1 parts.1)

back-plan : (p : Plan) → BackPlan p
back-plan = by_plans BackPlan (record {
  scan = λ group p numbers.
      let parts = and_parts (is_group group) (has_column p) (sym (fold-scan numbers_step group p) ∙ numbers) in
      subst BackListing (sym (fold-scan listing_step group p)) (back-over [] group (task.Scan p) tt (group-small group parts.0) parts.1);
  op = λ group p children all numbers.
      let both = and_parts (is_group group && has_column p) (list_all (λ child. child) (map has_numbers children)) (sym (fold-op numbers_step group p children) ∙ numbers) in
      let parts = and_parts (is_group group) (has_column p) both.0 in
      subst BackListing (sym (fold-op listing_step group p children)) (back-over (map listing children) group (task.Op p) (back-children children all both.1) (group-small group parts.0) parts.1);
  moved = λ mv child below numbers.
      let parts = and_parts (has_column (prop_of (task.Move mv))) (has_numbers child) (sym (fold-moved numbers_step mv child) ∙ numbers) in
      let under = below parts.1 in
      subst BackListing (sym (fold-moved listing_step mv child)) (back-over (listing child ∷ []) (listing child).group (task.Move mv) (under, tt) under.group parts.0);
  free = λ to child below numbers.
      let parts = and_parts (has_column to) (has_numbers child) (sym (fold-free numbers_step to child) ∙ numbers) in
      let under = below parts.1 in
      subst BackListing (sym (fold-free listing_step to child)) (back-over (listing child ∷ []) (listing child).group (task.Free to) (under, tt) under.group parts.0);
})

-- ---- bounds

back-bounds : (bounds : List (Option ℕ)) → AllByRecursion IsBound bounds → AllByRecursion (Back 0) (map bound_data bounds)
back-bounds [] small = tt
back-bounds (bound ∷ more) small = (back-string (bound_word bound) (bound-utf8 bound small.0), back-bounds more small.1)

back-lists : (lists : List (List (Option ℕ))) → AllByRecursion (AllByRecursion IsBound) lists → AllByRecursion (Back 1) (map list_data lists)
back-lists [] small = tt
back-lists (list ∷ more) small = (back-array 0 (map bound_data list) (back-bounds list small.0), back-lists more small.1)

-- ---- the whole

back-file : (file : PlanFile) → IsFile file → has_numbers file.plan ≡ true → Back 4 (file_data file)
back-file file is numbers =
    let few = is.nodes in
    let cheap = is.cost in
    let bounds = back-array 1 (map list_data file.bounds.lists) (back-lists file.bounds.lists is.bounds) in
    let cost = back-string (decimal file.cost) (decimal-utf8 file.cost (omega (arith, cheap))) in
    let nodes = back-array 2 ((listing file.plan).nodes 0) ((back-plan file.plan numbers).nodes 0 (omega (arith, few))) in
    let version = back-whole 1 (omega arith) in
    record {
      numbers = (bounds.numbers, (tt, (nodes.numbers, (version.numbers, tt))));
      reads = rw (bounds.reads, nodes.reads, version.reads) refl;
      flat = omega (arith, bounds.flat, cost.flat, nodes.flat, version.flat);
      utf8 = object-utf8 (with-member (codes "bounds") refl bounds (with-member (codes "cost") refl cost (with-member (codes "nodes") refl nodes (with-member (codes "version") refl version members-end))));
    }

text-reads : (d : Data) → Back 4 d → read (compact_text d) ≡ Some d
text-reads d back =
    let written : tokens (compact_text d) ≡ json_tokens (outline d) = ap tokens (sym (print-outline d)) ∙ tokens-print (json_tokens (outline d)) (ArePrintable-json_tokens (outline d) back.numbers) in
    let found = ap (json.value max_depth) (written ∙ sym (append-nil (json_tokens (outline d)))) ∙ value-json_tokens (outline d) max_depth [] (omega (arith, back.flat)) in
    ap (λ (r : Option (json.Json × List Token)). option_and_then of_json (option_and_then (λ p. json.if_last p.0 p.1) r)) found ∙ back.reads

pub record TextBack (file : PlanFile) : Type 0 where
  pub utf8 : IsUtf8 (compact_text (file_data file))
  pub reads : read (compact_text (file_data file)) ≡ Some (file_data file)

pub text-back : (file : PlanFile) → IsFile file → has_numbers file.plan ≡ true → TextBack file
text-back file is numbers = let back = back-file file is numbers in record { utf8 = back.utf8; reads = text-reads (file_data file) back }
