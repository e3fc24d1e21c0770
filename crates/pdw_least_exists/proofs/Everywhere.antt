-- Groups in rising number, each after its children: so there is a table of least costs.
use Rattle.std.proofs.Common.{◌≡◌, ◌≤◌, ◌<◌, ℕ, zero, suc, List, [], ◌∷◌, ◌++◌, length, length-append, Option, Some, refl, sym, arith}
use Rattle.std.specs.List.{slice_get}
use Rattle.pdw_groups.specs.declared.group.Group.{Group}
use Rattle.pdw_groups.specs.declared.key.GroupId.{GroupId}
use Rattle.pdw_least.proofs.Passes.{local-going}
use Rattle.pdw_least.proofs.Tables.{row-start, table-least, table-more, table-none, table-shape, table-valid}
use Rattle.pdw_least.specs.Premises.{AreLight, AreOrdered}
use Rattle.pdw_least.specs.States.{IsTable, blank_row, worth}
use Rattle.pdw_least.specs.declared.entry.Entry.{Entry}
use Rattle.pdw_least_exists.proofs.Looks.{look, settle}
use Rattle.pdw_least_exists.specs.Exists.{AreCheap, HasLeastTable}
use Rattle.pdw_move.specs.declared.kinds.Prop.{Prop}
use Rattle.pdw_rules.specs.Rules.{properties_of}
use Rattle.pdw_ways.specs.Ways.{Costs}

some-at : (groups : List Group) (number : ℕ) → number < length groups → (group : Group) × (slice_get groups number ≡ Some group)
some-at [] number small = absurd (omega arith)
some-at (group ∷ groups) zero small = (group, refl)
some-at (group ∷ groups) (suc number) small = some-at groups number (omega arith)

module _ (groups : List Group) (costs : Costs) where
  -- a table of the groups below a number
  pub record HasTable (count : ℕ) : Type 0 where
    pub lists : List (List (Option ℕ))
    pub log : List Entry
    pub table : IsTable groups costs lists log
    pub size : length lists ≡ count

  module _ (ordered : AreOrdered groups) (light : AreLight groups) (cheap : AreCheap costs) where
    one-more : (count : ℕ) (before : HasTable count) (number : GroupId) → number.0 ≡ length before.lists → (group : Group) → slice_get groups number.0 ≡ Some group → HasTable (suc count)
    one-more count before number next group there =
        let props : List Prop = properties_of group.interesting in
        let start = row-start groups costs before.lists number next group there before.log before.table in
        let looked = look groups costs before.lists number group there ordered before.table.within props props [] refl (blank_row props) before.log start in
        let going = local-going groups costs before.lists number group there props looked.row looked.log looked.is in
        let settled = settle groups costs before.lists number group there light cheap props (suc (worth looked.row)) looked.row looked.log (omega arith) going in
        record {
          lists = before.lists ++ settled.row ∷ [];
          log = settled.log;
          table = table-more groups costs before.lists number next group there ordered before.log settled.log settled.row before.table settled.going settled.settled;
          size = (let sum = length-append before.lists (settled.row ∷ []) in let size = before.size in omega (arith, sum, size));
        }

    so-far : (count : ℕ) → count ≤ length groups → HasTable count
    so-far zero few = record { lists = []; log = []; table = table-none groups costs; size = refl }
    so-far (suc count) few =
        let before = so-far count (omega arith) in
        let found = some-at groups count (omega arith) in
        one-more count before (record { 0 = count }) (sym before.size) found.0 found.1

    pub least-table : HasLeastTable groups costs
    least-table =
        let all = so-far (length groups) (omega arith) in
        record {
          lists = all.lists;
          log = all.log;
          is = record {
            shape = table-shape groups costs all.lists all.log all.table all.size;
            valid = table-valid groups costs all.lists all.log all.table all.size;
            least = table-least groups costs all.lists all.log all.table all.size;
            is_log = all.table.is_log;
            kept = all.table.kept;
            within = all.table.within;
          };
        }
