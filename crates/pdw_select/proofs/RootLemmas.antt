-- The last group of a memo is there, and has the columns of the root.
use Rattle.std.proofs.Common.{◌≡◌, ◌<◌, ◌≤◌, ◌-◌, List, length, get_or, sym, ap, subst, ◌∙◌, arith}
use Rattle.std.proofs.lemmas.Option.{slice_get-get_or, slice_get_within}
use Rattle.pdw_dsql.specs.Steps.{root_schema, schema_of_some}
use Rattle.pdw_enum.proofs.Columns.{memo-rooted}
use Rattle.pdw_groups.specs.Memo.{Contents}
use Rattle.pdw_groups.specs.declared.group.Group.{Group}
use Rattle.pdw_memo.specs.Memo.{IsMemo}

module _ (memo : Contents) (is : IsMemo memo) (groups : List Group) (of : groups ≡ memo.groups) where
  last-there : length memo.groups - 1 < length memo.groups
  last-there = let rooted = memo-rooted memo is in slice_get_within memo.groups (length memo.groups - 1) rooted.root rooted.there

  pub root-within : length groups - 1 < length groups
  root-within = subst (λ (gs : List Group). length gs - 1 < length gs) (sym of) last-there

  pub root-some : 1 ≤ length groups
  root-some = let within = root-within in omega (arith, within)

  pub root-columns : (d : Group) → (get_or groups (length groups - 1) d).schema ≡ root_schema memo.groups
  root-columns d = sym (ap schema_of_some (slice_get-get_or groups (length groups - 1) d root-within)) ∙ ap root_schema of
