-- The output names and the order keys of a judged SELECT are those of its meaning by names.
use Rattle.std.proofs.Common.{◌≡◌, ℕ, ◌+◌, Bool, true, false, if◌then◌else◌, List, [], ◌∷◌, ◌++◌, length, map, Option, Some, None, refl, sym, ap, subst, ◌∙◌, codes}
use Rattle.std.specs.Str.{bytes_eq}
use Rattle.pdw_syntax.specs.declared.expr.SqlExpr.{SqlExpr}
use Rattle.pdw_syntax.specs.declared.query.Item.{Item}
use Rattle.pdw_syntax.specs.declared.query.Item.TheVariants as item
use Rattle.pdw_syntax.specs.declared.query.Items.{Items}
use Rattle.pdw_syntax.specs.declared.query.Items.TheVariants.{Star, List as Listed}
use Rattle.pdw_expr.specs.declared.scalar.Scalar.{Scalar}
use Rattle.pdw_base.specs.declared.value.Kind.{Kind}
use Rattle.pdw_walk.proofs.Outcomes.{done_value, in_turn, refused_not_done}
use Rattle.pdw_walk.specs.Exprs.{expr}
use Rattle.pdw_walk.specs.Items.{alias_column, alias_star, item_walk, items_walk, made_item, made_output, no_outputs, room_for_output, star_column, with_output}
use Rattle.pdw_walk.specs.Lookup.{Place, own_column, qualified}
use Rattle.pdw_walk.specs.Names.{item_name}
use Rattle.pdw_walk.specs.Walk.{Step, Walk, ◌>>=◌, done, is_among, made_number, over, pure, refused}
use Rattle.pdw_walk.specs.declared.entry.Column.{Column}
use Rattle.pdw_walk.specs.declared.entry.Entry.{Entry}
use Rattle.pdw_walk.specs.declared.entry.Numbered.{Numbered}
use Rattle.pdw_walk.specs.declared.entry.Outputs.{Outputs}
use Rattle.pdw_walk.specs.declared.entry.Role.{Role}
use Rattle.pdw_walk.specs.declared.entry.Role.TheVariants as role
use Rattle.pdw_walk.specs.declared.entry.Slot.{Slot}
use Rattle.pdw_walk.specs.declared.entry.Typed.{Typed}
use Rattle.pdw_walk.specs.declared.fault.JudgeFault.TheVariants.{UnknownColumn}
use Rattle.pdw_form.specs.declared.judged.JItem.{JItem}
use Rattle.std.proofs.lemmas.List.{map-append}

-- ---- each output column has its item's name

abbrev pub item_names : List JItem → List (List ℕ)
item_names items = map (λ (i : JItem). i.name) items

abbrev pub column_names : List Column → List (List ℕ)
column_names columns = map (λ (c : Column). c.name) columns

abbrev pub SameNames : Outputs → Type 0
SameNames outputs = item_names outputs.items ≡ column_names outputs.columns

over_keeps : {A B : Type 0} (P : B → Type 0) (step : B → A → Step B) → ((b : B) (x : A) (w : Walk) (b' : B) (w' : Walk) → P b → step b x w ≡ done b' w' → P b')
    → (xs : List A) (b : B) (w : Walk) (b' : B) (w' : Walk) → P b → over step b xs w ≡ done b' w' → P b'
over_keeps P step keeps [] b w b' w' now walked = subst P (done_value walked) now
over_keeps P step keeps (x ∷ xs) b w b' w' now walked =
    let turn = in_turn (step b x w) (λ more. over step more xs) b' w' walked in
    over_keeps P step keeps xs turn.value turn.middle b' w' (keeps b x w turn.value turn.middle now turn.begun) turn.ended

pushed : (before : Outputs) (name : List ℕ) (kind : Kind) (column : Numbered) (make : Option Scalar) → SameNames before → SameNames (with_output before name kind column make)
pushed before name kind column make same =
    map-append (λ (i : JItem). i.name) before.items (record { name = name; out = column.number; make = make } ∷ [])
    ∙ ap (λ names. names ++ name ∷ []) same
    ∙ sym (map-append (λ (c : Column). c.name) before.columns (record { name = name; kind = kind; slot = column.slot } ∷ []))

star_named : (keys : Option (List Slot)) (alias : Option (List ℕ)) (before : Outputs) (entry : Entry) (w : Walk) (after : Outputs) (w' : Walk) → SameNames before → star_column keys alias before entry w ≡ done after w' → SameNames after
unfolding star_column
star_named keys alias before entry w after w' same walked =
    let room = in_turn (room_for_output before w) (λ _. own_column keys (qualified alias entry.column) entry >>= (λ met. pure (with_output before entry.column met.kind met.column None))) after w' walked in
    let met = in_turn (own_column keys (qualified alias entry.column) entry room.middle) (λ met. pure (with_output before entry.column met.kind met.column None)) after w' room.ended in
    subst SameNames (done_value met.ended) (pushed before entry.column (met.value).kind (met.value).column None same)

output_named : (before : Outputs) (name : List ℕ) (x : Typed) (bare : Option Numbered) (w : Walk) (after : Outputs) (w' : Walk) → SameNames before → made_output before name x bare w ≡ done after w' → SameNames after
output_named before name x (Some column) w after w' same walked = subst SameNames (done_value walked) (pushed before name x.kind column None same)
output_named before name x None w after w' same walked =
    let made = in_turn (made_number w) (λ column. pure (with_output before name x.kind column (Some x.scalar))) after w' walked in
    subst SameNames (done_value made.ended) (pushed before name x.kind made.value (Some x.scalar) same)

made_named : (place : Place) (before : Outputs) (value : SqlExpr) (name : List ℕ) (w : Walk) (after : Outputs) (w' : Walk) → SameNames before → made_item place before value name w ≡ done after w' → SameNames after
unfolding made_item
made_named place before value name w after w' same walked =
    let room = in_turn (room_for_output before w) (λ _. expr value place >>= (λ x. made_output before name x x.bare)) after w' walked in
    let x = in_turn (expr value place room.middle) (λ x. made_output before name x x.bare) after w' room.ended in
    output_named before name x.value (x.value).bare x.middle after w' same x.ended

alias_named : (place : Place) (alias : List ℕ) (before : Outputs) (w : Walk) (after : Outputs) (w' : Walk) → SameNames before → alias_star place alias before w ≡ done after w' → SameNames after
unfolding alias_star
alias_named place alias before w after w' same walked = by (is_among alias w.taken) walked
  where
    each_column : (b : Outputs) (entry : Entry) (v : Walk) (b' : Outputs) (v' : Walk) → SameNames b → alias_column place.keys alias b entry v ≡ done b' v' → SameNames b'
    each_column b entry v b' v' now walked = choose (bytes_eq alias entry.alias) walked
      where
        choose : (t : Bool) → (if t then star_column place.keys (Some alias) b entry else pure b) v ≡ done b' v' → SameNames b'
        choose true walked = star_named place.keys (Some alias) b entry v b' v' now walked
        choose false walked = subst SameNames (done_value walked) now

    by : (t : Bool) → (if t then over (alias_column place.keys alias) before place.own w else refused (UnknownColumn (alias ++ codes ".*"))) ≡ done after w' → SameNames after
    by true walked = over_keeps SameNames (alias_column place.keys alias) each_column place.own before w after w' same walked
    by false walked = refused_not_done walked

item_named : (place : Place) (before : Outputs) (i : Item) (w : Walk) (after : Outputs) (w' : Walk) → SameNames before → item_walk place before i w ≡ done after w' → SameNames after
item_named place before (item.AliasStar alias) w after w' same walked = alias_named place alias before w after w' same walked
item_named place before (item.Made x name) w after w' same walked = made_named place before x (item_name x name (length before.items + 1)) w after w' same walked

star_all : (place : Place) (w : Walk) (outputs : Outputs) (w' : Walk) → over (star_column place.keys None) no_outputs place.own w ≡ done outputs w' → SameNames outputs
star_all place w outputs w' walked = over_keeps SameNames (star_column place.keys None) (star_named place.keys None) place.own no_outputs w outputs w' refl walked

pub items_named : (part : Role) (place : Place) (items : Items) (w : Walk) (outputs : Outputs) (w' : Walk) → items_walk part place items w ≡ done outputs w' → SameNames outputs
items_named part place (Listed items) w outputs w' walked = over_keeps SameNames (item_walk place) (item_named place) items no_outputs w outputs w' refl walked
items_named role.Exists place Star w outputs w' walked = subst SameNames (done_value walked) refl
items_named role.In place Star w outputs w' walked = star_all place w outputs w' walked
items_named role.DerivedTable place Star w outputs w' walked = star_all place w outputs w' walked
items_named role.Statement place Star w outputs w' walked = star_all place w outputs w' walked
