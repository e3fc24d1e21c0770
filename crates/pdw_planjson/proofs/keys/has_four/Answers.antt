use Rattle.std.proofs.Common.{◌==◌, sym, ap, ◌∙◌, false, option_map, unwrap_or}
use Rattle.serde_json.proofs.Views.{members_len-members_view}
use Rattle.serde_json.specs.Data.{Members}
use Rattle.serde_json.specs.Events.{members_len}
use Rattle.pdw_planjson.proofs.keys.has_four.Goals as goal

pub returns-in-Some : goal.returns-in-Some
returns-in-Some c =
    ap (λ count. count == 4) (c.len.ensures.len ∙ sym (members_len-members_view c.in-Some.members.now.entries))
    ∙ ap (λ members. unwrap_or (option_map (λ (ms : Members). members_len ms == 4) members) false) c.in-Some.ensures
