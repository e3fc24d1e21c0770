use Rattle.std.proofs.Common.{◌≡◌, ◌∙◌, ap, of_z, rules, to_z, w64}
use Rattle.pdw_show.specs.Refusal.{setting_line}
use Rattle.pdw_show.proofs.refusal.setting.Goals as goal

pub returns : goal.returns
returns c =
    let read : to_z w64 (of_z w64 c.args.amount) ≡ c.args.amount = search rules in
    c.in_ok-format.ensures.ok ∙ ap (setting_line c.args.k c.args.name.now) read
