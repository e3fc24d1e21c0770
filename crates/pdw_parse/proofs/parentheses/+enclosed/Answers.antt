use Rattle.std.proofs.Common.{rules}
use Rattle.pdw_parse.proofs.NestedReads.{stops_before, stops_inside, stops_after, closes}
use Rattle.pdw_parse.proofs.parentheses.+enclosed.Goals as goal

pub returns-in_err-open : goal.returns-in_err-open
returns-in_err-open t c = search (rules, stops_before)

pub returns-in_err-content : goal.returns-in_err-content
returns-in_err-content t c = search (rules, stops_inside)

pub returns-in_err-take_sign : goal.returns-in_err-take_sign
returns-in_err-take_sign t c = search (rules, stops_after)

pub returns : goal.returns
returns t c = search (rules, closes)
