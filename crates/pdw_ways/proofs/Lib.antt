-- folds over plans, and induction over plans
pub mod PlanFolds
-- the order of numbers and unreachable
pub mod Numbers
-- properties that are the same are equal
pub mod Same
-- valid bounds are at most what each plan costs
pub mod Under
-- what moves cost at most
pub mod CostLemmas
-- valid bounds that plans cost are least
pub mod LeastCosts
-- where a property stands among those of a group
pub mod Places
-- what tries of ways come to
pub mod Improves
-- the joins that are tried are those that the rule allows
pub mod JoinWays
-- the ways of expressions that are tried are all of them
pub mod ExprWays
-- so are moves and free changes
pub mod InnerWays
-- the offers that are found are the cheapest
pub mod LeastOffers
