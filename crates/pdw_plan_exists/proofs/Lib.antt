-- the rows of the root under a property that costs least
mod Cheapest
-- a plan that is read off a log
mod OffLog
-- whatever tree a memo is of, its moves cost the same
mod SameCosts
-- the least plan
mod LeastPlan
-- least plans cost the same
mod OneCost
