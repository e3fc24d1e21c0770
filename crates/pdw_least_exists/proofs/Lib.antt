-- the offers of the group at hand are looked at, and its moves until no bound falls
mod Looks
-- group after group
mod Everywhere
