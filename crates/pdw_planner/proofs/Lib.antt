-- what is planned is undercut by no plan
pub mod Undercut
-- The checker accepts what is planned
pub mod Accepted
