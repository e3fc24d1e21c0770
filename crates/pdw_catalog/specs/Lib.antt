pub mod Table
pub mod Catalog
pub mod Appliance
pub mod NodeBags
pub mod Database
pub mod Sample
