-- Items with their places: one item more
pub mod Places
