-- how many nodes plans have
mod Counts
