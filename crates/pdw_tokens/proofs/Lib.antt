-- a loop that reads texts one after the other
mod Turns
