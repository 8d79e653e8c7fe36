mod Counted
mod Room
