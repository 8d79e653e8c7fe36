mod Held
mod Taken
mod Kept
mod Drained
mod Windows
mod Shown
