mod Changing
mod Counting
mod Freeing
mod Imaging
mod Shown
mod Stepping
