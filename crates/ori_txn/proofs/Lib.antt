mod Merging
mod Showing
