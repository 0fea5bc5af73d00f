mod Fits
mod Follows
mod Memory
