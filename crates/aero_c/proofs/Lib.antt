mod Pointers
mod Values
