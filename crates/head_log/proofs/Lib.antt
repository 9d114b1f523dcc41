mod Going
mod Counting
mod Digesting
