mod Chains
mod Finds
