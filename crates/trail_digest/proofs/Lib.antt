mod Encoding
mod Digests
mod SameTrails
