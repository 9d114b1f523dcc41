pub mod Theirs
