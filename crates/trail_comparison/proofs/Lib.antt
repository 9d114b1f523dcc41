pub mod Replies
pub mod Differing
pub mod Shared
pub mod SideBySide
pub mod Alone
pub mod Places
pub mod BothRuns
pub mod Silent
