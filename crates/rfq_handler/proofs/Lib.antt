-- lists of replies, and facts
pub mod Lists
-- rooms, by their plans
pub mod Rooms
-- causes of refusals
pub mod Refused
-- the answer to a request
pub mod Requesting
-- the answer to a withdrawal
pub mod Withdrawing
-- the answer to a quote
pub mod Showing
pub mod Makers
pub mod Quoting
-- the answer to a quote response
pub mod Responding
