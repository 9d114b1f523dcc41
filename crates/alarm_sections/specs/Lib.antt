-- trades of linked orders
pub mod Linked
-- alarms
pub mod Alarms
