-- the model of an engine
pub mod Ledger
-- the queues, and the replies of an input added to them
pub mod Queued
-- the effect of each call, and the causes of a refusal
pub mod Step
-- inner: replies added one after another
pub mod Outbox
-- inner: the contracts between the engine's parts
pub mod Inner
