pub mod QueueLemmas
pub mod SendingLemmas
