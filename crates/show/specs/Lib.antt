pub mod Stretches
pub mod Faults
pub mod Ends
pub mod Numbers
pub mod Held
pub mod Ended
pub mod Glimpses
