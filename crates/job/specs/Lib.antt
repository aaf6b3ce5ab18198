pub mod Jobs
pub mod Laws
pub mod Examples
