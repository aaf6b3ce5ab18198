pub mod Runs
pub mod Forecasts
