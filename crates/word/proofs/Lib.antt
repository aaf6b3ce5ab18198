pub mod Figures
pub mod Scan
pub mod LongestRuns
