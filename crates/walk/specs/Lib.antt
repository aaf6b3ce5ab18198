pub mod Lists
pub mod Places
pub mod Walk
pub mod Count
pub mod Price
pub mod Numbered
pub mod Theorems
pub mod Asked
