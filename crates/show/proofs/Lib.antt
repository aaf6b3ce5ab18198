pub mod Paint
pub mod Numbers
pub mod Passing
pub mod Undo
