pub mod Marks
pub mod Rows
pub mod Shapes
pub mod ReadSteps
pub mod Lengths
