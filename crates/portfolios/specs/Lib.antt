pub mod Payments
pub mod Amounts
