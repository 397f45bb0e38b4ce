pub mod Kinds
pub mod CornerPrices
pub mod Sides
pub mod ContractRefusals
pub mod ListedOptions
pub mod FlexibleOptions
-- lemmas, which the laws of the kinds cite
pub mod FlexibleRules
pub mod SameContracts
pub mod ListedRules
