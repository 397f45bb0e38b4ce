pub mod Decimals
pub mod Cuts
pub mod Forms
pub mod MarketNumbers
pub mod Faults
pub mod ReadLines
pub mod LineTexts
pub mod StoredKinds
pub mod ListedLines
pub mod FlexibleLines
pub mod LineBytes
pub mod LineSteps
-- lemmas, which the laws of the kinds cite
pub mod FlexibleLaws
pub mod Numerals
pub mod Letters
pub mod ListedLaws
