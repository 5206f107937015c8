pub mod LogTexts
pub mod ComparisonTexts
pub mod Examples
