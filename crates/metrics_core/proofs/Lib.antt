pub mod Grown
pub mod KeyHasherSteps
pub mod LeastDiffering
pub mod SortedLists
pub mod ComparedLabels
pub mod Digits
pub mod KindTests
pub mod Lists
