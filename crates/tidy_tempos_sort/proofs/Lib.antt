pub mod MayPrecede
pub mod PairsInserted
pub mod SortedByHalves
pub mod Sortable
