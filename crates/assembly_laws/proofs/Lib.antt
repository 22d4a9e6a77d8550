pub mod RowLists
pub mod TidiedTempos
pub mod ProcessedTempos
pub mod FlatStops
pub mod TidyTiming
