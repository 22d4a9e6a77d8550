pub mod PlacesInOrder
pub mod SortedWay
