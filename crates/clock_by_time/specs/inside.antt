pub mod AllTimes
pub mod OnTheWay
