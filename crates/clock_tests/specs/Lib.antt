pub mod TimingNumbers
pub mod CursorNumbers
