pub mod RowByRow
pub mod TimingTaken
pub mod CursorTaken
