pub mod OrNoRoom
