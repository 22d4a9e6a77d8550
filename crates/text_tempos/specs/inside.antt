pub mod TextsLeft
