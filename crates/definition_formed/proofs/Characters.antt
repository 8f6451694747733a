pub mod WholeChars
pub mod CharsAt
pub mod TextsRead
