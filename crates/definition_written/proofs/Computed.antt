pub mod WrittenShown
