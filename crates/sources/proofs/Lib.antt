pub mod Odds
