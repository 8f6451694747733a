pub mod FieldTurns
