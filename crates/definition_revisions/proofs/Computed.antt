pub mod ComparedRows
