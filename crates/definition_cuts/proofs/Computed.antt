pub mod CutsTable
