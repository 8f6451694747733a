pub mod LongScripts
