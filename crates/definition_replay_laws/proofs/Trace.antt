pub mod TraceLaws
pub mod TraceRows
pub mod TraceTexts
pub mod TraceNumbers
pub mod TraceByNumber
