-- Document 01's proved figures, as statements about graphs, executions and process graphs.
pub mod Figures
