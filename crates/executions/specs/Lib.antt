-- Executions of an event graph, and what is asked of them. Document 01, section "Executions".
pub mod Execution
pub mod Separation
pub mod Steps
pub mod Schedule
