-- Verdicts: which refusal is given, and at which place. Document 01, section "Refusal numbers".
pub mod Verdict
