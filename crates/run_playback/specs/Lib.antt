-- Worked examples of inputs and their texts.
pub mod Examples
