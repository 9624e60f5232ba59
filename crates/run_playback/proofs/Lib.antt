-- The text of an input: by both kernels, and worked examples.
pub mod PlainText
pub mod Examples
