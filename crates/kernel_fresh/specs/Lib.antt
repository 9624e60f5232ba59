-- What a plan writes into the memory.
pub mod Laying
