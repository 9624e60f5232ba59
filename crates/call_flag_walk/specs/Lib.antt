-- The walk of set_flg.
pub mod Serving
