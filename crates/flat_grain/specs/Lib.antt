pub mod Grain
