pub mod Uniform
