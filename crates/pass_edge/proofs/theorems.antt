-- The edges of sound stored edges are edges of the call.
pub mod FormedLaws
pub mod Theorems
